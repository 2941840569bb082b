-- A good model, written, is read and says the same.
pub mod Rows
pub mod Nested
pub mod Own
pub mod Read
pub mod Orders
pub mod Names
pub mod Said
pub mod Again
