-- What options choose, and the laws of it.
pub mod Options
pub mod Laws
pub mod Words
