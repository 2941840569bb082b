-- Laws of numbers: what bytes say and how a number is written; what is read at a place.
pub mod Le
pub mod Read
