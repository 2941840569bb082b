-- The laws of libraries that are numbered by first need.
pub mod Laws
