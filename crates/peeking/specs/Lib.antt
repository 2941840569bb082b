-- What stands at a place of a stream, and the laws of it.
pub mod Peeking
pub mod Laws
