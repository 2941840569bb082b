-- What is written, piece by piece, and the laws of it.
pub mod Copy
pub mod Laws
