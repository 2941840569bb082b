-- Laws of lengths and their product.
pub mod Lengths
