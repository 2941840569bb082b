-- The laws of the length prefix: read, written, one against the other, and refused.
pub mod Laws
pub mod Groups
pub mod Writing
pub mod Both
pub mod Widths
pub mod Sevens
