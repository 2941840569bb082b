-- The laws of a prefix with the bytes that it counts, and of the prefixed string.
pub mod Counted
pub mod Laws
