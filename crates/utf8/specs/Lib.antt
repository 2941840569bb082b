-- Text is UTF-8: the machine of format over the bytes of scalar values, and the theorems.
pub mod Widths
pub mod Firsts
pub mod Passes
pub mod Exactly
pub mod Chars
