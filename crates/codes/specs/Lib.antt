-- Laws of codes, and where a field of a type ends.
pub mod Codes
pub mod Ends
