-- The laws of text: for its check, for callers, and for the theorem that text is UTF-8.
pub mod Steps
pub mod Scalars
pub mod Rows
pub mod Rests
pub mod Left
pub mod Walked
pub mod Laws
