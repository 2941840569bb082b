-- The laws of compared bytes.
pub mod Laws
