-- What a kind byte says.
pub mod Kinds
