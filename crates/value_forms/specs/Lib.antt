-- One law for each answer of a form of a value.
pub mod Ends
