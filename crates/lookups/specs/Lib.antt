-- Laws of the lookups.
pub mod Find
