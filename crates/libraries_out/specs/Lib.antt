-- The places of the writer: where a library stands that a record names.
pub mod Places
