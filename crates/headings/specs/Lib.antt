-- The fields of a record by its kind.
pub mod Headings
