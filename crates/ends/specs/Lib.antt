-- Where the fields of a record end.
pub mod Arrays
pub mod Headings
