-- What tidying puts into words of rows: the definitions, then the laws of rows and of places by which code reads and writes them.
pub mod Marks
pub mod Rows
pub mod Places
