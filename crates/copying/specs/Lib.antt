-- The laws of the copy: row by row, and of rows that are kept and follow one another.
pub mod Laws
pub mod Kept
