-- The laws of the table: any width of row, the rows of eight words.
pub mod Chunks
pub mod Rows
