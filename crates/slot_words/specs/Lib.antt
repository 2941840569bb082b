-- A slot type as a word.
pub mod Words
