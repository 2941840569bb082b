-- What a value and a row of values say, and where they end.
pub mod Judged
pub mod Keeps
