-- Answers of tests, parts of a stream, fields that judge their bytes, fields one after the other.
pub mod Tests
pub mod Parts
pub mod Pairs
pub mod Tried
pub mod Parted
pub mod Judged
pub mod Sequence
pub mod Auto
