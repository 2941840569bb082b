-- The laws of strings and details that were judged before.
pub mod Spans
pub mod Judged
