-- The hash of words, the pattern before a job and the sizes before a stream, and the laws of them.
pub mod Traces
pub mod Laws
