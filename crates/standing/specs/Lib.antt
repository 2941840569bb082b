-- What the rows of a stream that is taken say about the stream.
pub mod Standing
pub mod Steps
pub mod Accepted
pub mod Fields
pub mod Plain
pub mod Arrays
pub mod Linked
pub mod Known
pub mod Members
pub mod Cursors
pub mod Codes
