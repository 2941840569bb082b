-- Rows by the names of their words, the slots that they fill, what a class record says of its members, and the laws of these.
pub mod Members
pub mod Laws
