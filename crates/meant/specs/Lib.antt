-- What the stream of a list says, by its rows, is what its records mean.
pub mod Orders
pub mod Agree
pub mod Laws
