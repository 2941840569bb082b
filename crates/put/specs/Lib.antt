-- What the writers put out, and their laws.
pub mod Out
pub mod Put
pub mod Pieces
