-- Parts of a class record by name, and where its fields end.
pub mod Ends
pub mod Stages
pub mod Moves
