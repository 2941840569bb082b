-- Where the parts of a class book end, and how the judging goes on from entry to entry.
pub mod Moves
