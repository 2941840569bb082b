-- What a stretch of kept rows is, and what a loop over its rows has left to do.
pub mod Stretches
