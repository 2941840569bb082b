-- The laws of the loop: what holds between two steps, what is left to run, and the ends of a stream.
pub mod Fine
pub mod Loop
pub mod Ends
