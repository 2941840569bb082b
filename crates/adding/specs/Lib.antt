-- How the code holds the machine's state, and the laws of a step.
pub mod Held
pub mod Laws
