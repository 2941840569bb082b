-- The comparing job: its promise, that it allows one outcome, what a caller learns from it, and the laws that its proof cites.
pub mod Sameness
pub mod Settled
pub mod Calls
pub mod Laws
