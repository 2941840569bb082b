-- What a user can be taught to trust.
pub mod Readings
pub mod Unneeded
pub mod Books
pub mod Records
pub mod Copies
pub mod Settled
pub mod Calls
pub mod Tidyings
pub mod Texts
pub mod Views
pub mod Exactly
pub mod Jobs
pub mod Examples
pub mod Wrong
pub mod Lost
