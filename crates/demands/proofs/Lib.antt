-- What is proved of these definitions.
pub mod Calls
pub mod Tidyings
pub mod Lenient
pub mod Texts
pub mod Exactly
pub mod Jobs
pub mod Wrong
