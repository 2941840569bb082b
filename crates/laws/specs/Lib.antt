-- Laws that more than one crate cites.
pub mod Tests
pub mod Kinds
pub mod Fields
pub mod Firsts
pub mod Orders
pub mod Numbers
pub mod Runs
pub mod Ids
pub mod Links
pub mod Answers
pub mod Classes
