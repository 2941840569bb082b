-- What the public jobs reply, as numbers.
pub mod Replies
