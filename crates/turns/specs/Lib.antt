-- What a slot waits for, and a kind byte with its record.
pub mod Due
pub mod Records
