-- Parts of records by name, and what the fields of a record say.
pub mod Stages
pub mod Laws
