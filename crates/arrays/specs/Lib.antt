-- Laws of the array records.
pub mod Stages
