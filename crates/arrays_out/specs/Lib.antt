-- Laws of one row's record.
pub mod Laws
