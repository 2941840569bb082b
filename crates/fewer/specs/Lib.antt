-- The tidy copy has no more records than the list has rows.
pub mod Libraries
pub mod Fewer
