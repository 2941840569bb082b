-- The members of two classes side by side, and the laws of equal libraries and equal classes: the tests that a scan over the rows makes.
pub mod Members
pub mod Equal
