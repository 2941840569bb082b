-- Where two tidy copies first differ and the row that holds a place, the laws that make them the right ones, and those of a walk.
pub mod Difference
pub mod Laws
