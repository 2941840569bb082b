-- Laws of the links.
pub mod Links
