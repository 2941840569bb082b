-- Where types and details end, and that they look at their bytes alone.
pub mod Keeps
