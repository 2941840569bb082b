-- The tidy job from its parts.
pub mod Top
