-- The readings that the grammar allows against what the machine accepts.
pub mod Rows
pub mod Steps
pub mod Frames
pub mod Shape
pub mod Firsts
pub mod Rest
pub mod Fills
pub mod Before
pub mod Goal
pub mod Said
pub mod StepSaid
pub mod Derive
pub mod Accept
