-- The laws of the passes: a pass as a loop runs it, then what each pass does to a row.
pub mod Sweeps
pub mod Steps
