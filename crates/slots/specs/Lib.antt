-- Laws of the slots.
pub mod Slots
