-- How the reader holds the open objects, and the laws of it.
pub mod Frames
pub mod Laws
