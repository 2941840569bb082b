-- A class book as bytes that are judged, and as data.
pub mod Texts
pub mod Described
pub mod Entry
pub mod Books
