-- The machine of format over the bytes of a Decimal takes exactly what the rules say is one.
pub mod Numbers
pub mod Bytes
pub mod Written
pub mod Taken
pub mod Exactly
