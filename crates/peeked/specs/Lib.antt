-- Where the format's definitions find a number, a text, the end of a value or a row, programs for people find the same; and a row fills as many
-- slots as they count.
pub mod Numbers
pub mod Strings
pub mod Values
pub mod Rows
pub mod Slots
