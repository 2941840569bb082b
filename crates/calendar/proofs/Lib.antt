-- What holds of the dates and of a DateTime in dates.
pub mod Dates
pub mod Moments
