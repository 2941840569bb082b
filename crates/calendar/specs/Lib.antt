-- The calendar, its laws, what holds of its dates, and the range of a DateTime in dates.
pub mod Calendar
pub mod Laws
pub mod Dates
pub mod Moments
