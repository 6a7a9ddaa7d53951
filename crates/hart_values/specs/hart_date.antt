-- Dates.
pub mod Calendar
