-- The laws, one file per notion: proved once, and cited from then on.
pub mod Numbers
pub mod Sheets
pub mod Lines
pub mod Runs
pub mod WellFormed
