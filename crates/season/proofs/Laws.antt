-- The laws, one file per notion: proved once, and cited from then on.
pub mod Ranges
pub mod Rows
pub mod Reports
pub mod Own
pub mod Mean
pub mod Extremes
pub mod Lines
pub mod Season
pub mod Order
