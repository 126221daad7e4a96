-- The laws, one file per notion: proved once, and cited from then on.
pub mod Counts
pub mod Jobs
pub mod Windows
pub mod Gathered
pub mod Refusals
pub mod Later
pub mod Answers
pub mod Said
