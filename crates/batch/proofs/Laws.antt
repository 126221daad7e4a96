-- The laws, one file per notion: proved once, and cited from then on.
pub mod Refusals
pub mod Runs
pub mod Answers
