-- The laws, one file per notion: proved once, and cited from then on.
pub mod Counts
pub mod Rows
pub mod Refusals
pub mod Changes
pub mod Answers
pub mod Indexes
pub mod Said
