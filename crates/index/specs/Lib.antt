pub mod Counts
pub mod Rows
pub mod Refusals
pub mod Answers
pub mod Said
pub mod Code
