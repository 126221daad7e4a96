pub mod Windows
pub mod Refusals
pub mod Answers
pub mod Said
pub mod Code
