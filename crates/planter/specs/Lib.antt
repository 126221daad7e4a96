pub mod Table
pub mod Admission
pub mod Answers
pub mod Code
