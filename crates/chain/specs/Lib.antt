pub mod Layout
pub mod Trailer
pub mod Table
pub mod Refusals
pub mod Answers
pub mod Said
pub mod Walk
