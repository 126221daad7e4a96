pub mod Outcomes
pub mod Tables
pub mod Refusals
pub mod Bytes
pub mod Said
pub mod Fields
pub mod Code
