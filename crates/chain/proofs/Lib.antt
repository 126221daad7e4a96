pub mod Promise
pub mod Example
pub mod Laws
pub mod Unique
