pub mod Promise
pub mod Unique
pub mod Example
pub mod Laws
