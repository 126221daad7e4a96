pub mod Promise
pub mod Laws
pub mod Example
pub mod Unique
