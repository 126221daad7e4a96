pub mod Promise
pub mod Unique
pub mod Example
pub mod Readings
pub mod Laws
