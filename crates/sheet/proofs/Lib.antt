pub mod Laws
pub mod Example
pub mod Promise
pub mod Readings
pub mod Unique
