pub mod Promise
pub mod Unique
pub mod Readings
pub mod Traced
pub mod Laws
