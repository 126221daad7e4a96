pub mod Laws
pub mod Readings
pub mod Unique
