pub mod Promise
pub mod Example
pub mod Laws
