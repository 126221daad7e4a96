pub mod Grammar
pub mod Listing
pub mod Code
