-- The laws, one file per notion: proved once, and cited from then on.
pub mod Passing
pub mod Uppermost
pub mod Members
pub mod Alike
pub mod Shares
