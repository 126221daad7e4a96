-- The laws, one file per notion: proved once, and cited from then on.
pub mod Bools
pub mod Below
pub mod Most
pub mod Sums
pub mod Lists
pub mod Word
pub mod Sweep
pub mod Arrays
