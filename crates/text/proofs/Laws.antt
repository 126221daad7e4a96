-- The laws, one file per notion: proved once, and cited from then on.
pub mod Reading
pub mod Writing
pub mod Put
pub mod ReadBack
