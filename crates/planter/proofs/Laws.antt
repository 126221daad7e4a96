-- The laws, one file per notion: proved once, and cited from then on.
pub mod Timely
pub mod Pieces
pub mod Changes
pub mod Shorter
