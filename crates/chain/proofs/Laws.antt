-- The laws, one file per notion: proved once, and cited from then on.
pub mod Refusals
pub mod Table
pub mod Reading
pub mod Appending
pub mod Same
pub mod Walk
pub mod Appended
pub mod Season
pub mod Cases
pub mod Said
