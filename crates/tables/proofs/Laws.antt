-- The laws of tables, lists and checks: proved once, and cited from then on.
pub mod Refusals
pub mod Accepted
pub mod Small
pub mod Bytes
pub mod Said
pub mod Noted
pub mod InBytes
