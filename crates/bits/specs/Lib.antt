pub mod Below
pub mod Each
pub mod Word
