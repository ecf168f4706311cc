pub mod Taken
pub mod Letters
