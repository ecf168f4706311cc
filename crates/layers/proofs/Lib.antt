pub mod Pages
pub mod Stores
pub mod Loads
