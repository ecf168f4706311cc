pub mod Marks
pub mod Stores
