pub mod Putting
pub mod Coded
