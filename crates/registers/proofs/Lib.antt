pub mod Rows
pub mod Differing
pub mod Same
