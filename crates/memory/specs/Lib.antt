pub mod Pile
pub mod Blank
