pub mod Piles
pub mod Built
