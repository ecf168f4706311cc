pub mod Conditions
pub mod States
pub mod Plans
pub mod Instructions
pub mod Models
