pub mod Refusals
pub mod Letters
pub mod Processors
pub mod Steps
pub mod Histories
pub mod Theorem
pub mod Buses
