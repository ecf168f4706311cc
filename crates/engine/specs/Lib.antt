pub mod Loads
pub mod Machine
pub mod States
pub mod Visits
pub mod Runs
pub mod Promise
