pub mod Local
pub mod Beside
pub mod Kept
pub mod Whole
pub mod LastStore
pub mod AnyBus
pub mod Running
