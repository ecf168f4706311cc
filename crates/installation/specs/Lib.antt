pub mod Worlds
pub mod Calls
pub mod Numbers
