pub mod Punching
pub mod Again
pub mod Enough
