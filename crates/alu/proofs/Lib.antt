pub mod Shifting
pub mod Overflow
pub mod Signs
pub mod Wholes
pub mod Lanes
pub mod Values
pub mod Shows
