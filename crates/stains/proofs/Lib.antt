pub mod Bits
pub mod Storing
pub mod Making
