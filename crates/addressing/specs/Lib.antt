pub mod Lengths
pub mod Addresses
pub mod Operands
pub mod Fetching
pub mod Models
