pub mod Bits
pub mod State
pub mod Model
pub mod Rows
pub mod Marks
pub mod Differences
