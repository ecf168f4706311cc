pub mod Faults
pub mod Sheets
pub mod Trees
pub mod Readings
