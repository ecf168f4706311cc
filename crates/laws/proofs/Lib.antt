pub mod Ends
pub mod Registers
pub mod Worked
pub mod Left
pub mod Pairs
pub mod Undoing
pub mod ByHand
