pub mod Meaning
pub mod Rules
pub mod Kinds
pub mod Kept
pub mod Eights
