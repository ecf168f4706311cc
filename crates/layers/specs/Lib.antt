pub mod Layers
pub mod Pages
pub mod Kept
