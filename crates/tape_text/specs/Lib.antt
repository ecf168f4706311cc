pub mod Reading
pub mod Listing
pub mod Messages
