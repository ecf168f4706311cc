pub mod Numbers
pub mod Binaries
