pub mod Printed
pub mod Sessions
