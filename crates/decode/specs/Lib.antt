pub mod Codes
pub mod OneToOne
