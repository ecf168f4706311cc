pub mod System
pub mod Chain
pub mod Binary
pub mod Decimal
