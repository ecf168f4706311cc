pub mod Held
pub mod Boards
pub mod Answers
