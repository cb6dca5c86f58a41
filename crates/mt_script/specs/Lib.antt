pub mod Answers
pub mod Grammars
pub mod LineFaults
pub mod Lines
pub mod Whole
pub mod Scripts
