pub mod Edits
pub mod Limits
pub mod Modes
pub mod Ranges
pub mod Refusal
pub mod Touched
