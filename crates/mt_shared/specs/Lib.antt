pub mod Opens
pub mod Refusals
