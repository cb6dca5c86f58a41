mod Fieldless
mod Editing
pub mod Places
pub mod EightBytes
pub mod Removing
mod Touching
