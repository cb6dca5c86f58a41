pub mod Legal
pub mod Rule
pub mod Held
