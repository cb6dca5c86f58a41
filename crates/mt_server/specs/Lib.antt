pub mod Crews
pub mod Heard
pub mod Hearing
pub mod Serves
