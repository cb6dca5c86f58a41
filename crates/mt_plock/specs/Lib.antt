pub mod Holding
pub mod Releasing
