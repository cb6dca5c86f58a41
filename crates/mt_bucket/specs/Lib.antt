pub mod Entries
pub mod Hash
pub mod Page
pub mod Steps
