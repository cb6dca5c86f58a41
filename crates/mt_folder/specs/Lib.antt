pub mod Folders
pub mod Reasons
