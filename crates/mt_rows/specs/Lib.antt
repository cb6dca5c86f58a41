pub mod Rows
pub mod Listing
