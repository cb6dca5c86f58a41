pub mod Explanations
pub mod Histories
pub mod Listings
