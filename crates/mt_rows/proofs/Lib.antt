pub mod Order
pub mod RowLemmas
pub mod Altered
pub mod Listings
pub mod Relations
pub mod Members
mod Sorting
pub mod Same
