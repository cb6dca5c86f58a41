pub mod HistoryLemmas
pub mod ListingLemmas
