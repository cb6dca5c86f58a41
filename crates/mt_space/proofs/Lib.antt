pub mod Counting
pub mod Maps
pub mod Changing
pub mod MapLemmas
pub mod Following
