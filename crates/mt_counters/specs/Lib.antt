pub mod Counters
pub mod Extended
