pub mod Overlaid
mod Placed
