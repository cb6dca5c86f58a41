pub mod Filed
mod Moved
mod Planned
pub mod Roomed
pub mod Shaped
mod Slots
mod Trees
pub mod Whole
