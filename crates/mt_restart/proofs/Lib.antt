mod Refusals
mod ImageRecords
mod Sizes
mod Slots
mod Elsewhere
mod Read
pub mod Ruled
mod NextArea
mod Staying
mod Renewed
mod Restarting
mod Again
mod Based
mod Surveying
mod Opened
pub mod EarlyCauses
mod Rotations
pub mod Standings
mod Unlost
mod Migrating
mod Counted
pub mod Living
