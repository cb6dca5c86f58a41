mod Rows
mod Apart
mod Acting
mod Entering
mod Leaving
mod Shifting
mod Counted
mod Adding
pub mod Extending
pub mod Picking
pub mod Repeating
pub mod Ranged
pub mod Single
pub mod Small
pub mod Asking
mod Promised
mod Modest
pub mod Formatting
mod Answered
mod Undoing
mod Crowding
mod Naming
mod Joined
pub mod Listed
mod RecordRows
pub mod HeldBase
mod ScanRows
