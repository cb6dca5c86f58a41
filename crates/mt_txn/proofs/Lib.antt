pub mod Showing
pub mod Living
pub mod Answering
pub mod Barring
pub mod Beginning
pub mod Stepping
mod Failing
mod Surveyed
pub mod Restarting
pub mod Due
pub mod GoingOn
pub mod Detached
