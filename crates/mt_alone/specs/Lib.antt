pub mod Driven
pub mod Plays
pub mod Runs
pub mod Savepoints
pub mod Sessions
pub mod Stops
pub mod Turnovers
