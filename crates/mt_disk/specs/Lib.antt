pub mod Calls
pub mod Crash
pub mod Disk
pub mod Fault
pub mod File
pub mod LeftBy
pub mod Memory
pub mod Unsynced
