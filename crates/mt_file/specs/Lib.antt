pub mod File
pub mod Plans
pub mod Rooms
pub mod Puts
