pub mod Kinds
pub mod Rooms
pub mod Changes
pub mod PageLists
