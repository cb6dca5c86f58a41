pub mod Among
pub mod Asking
pub mod Entries
pub mod Keys
pub mod Noting
pub mod Tables
