pub mod Checks
pub mod Dumps
pub mod Explains
pub mod Formattings
pub mod Migrations
