pub mod Firsts
pub mod Formats
pub mod Schemas
pub mod Within
