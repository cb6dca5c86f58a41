pub mod CommandLines
pub mod Spelling
pub mod Tables
