pub mod Performs
pub mod Reads
pub mod Serves
