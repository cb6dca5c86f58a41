pub mod History
pub mod Known
