pub mod Oks
mod Openings
