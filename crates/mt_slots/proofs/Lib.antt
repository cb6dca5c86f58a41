mod Checked
mod Compacting
mod Gaps
pub mod Listed
pub mod Pages
mod Placed
mod Settling
