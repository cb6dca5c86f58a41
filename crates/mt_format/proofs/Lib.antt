pub mod Begun
mod Tears
mod Formed
mod Shut
mod Zeros
mod Assembled
pub mod Founded
pub mod Idled
