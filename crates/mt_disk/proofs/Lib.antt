pub mod Frame
mod InTurn
mod Kept
mod Past
