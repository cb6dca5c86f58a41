mod Cells
mod Hashes
mod Lists
mod Moves
mod Kept
