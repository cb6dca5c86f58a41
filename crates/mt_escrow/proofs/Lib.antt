mod Adding
mod Changing
mod Settling
mod Removing
mod Viewing
