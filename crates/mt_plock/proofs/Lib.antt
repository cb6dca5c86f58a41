mod Removing
mod Finding
