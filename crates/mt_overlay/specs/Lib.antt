pub mod Overlays
pub mod Places
