pub mod Loads
pub mod Sweeping
