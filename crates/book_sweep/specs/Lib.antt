pub mod Sweeping
pub mod Freeing
