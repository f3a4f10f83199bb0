pub mod Calls
pub mod Restoring
pub mod Saving
