pub mod Touches
pub mod Victims
pub mod Owners
pub mod Index
pub mod Work
pub mod Refresh
pub mod Ages
