pub mod Owners
pub mod Counts
pub mod Levels
pub mod Cut
pub mod Fronts
