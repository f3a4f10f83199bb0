pub mod Removing
pub mod Cutting
pub mod Left
pub mod Detaching
