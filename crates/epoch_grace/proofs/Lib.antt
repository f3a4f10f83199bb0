pub mod Loaded
pub mod Swept
pub mod Stocked
pub mod Gives
