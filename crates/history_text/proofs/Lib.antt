pub mod Amounts
pub mod ByteCells
pub mod Reached
pub mod Spelled
pub mod Tried
