pub mod Ranging
pub mod Ends
