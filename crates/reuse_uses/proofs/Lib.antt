pub mod Lists
pub mod Roots
pub mod Starts
