pub mod Spelled
pub mod Beginnings
pub mod Behind
