pub mod Access
pub mod Accesses
