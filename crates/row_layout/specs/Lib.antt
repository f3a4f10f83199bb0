pub mod Places
pub mod Limbo
