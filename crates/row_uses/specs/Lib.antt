pub mod Uses
pub mod Tally
pub mod Sown
pub mod Takes
