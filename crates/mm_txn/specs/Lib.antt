pub mod Starting
pub mod Machines
pub mod Ending
pub mod Fit
pub mod Txns
pub mod Beginning
pub mod Looking
pub mod Committing
