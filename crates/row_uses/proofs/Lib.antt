pub mod Tally
pub mod Lists
pub mod Visits
pub mod Closings
pub mod SownPlaces
pub mod SownSteps
pub mod Starts
pub mod SownPair
