pub mod Numbers
pub mod FreeNumbers
