pub mod RangeApplied
pub mod RangeReady
pub mod EndMarks
pub mod EndRows
pub mod EndTables
pub mod RangeEnds
pub mod RangeOps
pub mod RangeLinked
