pub mod Failures
pub mod Complaints
pub mod Orphans
pub mod Colours
