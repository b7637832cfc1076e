pub mod SmallTree
pub mod Maps
pub mod Modules
pub mod Building
pub mod Waiting
pub mod Finding
pub mod Program
pub mod Listing
