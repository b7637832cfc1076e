pub mod Orphans
pub mod Paints
