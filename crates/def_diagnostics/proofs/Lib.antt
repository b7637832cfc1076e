pub mod TextLemmas
pub mod TakenLemmas
mod AddedLemmas
mod AmbiguousLemmas
pub mod KnownLemmas
pub mod OpenLemmas
mod ToldLemmas
