pub mod SmallLemmas
pub mod NameLemmas
pub mod StayLemmas
