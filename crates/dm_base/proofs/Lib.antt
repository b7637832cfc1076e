-- Lemmas of the crate.
mod NamedWords
pub mod HomeLemmas
pub mod SeesLemmas
