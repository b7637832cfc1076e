pub mod TableLemmas
pub mod LocalSteps
