pub mod AnswerLemmas
pub mod BoundLemmas
pub mod ExportLemmas
pub mod KeptLemmas
pub mod LineEnd
pub mod PlaceLemmas
mod Rows
