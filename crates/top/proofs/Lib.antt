pub mod AnswerLemmas
pub mod AuditLemmas
pub mod CallLemmas
pub mod FileLemmas
pub mod KeptLemmas
pub mod Known
pub mod RunLemmas
pub mod SummaryLemmas
pub mod Sums
pub mod ToldLemmas
mod Rows
