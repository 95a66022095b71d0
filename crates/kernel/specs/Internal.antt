-- What clauses of private functions cite.
pub mod Sums
