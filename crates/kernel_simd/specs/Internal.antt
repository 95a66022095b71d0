-- What clauses of private functions cite.
pub mod Blocks
pub mod Inside
pub mod Painters
pub mod Targets
