-- What clauses of private functions, and the model of rows, cite.
pub mod Closing
pub mod Fields
