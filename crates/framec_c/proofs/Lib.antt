pub mod AtRest
mod Rows
