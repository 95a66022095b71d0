pub mod MoreLines
mod Rows
