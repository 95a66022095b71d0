pub mod Judged
pub mod Known
pub mod Laws
pub mod Tables
pub mod Walks
mod Worked
