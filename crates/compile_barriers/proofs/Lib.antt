mod Firsts
pub mod Members
mod Worked
