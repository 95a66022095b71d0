pub mod Asked
pub mod Bits
pub mod Internal
pub mod Firsts
pub mod Points
