pub mod Internal
pub mod Driven
pub mod Firsts
pub mod Tended
