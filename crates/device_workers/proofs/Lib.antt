pub mod Counting
pub mod Holding
pub mod Moving
pub mod Paying
pub mod Stepping
pub mod Working
