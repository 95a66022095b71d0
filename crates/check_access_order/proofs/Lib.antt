pub mod Forward
pub mod NodeKinds
pub mod Singles
pub mod Sites
pub mod StagesOf
pub mod Through
pub mod Ways
mod Worked
