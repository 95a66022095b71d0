mod Blocks
pub mod Compiling
pub mod Contained
pub mod Counts
pub mod Distinct
pub mod Due
pub mod Entries
mod Growing
mod ImportExport
mod LateWait
pub mod Laid
pub mod Lengths
mod Members
pub mod Membership
mod OneFill
mod Placed
pub mod Places
mod RampAndMap
pub mod Scripted
pub mod Settings
pub mod Sides
pub mod Standing
pub mod Starts
mod Told
pub mod Touched
mod PrologueFacts
mod TwoLives
