pub mod Frames
pub mod Linked
pub mod Moved
pub mod Picking
pub mod Requeued
mod Rows
pub mod Runs
pub mod Steps
pub mod Swept
pub mod Tops
pub mod Totals
pub mod Trying
pub mod Walking
