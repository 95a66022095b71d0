pub mod Commands
pub mod Faultless
pub mod Fitting
pub mod Judging
pub mod LeftOut
pub mod Lists
pub mod Masks
pub mod OneProgram
pub mod OwnStages
pub mod OwnViews
pub mod Programs
pub mod Replaced
mod Rows
pub mod Stands
pub mod Trials
pub mod Turning
pub mod Walks
pub mod Weights
