-- What clauses of private functions cite.
pub mod Asked
pub mod Channels
pub mod Laying
pub mod Queues
