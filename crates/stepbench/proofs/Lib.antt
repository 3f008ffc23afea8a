-- The turn of the one loop.
pub mod Summing
