-- Numbers and records in bytes: the one layer that knows how a number lies in memory.
pub mod Little
pub mod Record
