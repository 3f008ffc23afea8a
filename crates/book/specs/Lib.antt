-- A book in bytes, the model it holds, the refusals, what the functions answer; in the reading order.
pub mod Form
pub mod Model
pub mod Rules
pub mod Reads
