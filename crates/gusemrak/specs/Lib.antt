-- The face for C and Rust: its answer struct, and that no second outcome meets its contracts.
pub mod Face
pub mod Determined
