-- `Little`: what was written is read back, and everything else stays. `Sets`: bytes written one after the other.
pub mod Little
pub mod Sets
