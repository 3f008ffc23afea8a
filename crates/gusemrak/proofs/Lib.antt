-- `Determined`: no second outcome.
pub mod Determined
