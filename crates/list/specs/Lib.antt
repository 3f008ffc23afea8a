-- What one part of the listing is.
pub mod Part
