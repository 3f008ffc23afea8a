-- Lists of records: records in bytes, the short list, the part of a log that a record names, the groups of events, and
-- the text of the listing. Definitions only; the theorems are in proofs/.
pub mod Whole
pub mod Read
pub mod Short
pub mod Part
pub mod Group
pub mod Letters
pub mod Decimal
pub mod Wrote
pub mod Writes
pub mod Listing
