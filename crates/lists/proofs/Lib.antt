-- The laws, in the order in which they build on one another: bytes written one after the other; records in bytes; the
-- short list; the part of a log; decimal numbers; what is written into a text; the lines of a listing. Then
-- what an answer tells, and cases of document 01.
pub mod Wrote
pub mod Whole
pub mod Keeping
pub mod Parts
pub mod Decimal
pub mod Writes
pub mod Lines
pub mod Told
pub mod Examples
