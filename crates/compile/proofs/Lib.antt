-- Rows to Alike: the exploration, on plain values. Written, Records: what is written. Answers: the answer, from the
-- parts. Back to Valid: the image that was written, read again; Reading: by the second pass itself. Theorems: what a
-- compile gives. Examples: document 01's books, computed.
pub mod Rows
pub mod Same
pub mod Seek
pub mod Meet
pub mod Opening
pub mod Leading
pub mod Alike
pub mod Written
pub mod Records
pub mod Answers
pub mod Back
pub mod Reading
pub mod Shown
pub mod Valid
pub mod Theorems
pub mod Examples
