-- Laws and theorems of the crate, in the order in which they build on each other; `Accepted` and `Note` are what they are for.
--   Cases               tests and options taken apart
--   Read, Turn          what the readers read; one turn of each search over records
--   Judged              the rules, row by row
--   Model, Look         the model of a table, and what is found in it
--   Searches            what a search that finds nothing went past
--   Sound               a table that breaks no rule, found in one pass
--   Accepted            what an accepted book is
--   Note                what stands before the state table changes nothing
--   Examples            document 01's book A, computed
pub mod Cases
pub mod Read
pub mod Turn
pub mod Answers
pub mod Judged
pub mod Model
pub mod Searches
pub mod Look
pub mod Sound
pub mod Accepted
pub mod Note
pub mod Examples
