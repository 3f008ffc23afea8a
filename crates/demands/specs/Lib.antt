-- The three demands of the mission, each on a page of its own, in the words of `Words`. Beside them: the starred cases of
-- document 01 as one table (Starred), and that no second outcome meets a contract (Determined).
pub mod Words
pub mod Demand1
pub mod Demand2
pub mod Demand3
pub mod Parts
pub mod Starred
pub mod Determined
