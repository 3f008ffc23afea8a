-- The demands, proved: `demand1`, `demand2`, `demand3`. Below them: what a compile wrote (Images), what a run wrote (Lists).
-- Beside them: the starred cases of document 01 as one table (`starred`), and that no second outcome meets a contract
-- (`determined`), each contract tied to its source (Tied).
pub mod Numbered
pub mod Demand1
pub mod Images
pub mod Demand3
pub mod Lists
pub mod Demand2
pub mod Parts
pub mod Starred
pub mod Determined
pub mod Tied
