-- From the check to the run. `Scan`, `Right`, `Verdict`: the check, record by record and row by row. `Seek`: the search
-- of a place's edges. `Accepted`, `Links`, `Laws`: what an accepted image obeys. `Writing`, `Tables`, `Rows`, `Report`,
-- `Move`, `Turn`: the run, one turn of each loop. `Judged`, `Runs`, `Asking`, `Opened`: what each call answers. `Told`:
-- answers as numbers are kept apart. `Examples`: book A.
pub mod Scan
pub mod Right
pub mod Verdict
pub mod Seek
pub mod Accepted
pub mod Links
pub mod Laws
pub mod Writing
pub mod Tables
pub mod Rows
pub mod Report
pub mod Move
pub mod Turn
pub mod Judged
pub mod Runs
pub mod Asking
pub mod Opened
pub mod Told
pub mod Examples
