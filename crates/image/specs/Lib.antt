-- An image, in the reading order: how it lies in bytes, when it is refused, what is asked of it, the numbers of each
-- answer, what each call comes to, what is seen of an open image. `Held`, `Steps`, `Sought` and `Running` are for the
-- private functions alone: nothing public cites them.
pub mod Form
pub mod Rules
pub mod Questions
pub mod Answers
pub mod Calls
pub mod Opened
pub mod Held
pub mod Steps
pub mod Sought
pub mod Running
