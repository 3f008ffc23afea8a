-- What Gusemrak speaks of, in the reading order: choices, a text and what it leads to, chains, places, a book, an image as
-- the questions asked of it, the walk, the records of a run, what a call answers. Definitions only; the theorems are in proofs/.
pub mod Choice
pub mod Text
pub mod Chain
pub mod Places
pub mod Book
pub mod Questions
pub mod Walk
pub mod Records
pub mod Answer
pub mod Refusal
