-- The theorems of what Gusemrak speaks of, in the reading order. Examples computes the definitions alone: a definition
-- gone wrong shows there.
pub mod Examples
pub mod Cases
pub mod Text
pub mod Chain
pub mod Fails
pub mod Rest
pub mod Book
pub mod Keys
pub mod Numbering
pub mod Rules
pub mod Places
pub mod Edges
pub mod Walk
pub mod Shows
pub mod Image
pub mod Small
pub mod Records
pub mod Run
pub mod Alike
pub mod ImageRun
pub mod Loops
pub mod Refused
