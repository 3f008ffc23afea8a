-- What the bench's one function answers.
pub mod Sum
