-- The compile. To be believed: Bytes (a book's image in bytes) and Answer (what a compile answers). The rest is what
-- the functions below it ask and answer: Work (the places' rows), Explore (finding the places), Write (writing the
-- image); Held, Exploring and Writing say what the structs hold.
pub mod Bytes
pub mod Answer
pub mod Work
pub mod Explore
pub mod Exploring
pub mod Held
pub mod Write
pub mod Writing
