-- Parts: what a part of the run comes to. Going: the run in parts, over an accepted image. Made: the image of a book.
-- Whole: nothing is cut, and the parts are the whole list.
pub mod Parts
pub mod Going
pub mod Made
pub mod Whole
