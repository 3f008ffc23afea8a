-- `trailer_of` meets its contract. Assumes nothing.
use Rattle.book.proofs.Read.{trailer_read}
use Rattle.book.proofs.trailer_of.Goals as goal

pub returns : goal.returns
returns c =
    trailer_read _ _ _ _ _ _ c.trailer_at-at.ensures c.le32.ensures.is c.le16.ensures.is
    c.le16-2.ensures.is c.le16-3.ensures.is
