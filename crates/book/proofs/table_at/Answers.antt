-- `table_at` meets its contract. Assumes nothing.
use Rattle.book.specs.Form.{table_at}
use Rattle.book.proofs.table_at.Goals as goal

pub returns : goal.returns
unfolding table_at
returns c = rw (← c.trailer_of.ensures) c.saturating_sub.ensures
