-- A digit, or the number without its last digit and then that. Assumes nothing.
use Rattle.lists.proofs.Writes.{writes_digit, writes_more}
use Rattle.lists.proofs.text.Text.+put_decimal.Goals as goal
use Rattle.lists.proofs.text.Text.+put_decimal.Goals.{then-number-ge10, else-number-ge10}

pub returns : goal.returns
returns t c =
    elim c.if-number-ge10.branch [
      | then-number-ge10 w ↦
          writes_more _ w.if-number-ge10.true (rw w.self-is w.put_decimal.ensures) c.put_byte.ensures
      | else-number-ge10 w ↦ writes_digit _ w.if-number-ge10.false (rw w.self-is at c.put_byte.ensures)
    ]
