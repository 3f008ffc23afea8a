-- `held_state` meets its contract: the numbers of a record that is among the bytes. Assumes nothing.
use Rattle.std.proofs.Common.{arith, rules}
use Rattle.std.specs.Prelude.{◌≡◌, ◌+◌, ◌*◌}
use Rattle.book.specs.Form.{state_record_at}
use Rattle.book.proofs.Table.held_state.Goals as goal

pub returns : goal.returns
unfolding state_record_at
returns c =
    let n = c.pair.ensures in
    let e : 4 * c.args.s + 3 ≡ 4 * c.args.s + 2 + 1 = omega arith in
    let w = rw e at n.is in
    record {
      is = λ i. record { mark = c.from.ensures i; spare = c.from-2.ensures i; count = w i };
      mark = search rules;
      count = n.small;
    }
