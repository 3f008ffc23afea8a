-- `held_edge` meets its contract: the numbers of a record that is among the bytes. Assumes nothing.
use Rattle.std.proofs.Common.{arith, rules}
use Rattle.std.specs.Prelude.{◌≡◌, ◌+◌, ◌*◌}
use Rattle.book.specs.Form.{edge_record_at}
use Rattle.book.proofs.Table.held_edge.Goals as goal

pub returns : goal.returns
unfolding edge_record_at
returns c =
    let n = c.pair.ensures in
    let e : 4 * c.args.self.states + 4 * c.args.j + 3 ≡ 4 * c.args.self.states + 4 * c.args.j + 2 + 1 = omega arith in
    let w = rw e at n.is in
    record {
      is = λ i. record { event = c.from.ensures i; spare = c.from-2.ensures i; target = w i };
      event = search rules;
      target = n.small;
    }
