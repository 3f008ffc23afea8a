-- `count_of` meets its contract: what is read is what the model has. Assumes nothing.
use mathlib.Core.Path.{sym, ap, ◌∙◌}
use lib.Dec.{lit<}
use Rattle.book.specs.declared.StateRecord.{StateRecord}
use Rattle.book.proofs.Model.{count_in, count_out}
use Rattle.book.proofs.Table.count_of.Goals as goal

pub returns-then-q-self : goal.returns-then-q-self
returns-then-q-self c =
    let t = c.args.self in
    let x = c.state_at.ensures in
    record {
      is = ap (λ (y : StateRecord). y.count) x.is ∙ sym (count_in t.bytes.now t.states _ c.if-q-self.true);
      small = x.count;
    }

pub returns-else-q-self : goal.returns-else-q-self
returns-else-q-self c =
    let t = c.args.self in
    record { is = sym (count_out t.bytes.now t.states _ c.if-q-self.false); small = lit< tt }
