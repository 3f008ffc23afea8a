-- `lead` meets its contract: the numbers that are searched by are those of the definition. Assumes nothing.
use mathlib.Core.Path.{◌∙◌}
use Rattle.std.proofs.Common.{rules}
use native.Mathlib.Omega.{arith}
use Rattle.book.proofs.Model.{lead_by, lead-past}
use Rattle.book.proofs.Table.lead.Goals as goal

pub returns-in_err-get : goal.returns-in_err-get
returns-in_err-get c =
    let t = c.args.self in
    rw c.from_residual.ensures
    (lead-past t.bytes.now t.states c.args.first.now c.args.q c.args.event
    (omega (arith, c.in_err-get.ensures.lookup.3, c.told-first)))

pub returns : goal.returns
returns c =
    let t = c.args.self in
    let entry = c.in_ok-get.ensures.lookup.3 in
    lead_by t.bytes.now t.states c.args.first.now c.args.q c.args.event _ _ (omega (arith, entry.0, c.told-first))
    c.count_of.ensures.is (c.from-from.ensures ∙ entry.1 0)
    (c.seek.ensures t.bytes.now t.states (λ j e p. search rules))
