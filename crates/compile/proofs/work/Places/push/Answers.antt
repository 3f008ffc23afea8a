-- `push` meets its contract: the arrays hold one place more. Assumes nothing.
use mathlib.Core.Path.{refl}
use Rattle.compile.proofs.Rows.{fit_pushed, list_pushed}
use Rattle.compile.proofs.work.Places.push.Goals as goal

pub invariant_of-self : goal.invariant_of-self
invariant_of-self c =
    let q = c.requires in
    record { fit = fit_pushed _ c.args.self.now.fit q.0 _ q.1 q.2 q.3 refl }

pub returns : goal.returns
returns c =
    let q = c.requires in
    list_pushed _ c.args.self.now.fit q.0 _ q.1 q.2 q.3
