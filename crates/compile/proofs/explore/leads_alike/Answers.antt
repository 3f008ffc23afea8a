-- `leads_alike` meets its contract. Assumes nothing.
use mathlib.Core.Path.{sym, ◌∙◌}
use Rattle.compile.proofs.Leading.{neither_leads}
use Rattle.compile.proofs.Alike.{led_same}
use Rattle.compile.proofs.explore.leads_alike.Goals as goal

pub returns-then-neither : goal.returns-then-neither
returns-then-neither c = λ e.
    neither_leads c.args.source.now.ready _ _ _ c.requires c.count-count.ensures.is c.first_edge.ensures.0
    (c.neither.ensures c.if-neither.true)

pub returns : goal.returns
returns c = λ e. led_same c.led.ensures c.led-2.ensures (sym c.eq.ensures ∙ e)
