-- The letter of the log's last event of a record: event number 0 is none. Assumes nothing.
use mathlib.Core.Path.{ap, ◌∙◌}
use Rattle.std.proofs.Common.{rules, ◌≡◌, get_or, ◌-◌}
use Rattle.lists.specs.Group.{group_of}
use Rattle.lists.proofs.Lines.{event_none, event_at}
use Rattle.lists.proofs.listing.last_letter.Goals as goal

pub returns-then-end-eq0 : goal.returns-then-end-eq0
returns-then-end-eq0 c =
    let log = c.args.log.now in
    c.group.ensures ∙ ap group_of (event_none log _ c.if-end-eq0.true)

pub returns : goal.returns
returns c =
    let log = c.args.log.now in
    let e : c.unwrap_or.result ≡ get_or log (c.args.end - 1) 0 = search rules in
    c.group-2.ensures ∙ ap group_of (e ∙ event_at log _ c.if-end-eq0.false)
