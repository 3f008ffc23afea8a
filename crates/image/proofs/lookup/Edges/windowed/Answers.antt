-- `image::lookup::Edges::windowed` meets its contract. The window is `Seek`'s.
-- Assumes nothing.
use Rattle.image.proofs.Seek.{rising_part, window, no_window}
use Rattle.image.specs.Form.{form1, edge_at}
use native.Mathlib.Omega.{arith}
use mathlib.Core.Path.{sym, ◌∙◌}
use Rattle.image.proofs.lookup.Edges.windowed.Goals as goal

pub halved-requires : goal.halved-requires
halved-requires g c =
    let l = c.if-low-high.true in (
      omega arith,
      rising_part (edge_at form1 (g.B.Bytes.list c.args.self.now.bytes) c.args.self.now.places) _ _ _ _ (omega arith) (omega arith)
          c.requires.1,
      c.requires.0,
    )

pub returns-then-low-high : goal.returns-then-low-high
returns-then-low-high g c =
    c.halved.ensures
    ∙ sym
    (window _ _ _ _ c.requires.1 c.requires.2 _ _ c.saturating_sub-low.ensures c.min-high.ensures (omega arith))

pub returns-else-low-high : goal.returns-else-low-high
returns-else-low-high g c =
    sym
    (no_window _ _ _ _ c.requires.1 c.requires.2 _ _ c.saturating_sub-low.ensures c.min-high.ensures
    c.if-low-high.false)
