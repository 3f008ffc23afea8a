-- `nothing_seen` meets its contract. Assumes nothing.
use mathlib.Core.Path.{refl}
use Rattle.compile.proofs.Seek.{seen_none}
use Rattle.compile.proofs.work.nothing_seen.Goals as goal

pub returns : goal.returns
returns c = seen_none _ refl
