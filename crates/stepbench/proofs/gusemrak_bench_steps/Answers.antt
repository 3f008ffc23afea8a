-- `gusemrak_bench_steps` meets its contract. Assumes nothing.
use mathlib.Core.Path.{◌≡◌, ap, ◌∙◌}
use mathlib.Core.List.{List}
use Prim.Native.Nat.{ℕ}
use Rattle.meaning.specs.Answer.{Answer}
use Rattle.image.specs.Rules.{check_image}
use Rattle.stepbench.specs.Sum.{summed_in, summed_first}
use Rattle.stepbench.proofs.gusemrak_bench_steps.Goals as goal

-- by what the check tells
summed-told : (xs log : List ℕ) {a : Answer} → a ≡ check_image xs → summed_in xs log a ≡ summed_first xs log
unfolding summed_first
summed-told xs log e = ap (λ (x : Answer). summed_in xs log x) e

pub returns-in-Ok : goal.returns-in-Ok
returns-in-Ok c = c.steps.ensures ∙ summed-told _ _ c.in-Ok.ensures

pub returns-in-Err : goal.returns-in-Err
returns-in-Err c = summed-told _ _ c.in-Err.ensures
