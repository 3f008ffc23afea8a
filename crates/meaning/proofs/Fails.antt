-- The walk along a chain: fails, all_fails, how often it goes to the fallback for an event and for a text; and how
-- levels keep them in check: fails_step, fails_level, fails_bound, fails_fewer, level_text. Stacked: each reach is
-- above the next one's, the last above 0, as in every text's chain (chain_stacked). Assumes nothing.
use mathlib.Core.Path.{◌≡◌, refl}
use Rattle.std.specs.Prelude.{Option, None, Some}
use mathlib.Core.List.{[], ◌∷◌}
use Prim.Native.Nat.{ℕ, suc, ◌+◌, ◌≤◌, ◌<◌}
use native.Mathlib.Omega.{arith}
use lib.ListN.{length}
use Rattle.meaning.specs.Text.{Text, Delta}
use Rattle.meaning.specs.Chain.{Live, Chain, has, put, step, steps, chain, level}
use Rattle.meaning.proofs.Cases.{by_bool, by_option}

abbrev pub Stacked : Chain → Type 0
Stacked [] = Unit {0}
Stacked (x ∷ c) = (level c < x.reach) × Stacked c

-- one more where there is no edge, else none at all
abbrev pub miss : Option ℕ → ℕ → ℕ
miss None n = suc n
miss (Some q) n = 0

abbrev pub stop : Option ℕ → Chain → Chain → Chain
stop None c d = d
stop (Some q) c d = c

module _ (δ : Delta) where
  -- how often the walk goes to the fallback before a head has an edge, or it stands at the empty chain
  abbrev pub fails : Chain → ℕ → ℕ
  fails [] a = 0
  fails (x ∷ c) a = miss (δ x.state a) (fails c a)

  -- where it then stands
  abbrev pub stands_at : Chain → ℕ → Chain
  stands_at [] a = []
  stands_at (x ∷ c) a = stop (δ x.state a) (x ∷ c) (stands_at c a)

  -- with no edge at the head, the step is the fallback's
  pub step-miss : (x : Live) (c : Chain) (a : ℕ) → δ x.state a ≡ None → step δ (x ∷ c) a ≡ step δ c a
  step-miss x c a e = rw e

  -- from where the walk stands, the step leads where it leads from the start
  pub step_stands : (c : Chain) (a : ℕ) → step δ (stands_at c a) a ≡ step δ c a
  step_stands [] a = refl
  step_stands (x ∷ c) a =
      by_option (δ x.state a) (λ e. let i = step_stands c a in rw e i) (λ p e. rw e (step_some p e))
    where
      step_some : (p : ℕ) → δ x.state a ≡ Some p → step δ (x ∷ c) a ≡ put (Some p) (suc x.reach) (step δ c a)
      step_some p e = rw e

  level-put : (o : Option ℕ) (r : ℕ) (d : Chain) → level d ≤ r → level (put o r d) ≤ r
  level-put None r d l = l
  level-put (Some p) r d l = by_bool (has p d) (λ e. rw e l) (λ e. rw e (omega arith))

  stacked_put : (o : Option ℕ) (r : ℕ) (d : Chain) → level d < r → Stacked d → Stacked (put o r d)
  stacked_put None r d l s = s
  stacked_put (Some p) r d l s = by_bool (has p d) (λ e. rw e s) (λ e. rw e (l, s))

  -- an event raises the level by at most one
  pub level-step : (c : Chain) (a : ℕ) → Stacked c → level (step δ c a) ≤ suc (level c)
  level-step [] a s = level-put (δ 0 a) 1 [] (omega arith)
  level-step (x ∷ c) a s =
      let i = level-step c a s.1 in
      let l = s.0 in
      level-put (δ x.state a) (suc x.reach) (step δ c a) (omega arith)

  pub stacked_step : (c : Chain) (a : ℕ) → Stacked c → Stacked (step δ c a)
  stacked_step [] a s = stacked_put (δ 0 a) 1 [] (omega arith) tt
  stacked_step (x ∷ c) a s =
      let i = level-step c a s.1 in
      let l = s.0 in
      stacked_put (δ x.state a) (suc x.reach) (step δ c a) (omega arith) (stacked_step c a s.1)

  pub steps_stacked : (c : Chain) (t : Text) → Stacked c → Stacked (steps δ c t)
  steps_stacked c [] s = s
  steps_stacked c (a ∷ t) s = steps_stacked (step δ c a) t (stacked_step c a s)

  pub chain_stacked : (t : Text) → Stacked (chain δ t)
  chain_stacked t = steps_stacked [] t tt

  -- failure steps and the level after an event are at most the level before and one
  pub fails_step : (c : Chain) (a : ℕ) → Stacked c → fails c a + level (step δ c a) ≤ suc (level c)
  fails_step [] a s = let i = level-step [] a s in omega arith
  fails_step (x ∷ c) a s =
      by_option (δ x.state a)
      (λ e. let i = fails_step c a s.1 in let l = s.0 in rw e (omega arith))
      (λ p e. let i = level-step (x ∷ c) a s in let z : fails (x ∷ c) a ≡ 0 = rw e in omega arith)

  pub fails_level : (c : Chain) (a : ℕ) → Stacked c → fails c a ≤ level c
  fails_level [] a s = omega arith
  fails_level (x ∷ c) a s =
      by_option (δ x.state a)
      (λ e. let i = fails_level c a s.1 in let l = s.0 in rw e (omega arith)) (λ p e. rw e (omega arith))

  -- the failure steps of a text that follows on the chain c
  abbrev pub all_fails : Chain → Text → ℕ
  all_fails c [] = 0
  all_fails c (a ∷ t) = fails c a + all_fails (step δ c a) t

  pub fails_bound : (c : Chain) (t : Text) → Stacked c → all_fails c t + level (steps δ c t) ≤ level c + length t
  fails_bound c [] s = omega arith
  fails_bound c (a ∷ t) s =
      let i = fails_bound (step δ c a) t (stacked_step c a s) in
      let j = fails_step c a s in
      omega arith

  -- with one event or more, at most one step fewer than the level and the events
  pub fails_fewer : (c : Chain) (a : ℕ) (t : Text) → Stacked c → all_fails c (a ∷ t) < level c + length (a ∷ t)
  fails_fewer c a [] s = let i = fails_level c a s in omega arith
  fails_fewer c a (b ∷ t) s =
      let i = fails_fewer (step δ c a) b t (stacked_step c a s) in
      let j = fails_step c a s in
      omega arith

  pub level_text : (t : Text) → level (chain δ t) ≤ length t
  level_text t = let i = fails_bound [] t tt in omega arith
