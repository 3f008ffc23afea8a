-- A refusal is by a number of the rules that were judged. `judged_in`: where every rule's number lies within two limits, so does
-- the number of every refusal. Assumes nothing.
use mathlib.Core.Path.{◌≡◌, subst}
use mathlib.Core.Bool.{Bool, true, ◌&&◌}
use Rattle.std.specs.Prelude.{Option, None, Some}
use mathlib.Core.List.{List, [], ◌∷◌}
use Prim.Native.Nat.{ℕ, ◌≤◌}
use native.Mathlib.Omega.{arith}
use lib.Dec.{leb}
use borrow.Author.Tests.{leb-true}
use Rattle.meaning.specs.Answer.{Answer, accepted, refused, Rule, faulty, judged}
use Rattle.meaning.proofs.Cases.{and_true}
use Rattle.demands.specs.Demand1.{Numbered}

-- every rule's number lies within the limits: a test that computes, whatever the faults are
abbrev pub numbers_in : ℕ → ℕ → List Rule → Bool
numbers_in low high [] = true
numbers_in low high (r ∷ rs) = (leb low r.number && leb r.number high) && numbers_in low high rs

module _ (low high : ℕ) where
  pub accepted_in : (a b c d : ℕ) → Numbered low high (accepted a b c d)
  accepted_in a b c d n p e = let z : ◌≡◌ {A = ℕ} 0 1 = cc in absurd (let w : ⊥ = omega arith in w)

  pub refused_in : (m q : ℕ) → (low ≤ m) × (m ≤ high) → Numbered low high (refused m q)
  refused_in m q i n p e = let z : m ≡ n = cc in subst (λ (k : ℕ). (low ≤ k) × (k ≤ high)) z i

  faulty_in : (m : ℕ) (o : Option ℕ) (x : Answer) → (low ≤ m) × (m ≤ high) → Numbered low high x → Numbered low high (faulty m o x)
  faulty_in m None x i k = k
  faulty_in m (Some q) x i k = refused_in m q i

  pub judged_in : (rs : List Rule) (x : Answer) → numbers_in low high rs ≡ true → Numbered low high x → Numbered low high (judged rs x)
  judged_in [] x t k = k
  judged_in (r ∷ rs) x t k =
      let s = and_true (leb low r.number && leb r.number high) (numbers_in low high rs) t in
      let u = and_true (leb low r.number) (leb r.number high) s.0 in
      faulty_in r.number r.fault (judged rs x) (leb-true low r.number u.0, leb-true r.number high u.1)
      (judged_in rs x s.1 k)

pub numbered_wider : (low high low' high' : ℕ) (x : Answer) → low' ≤ low → high ≤ high' → Numbered low high x → Numbered low' high' x
numbered_wider low high low' high' x a b k n p e = let i = k n p e in let u = i.0 in let v = i.1 in (omega arith, omega arith)
