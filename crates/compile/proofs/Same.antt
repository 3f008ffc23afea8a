-- Two chains read to their ends: is the chain of the place p the state q with the reach r, and then the chain of the
-- place f? `Comparing` is what holds while a and b are the places reached; the rest is one turn. h, k, l and m are
-- what was read. Assumes nothing.
use mathlib.Core.Path.{◌≡◌, refl, sym, ◌∙◌}
use mathlib.Core.Logic.{◌≢◌}
use mathlib.Core.Bool.{Bool, true, false, ◌&&◌}
use mathlib.Core.List.{◌∷◌}
use Prim.Native.Nat.{ℕ, ◌<◌}
use native.Mathlib.Omega.{arith}
use lib.ListN.{get_or}
use lib.Dec.{eqb}
use borrow.Author.Tests.{eq-eqb, ne_eqb}
use Rattle.meaning.specs.Chain.{live}
use Rattle.meaning.specs.Places.{same_chain}
use Rattle.meaning.proofs.Cases.{by_eq}
use Rattle.compile.specs.Work.{Rows, Down, chain_of}
use Rattle.compile.proofs.Rows.{chain-zero, chain_cons}

abbrev pub asked : Rows → ℕ → ℕ → ℕ → ℕ → Bool
asked w p q r f = same_chain (chain_of w p) (live q r ∷ chain_of w f)

pub record Comparing (w : Rows) (p q r f a b : ℕ) : Type 0 where
  pub low_a : a < 1024
  pub low_b : b < 1024
  pub left : asked w p q r f ≡ same_chain (chain_of w a) (chain_of w b)

and_false : (b c : Bool) → ((b && false) && c) ≡ false
and_false true c = refl
and_false false c = refl

module _ (w : Rows) (d : Down w.fallbacks) where
  -- the first of each chain
  module _ (p q r f : ℕ) (above : 0 < p) where
    pub head_differs : {h : ℕ} → h ≡ get_or w.heads p 0 → h ≢ q → false ≡ asked w p q r f
    head_differs {h} e n = rw (chain_cons w d p above, ← e, ne_eqb h q n)

    pub level_differs : {l : ℕ} → l ≡ get_or w.levels p 0 → l ≢ r → false ≡ asked w p q r f
    level_differs {l} e n =
        rw (chain_cons w d p above, ← e, ne_eqb l r n) (sym (and_false (eqb (get_or w.heads p 0) q) _))

    pub comparing_start : {h l a : ℕ} → h ≡ get_or w.heads p 0 → h ≡ q → l ≡ get_or w.levels p 0 → l ≡ r
        → a ≡ get_or w.fallbacks p 0 → p < 1024 → f < 1024 → Comparing w p q r f a f
    comparing_start {h} {l} e m g n i low-p low-f =
        let k = d p above in
        record {
          low_a = omega arith;
          low_b = low-f;
          left = rw (chain_cons w d p above, i, ← e, ← g, eq-eqb h q m, eq-eqb l r n);
        }

  -- the rest of both
  module _ {p q r f a b : ℕ} (C : Comparing w p q r f a b) (y : a ≢ 0) where
    pub first-longer : b ≡ 0 → false ≡ asked w p q r f
    first-longer z = sym (C.left ∙ rw (z, chain_cons w d a (omega arith), chain-zero w))

    module _ (z : b ≢ 0) where
      both : asked w p q r f
          ≡ ((eqb (get_or w.heads a 0) (get_or w.heads b 0) && eqb (get_or w.levels a 0) (get_or w.levels b 0))
          && same_chain (chain_of w (get_or w.fallbacks a 0)) (chain_of w (get_or w.fallbacks b 0)))
      both = C.left ∙ rw (chain_cons w d a (omega arith), chain_cons w d b (omega arith))

      pub heads_differ : {h k : ℕ} → h ≡ get_or w.heads a 0 → k ≡ get_or w.heads b 0 → h ≢ k → false ≡ asked w p q r f
      heads_differ {h} {k} e g n = sym (both ∙ rw (← e, ← g, ne_eqb h k n))

      pub levels_differ : {l m : ℕ} → l ≡ get_or w.levels a 0 → m ≡ get_or w.levels b 0 → l ≢ m → false ≡ asked w p q r f
      levels_differ {l} {m} e g n =
          sym (both ∙ rw (← e, ← g, ne_eqb l m n) (and_false (eqb (get_or w.heads a 0) (get_or w.heads b 0)) _))

      pub comparing_next : {h k : ℕ} → h ≡ get_or w.heads a 0 → k ≡ get_or w.heads b 0 → h ≡ k
          → {l m : ℕ} → l ≡ get_or w.levels a 0 → m ≡ get_or w.levels b 0 → l ≡ m
          → {a' b' : ℕ} → a' ≡ get_or w.fallbacks a 0 → b' ≡ get_or w.fallbacks b 0 → Comparing w p q r f a' b'
      comparing_next {h} {k} e g n {l} {m} i j o s t =
          let x = d a (omega arith) in
          let u = d b (omega arith) in
          let low_a = C.low_a in
          let low_b = C.low_b in
          record {
            low_a = omega arith;
            low_b = omega arith;
            left = both ∙ rw (← e, ← g, ← i, ← j, ← s, ← t, eq-eqb h k n, eq-eqb l m o);
          }

  pub comparing_end : {p q r f a b : ℕ} → Comparing w p q r f a b → a ≡ 0 → eqb b 0 ≡ asked w p q r f
  comparing_end {b = b} C y =
      sym (C.left
      ∙ by_eq b 0 (λ z. rw (y, z, chain-zero w))
      (λ z. rw (y, ne_eqb b 0 z, chain-zero w, chain_cons w d b (omega arith))))
