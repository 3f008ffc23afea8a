-- A chain is met: the arrays follow the list of the chains. `add_in`, `add_old`, `add_new`, `add_over`: q with the
-- reach r put on the chain of the place f. `edge-met`: the chain of a place after an event. Assumes nothing.
use mathlib.Core.Path.{◌≡◌, refl, sym, ap, ◌∙◌, subst}
use Rattle.std.specs.Prelude.{Option, None, Some, is_some, Bool, true, false}
use mathlib.Core.List.{List, [], ◌∷◌, ◌++◌, Memᴰ}
use Prim.Native.Nat.{ℕ, ◌+◌, ◌≤◌, ◌<◌}
use native.Mathlib.Omega.{arith}
use lib.ListN.{length, get_or, length-append}
use Rattle.meaning.specs.Chain.{live, Chain, put, step}
use Rattle.meaning.specs.Places.{met, meet}
use Rattle.meaning.specs.Book.{Book, delta}
use Rattle.meaning.proofs.Cases.{by_bool, true_false}
use Rattle.meaning.proofs.Places.{met-mem, mem-met, get_or-mem, mem-get_or}
use Rattle.compile.specs.Work.{Rows, chain_of, list_of, Held}
use Rattle.compile.specs.Explore.{whole, rest_after, HasPlace, RestMet, Seen, RestAt, FoundAt, NotFound, Finds, Listed}
use Rattle.compile.proofs.Rows.{length_list, list_at}
use Rattle.compile.proofs.Seek.{seen_true, seen_false, step_some}

-- a chain has a place exactly where it was met
meet_old : (w : Rows) (n : ℕ) (d : Chain) (i : ℕ) → i < n → chain_of w i ≡ d → meet d (list_of w n) ≡ list_of w n
meet_old w n d i l e =
    let k = length_list w n in
    let m = subst (λ (z : Chain). Memᴰ z (list_of w n)) (list_at w n i l ∙ e) (get_or-mem (list_of w n) i (omega arith)) in
    rw (mem-met d (list_of w n) m)

pub mem_place : (w : Rows) (n : ℕ) (d : Chain) → Memᴰ d (list_of w n) → HasPlace w n d
mem_place w n d m =
    let j = mem-get_or d (list_of w n) m in
    let k = length_list w n in
    let s = j.1 in
    let l : j.0 < n = omega arith in
    (j.0, l, sym (list_at w n j.0 l) ∙ j.2)

meet_new : (w : Rows) (n : ℕ) (d : Chain) → ((i : ℕ) → i < n → chain_of w i ≡ d → ⊥)
    → meet d (list_of w n) ≡ list_of w n ++ (d ∷ [])
meet_new w n d new =
    by_bool (met d (list_of w n))
    (λ e. let p = mem_place w n d (met-mem d (list_of w n) e) in absurd (new p.0 p.1 p.2))
    (λ e. rw e)

module _ (w : Rows) (n : ℕ) where
  pub listed_same : (d : Chain) (i : ℕ) → i < n → chain_of w i ≡ d → Listed w n (meet d (list_of w n))
  listed_same d i l e = record { is = sym (meet_old w n d i l e) }

  module _ (q r f : ℕ) (back : f < n) {seen : List Bool} (small : q < 512) (S : Seen seen (chain_of w f)) where
    -- q stands in the chain already
    pub add_in : get_or seen q false ≡ true → Listed w n (meet (put (Some q) r (chain_of w f)) (list_of w n))
    add_in h = listed_same (put (Some q) r (chain_of w f)) f back (rw (seen_true seen (chain_of w f) q small S h))

    module _ (h : get_or seen q false ≡ false) where
      front : put (Some q) r (chain_of w f) ≡ live q r ∷ chain_of w f
      front = rw (seen_false seen (chain_of w f) q small S h)

      -- the chain was met before
      add_old : {k : ℕ} → FoundAt whole w n q r f k → Listed w n (meet (put (Some q) r (chain_of w f)) (list_of w n))
      add_old {k} D = listed_same (put (Some q) r (chain_of w f)) k D.below (D.is ∙ sym front)

      -- it is new
      new_is : NotFound whole w n q r f
          → meet (put (Some q) r (chain_of w f)) (list_of w n) ≡ list_of w n ++ ((live q r ∷ chain_of w f) ∷ [])
      new_is D = rw front (meet_new w n (live q r ∷ chain_of w f) D.no)

      pub add_new : NotFound whole w n q r f → (w' : Rows) (n' : ℕ)
          → list_of w' n' ≡ list_of w n ++ ((live q r ∷ chain_of w f) ∷ [])
          → Listed w' n' (meet (put (Some q) r (chain_of w f)) (list_of w n))
      add_new D w' n' e = record { is = e ∙ sym (new_is D) }

      pub add_found : (o : Option ℕ) → Finds whole w n q r f o → is_some o ≡ true
          → Listed w n (meet (put (Some q) r (chain_of w f)) (list_of w n))
      add_found None D e = true_false refl (sym e)
      add_found (Some k) D e = add_old D

      pub not_found : (o : Option ℕ) → Finds whole w n q r f o → is_some o ≡ false → NotFound whole w n q r f
      not_found None D e = D
      not_found (Some k) D e = true_false refl e

      -- and there is no room for it
      pub add_over : NotFound whole w n q r f → 1024 ≤ n → 1024 < length (meet (put (Some q) r (chain_of w f)) (list_of w n))
      add_over D l =
          let a = length-append (list_of w n) ((live q r ∷ chain_of w f) ∷ []) in
          let b = length_list w n in
          let e = ap length (new_is D) in
          omega arith

  -- the rest has its place
  module _ (B : Book) (p a f : ℕ) {seen : List Bool} (P : RestAt B w n p a f seen) (m : RestMet B w n p a) where
    rest_at : chain_of w f ≡ rest_after (delta B) (chain_of w p) a
    rest_at = P.place.is m.0 m.1 m.2

    pub rest_seen : Seen seen (chain_of w f)
    rest_seen = rw rest_at (P.states m.0 m.1 m.2)

    -- what is added is the chain after the event
    pub edge-met : Held w n → {l q : ℕ} → l ≡ get_or w.levels p 0 → delta B (get_or w.heads p 0) a ≡ Some q
        → step (delta B) (chain_of w p) a ≡ put (Some q) (l + 1) (chain_of w f)
    edge-met H {l} {q} i e = step_some w n H (delta B) a p q e ∙ rw (i, rest_at)
