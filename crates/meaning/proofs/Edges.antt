-- The edge table of a book's image, place after place: edge_is, an edge leads where the book's edge at the head leads,
-- and there is none where the book has none (edge_some, edge_none). find_mem, find_none: the number of an event in a
-- list; first_edge-suc, first_edge_mono, first_edge-length, target_at: where a place's targets stand in the table. Assumes
-- nothing.
use mathlib.Core.Path.{◌≡◌, refl, sym, ap, ◌∙◌, subst}
use mathlib.Core.Logic.{⊎_elim}
use Rattle.std.specs.Prelude.{Option, None, Some}
use mathlib.Core.List.{List, [], ◌∷◌, ◌++◌, map}
use mathlib.Core.List.{Memᴰ}
use Prim.Native.Nat.{ℕ, zero, suc, ◌+◌, ◌≤◌, ◌<◌}
use native.Mathlib.Omega.{arith}
use lib.ListN.{length, get_or, length-append, length-map, get_or-append}
use lib.Seq.{get_or-append-add}
use lib.Dec.{eqb}
use borrow.Author.Tests.{eqb-true, eqb-false}
use Rattle.meaning.specs.Choice.{then}
use Rattle.meaning.specs.Text.{Delta, Marks}
use Rattle.meaning.specs.Chain.{Chain, step, head}
use Rattle.meaning.specs.Places.{number}
use Rattle.meaning.specs.Questions.{edge_of, index_from, events_at, first_edge, targets_at, targets_below, image_of}
use Rattle.meaning.proofs.Cases.{by_bool, by_option, by_order, none_some}
use Rattle.meaning.proofs.Book.{Names, Only}

-- an event of the list is found at a number at which it stands
pub find_mem : (es : List ℕ) (j a : ℕ) → Memᴰ a es
    → (i : ℕ) × (i < length es) × (get_or es i 0 ≡ a) × (index_from j es a ≡ Some (j + i))
find_mem [] j a m = absurd (mathlib.Core.List.Memᴰ.not-nil m)
find_mem (b ∷ es) j a m =
    by_bool (eqb b a)
    (λ e. let z : j ≡ j + 0 = omega arith in (0, omega arith, eqb-true b a e, rw e (ap {B = Option ℕ} Some z)))
    (λ e.
    let later : Memᴰ a es =
    ⊎_elim (λ f. absurd (eqb-false b a e (sym f))) (λ k. k) (mathlib.Core.List.Memᴰ.cases_cons m) in
    let i = find_mem es (suc j) a later in
    let l = i.1 in
    let z : suc j + i.0 ≡ j + suc i.0 = omega arith in
    (suc i.0, omega arith, i.2, rw e (i.3 ∙ ap {B = Option ℕ} Some z)))

pub find_none : (es : List ℕ) (j a : ℕ) → (Memᴰ a es → ⊥) → index_from j es a ≡ None
find_none [] j a n = refl
find_none (b ∷ es) j a n =
    by_bool (eqb b a) (λ e. absurd (n (mathlib.Core.List.Memᴰ.head (sym (eqb-true b a e)))))
    (λ e. rw e (find_none es (suc j) a (λ m. n (mathlib.Core.List.Memᴰ.tail m))))

get_d_map : (f : ℕ → ℕ) (es : List ℕ) (i : ℕ) → i < length es → get_or (map f es) i 0 ≡ f (get_or es i 0)
get_d_map f [] i l = absurd (let w : ⊥ = omega arith in w)
get_d_map f (b ∷ es) zero l = refl
get_d_map f (b ∷ es) (suc i) l = get_d_map f es i (omega arith)

module _ (δ : Delta) (out : ℕ → List ℕ) (mark : Marks) (L : List Chain) where
  abbrev first : ℕ → ℕ
  first = first_edge δ out mark L

  abbrev table : ℕ → List ℕ
  table = targets_below δ out mark L

  abbrev here : ℕ → List ℕ
  here = events_at δ out mark L

  -- where the event a leads from the place p
  abbrev to : ℕ → ℕ → ℕ
  to p a = number L (step δ (get_or L p []) a)

  pub first_edge-suc : (p : ℕ)
      → first_edge δ out mark L (suc p) ≡ first_edge δ out mark L p + length (events_at δ out mark L p)
  unfolding first_edge
  first_edge-suc p = refl

  pub first_edge_mono : (p n : ℕ) → p ≤ n → first_edge δ out mark L p ≤ first_edge δ out mark L n
  first_edge_mono p zero l = let z : p ≡ 0 = omega arith in subst (λ (q : ℕ). first q ≤ first 0) (sym z) (omega arith)
  first_edge_mono p (suc n) l =
      by_order p (suc n) (λ h. let i = first_edge_mono p n (omega arith) in let s = first_edge-suc n in omega arith)
      (λ h. subst (λ (q : ℕ). first q ≤ first (suc n)) (sym h) (omega arith))
      (λ h. absurd (let w : ⊥ = omega arith in w))

  pub first_edge-length : (p : ℕ) → length (targets_below δ out mark L p) ≡ first_edge δ out mark L p
  unfolding first_edge targets_below
  first_edge-length zero = refl
  first_edge-length (suc p) =
      let i = first_edge-length p in
      let own = targets_at δ out mark L p in
      let k : length own ≡ length (here p) = length-map (here p) (to p) in
      omega (arith, length-append (table p) own)

  -- the target of a place's edge stands in the table at the place's first edge and the edge's own number
  pub target_at : (n p i : ℕ) → p < n → i < length (events_at δ out mark L p)
      → get_or (targets_below δ out mark L n) (first_edge δ out mark L p + i) 0
      ≡ number L (step δ (get_or L p []) (get_or (events_at δ out mark L p) i 0))
  unfolding targets_below
  target_at zero p i l k = absurd (let w : ⊥ = omega arith in w)
  target_at (suc n) p i l k =
      let own = targets_at δ out mark L n in
      let len = first_edge-length n in
      by_order p n
      (λ h.
      let up = first_edge_mono (suc p) n (omega arith) in
      let s = first_edge-suc p in
      get_or-append (table n) own 0 (first p + i) (omega arith) ∙ target_at n p i h k)
      (λ h.
      let last : first n + i ≡ length (table n) + i = omega arith in
      let at : first p + i ≡ length (table n) + i = rw h last in
      let k' : i < length (here n) = subst (λ (q : ℕ). i < length (here q)) h k in
      ap (λ (j : ℕ). get_or (table n ++ own) j 0) at ∙ get_or-append-add (table n) own i 0 ∙ get_d_map (to n) (here n) i k'
      ∙ ap (λ (q : ℕ). to q (get_or (here q) i 0)) (sym h))
      (λ h. absurd (let w : ⊥ = omega arith in w))

  -- an event of the head's edges leads where the book leads
  pub edge-mem : (p a : ℕ) → p < length L → Memᴰ a (events_at δ out mark L p)
      → edge_of (image_of δ out mark L) p a ≡ Some (number L (step δ (get_or L p []) a))
  edge-mem p a l m =
      let i = find_mem (here p) (first p) a m in
      ap (λ (o : Option ℕ). then o (λ j. Some (get_or (table (length L)) j 0))) i.3
      ∙ ap {B = Option ℕ} Some (target_at (length L) p i.0 l i.1 ∙ ap (λ (b : ℕ). to p b) i.2)

  pub edge_not : (p a : ℕ) → (Memᴰ a (events_at δ out mark L p) → ⊥) → edge_of (image_of δ out mark L) p a ≡ None
  edge_not p a n =
      ap (λ (o : Option ℕ). then o (λ j. Some (get_or (table (length L)) j 0))) (find_none (here p) (first p) a n)

  module _ (names : Names δ out) (only : Only δ out) where
    pub edge_some : (p a q : ℕ) → p < length L → δ (head (get_or L p [])) a ≡ Some q
        → edge_of (image_of δ out mark L) p a ≡ Some (number L (step δ (get_or L p []) a))
    edge_some p a q l e = edge-mem p a l (names (head (get_or L p [])) a q e)

    pub edge_none : (p a : ℕ) → δ (head (get_or L p [])) a ≡ None → edge_of (image_of δ out mark L) p a ≡ None
    edge_none p a e = edge_not p a (λ m. none_some e (only (head (get_or L p [])) a m).1)

    pub edge_is : (p a : ℕ) → p < length L
        → edge_of (image_of δ out mark L) p a
        ≡ then (δ (head (get_or L p [])) a) (λ q. Some (number L (step δ (get_or L p []) a)))
    edge_is p a l =
        by_option (δ (head (get_or L p [])) a) (λ e. edge_none p a e ∙ sym (rw e))
        (λ q e. edge_some p a q l e ∙ sym (rw e))
