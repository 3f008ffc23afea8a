-- Laws of the short list. `joined_kept`, `short_other`: a record more, kept or not. `kept_counted`: the kept are counted
-- by their places. `short_le`: it has no more records. `short_bytes_length`: its bytes. `short_odd`, `short_long`,
-- `short_fits`: the three outcomes of a call. Assumes nothing.
use mathlib.Core.Path.{◌≡◌, refl, sym, ap, ◌∙◌}
use mathlib.Core.Bool.{Bool, true, false, not, cond}
use mathlib.Core.List.{List, [], ◌∷◌, ◌++◌, append-nil, append_assoc}
use Prim.Native.Nat.{ℕ, zero, suc, ◌+◌, ◌*◌, ◌-◌, ◌%◌, ◌/◌, ◌≤◌, ◌<◌}
use native.Mathlib.Omega.{arith}
use native.Mathlib.Numerals.{add-one}
use lib.ListN.{length, take, get_or, length-append}
use lib.Seq.{sets, take_all}
use Rattle.std.specs.List.{filter, range_with_len}
use Rattle.std.proofs.lemmas.List.{map-id}
use Rattle.std.proofs.lemmas.List.FromFn.{filter_of_map_range_with_len_more}
use lib.Dec.{eqb}
use borrow.Author.Tests.{eq-eqb, ne_eqb, lt-ltb, le-ltb}
use Rattle.meaning.specs.Answer.{Answer, accepted, refused}
use Rattle.meaning.specs.Choice.{when}
use Rattle.meaning.proofs.Cases.{by_bool}
use Rattle.lists.specs.Whole.{records_of, end_of, joined}
use Rattle.lists.specs.Short.{keep, short, is_kept, short_answer, short_memory}
use Rattle.lists.proofs.Whole.{Eights, length_eights, records_eights}

-- ---- a record more

-- the end just before record i, where `before` is that before the first
abbrev end_before : ℕ → List (List ℕ) → ℕ → ℕ
end_before before rs zero = before
end_before before [] (suc i) = 0
end_before before (r ∷ rs) (suc i) = end_before (end_of r) rs i

keep_more : (before : ℕ) (rs : List (List ℕ)) (i : ℕ) → i < length rs
    → keep before (take (suc i) rs)
    ≡ keep before (take i rs)
    ++ when (eqb (end_of (get_or rs i [])) (end_before before rs i)) [] (get_or rs i [] ∷ [])
unfolding keep
keep_more before [] i h = absurd (omega arith)
keep_more before (r ∷ rs) zero h = by_bool (eqb (end_of r) before) (λ e. rw e) (λ e. rw e)
keep_more before (r ∷ rs) (suc i) h =
    let more = keep_more (end_of r) rs i (omega arith) in
    by_bool (eqb (end_of r) before) (λ e. rw e more) (λ e. rw e (ap (λ (ks : List (List ℕ)). r ∷ ks) more))

end_before_is : (r : List ℕ) (rs : List (List ℕ)) (i : ℕ) → i < length rs
    → end_before (end_of r) rs i ≡ end_of (get_or (r ∷ rs) i [])
end_before_is r rs zero h = refl
end_before_is r [] (suc i) h = absurd (omega arith)
end_before_is r (s ∷ rs) (suc i) h = end_before_is s rs i (omega arith)

when_not : (b : Bool) (x y : List (List ℕ)) → when b x y ≡ when (not b) y x
when_not true x y = refl
when_not false x y = refl

short_more : (rs : List (List ℕ)) (i : ℕ) → i < length rs
    → short (take (suc i) rs) ≡ short (take i rs) ++ when (is_kept rs i) (get_or rs i [] ∷ []) []
unfolding short keep
short_more [] i h = absurd (omega arith)
short_more (r ∷ rs) zero h = refl
short_more (r ∷ rs) (suc i) h =
    let k : i < length rs = omega arith in
    let s : suc i - 1 ≡ i = omega arith in
    let z : eqb (suc i) 0 ≡ false = ne_eqb (suc i) 0 (λ e. let w : ⊥ = omega arith in w) in
    let last = end_of (get_or rs i []) in
    rw z
    (ap (λ (ks : List (List ℕ)). r ∷ ks)
    (keep_more (end_of r) rs i k
    ∙ ap (λ (end : ℕ). keep (end_of r) (take i rs) ++ when (eqb last end) [] (get_or rs i [] ∷ [])) (end_before_is r rs i k)
    ∙ ap (λ (ks : List (List ℕ)). keep (end_of r) (take i rs) ++ ks) (when_not _ [] (get_or rs i [] ∷ []))
    ∙ ap (λ (j : ℕ). keep (end_of r) (take i rs)
    ++ when (not (eqb last (end_of (get_or (r ∷ rs) j [])))) (get_or rs i [] ∷ []) []) (sym s)))

joined_append : (rs : List (List ℕ)) (r : List ℕ) → joined (rs ++ (r ∷ [])) ≡ joined rs ++ r
joined_append [] r = append-nil r
joined_append (s ∷ rs) r = ap (λ (bs : List ℕ). s ++ bs) (joined_append rs r) ∙ sym (append_assoc s (joined rs) r)

module _ (rs : List (List ℕ)) (i : ℕ) (more : i < length rs) where
  pub short_kept : is_kept rs i ≡ true → short (take (i + 1) rs) ≡ short (take i rs) ++ (get_or rs i [] ∷ [])
  short_kept e = rw add-one (rw e at (short_more rs i more))

  pub short_other : is_kept rs i ≡ false → short (take (i + 1) rs) ≡ short (take i rs)
  short_other e = rw add-one (rw e at (short_more rs i more) ∙ append-nil _)

  pub joined_kept : is_kept rs i ≡ true → joined (short (take (i + 1) rs)) ≡ joined (short (take i rs)) ++ get_or rs i []
  joined_kept e = ap joined (short_kept e) ∙ joined_append (short (take i rs)) (get_or rs i [])

-- the kept are counted by their place
abbrev places : List (List ℕ) → ℕ → List ℕ
places rs n = filter (is_kept rs) (range_with_len 0 n)

places_more : (rs : List (List ℕ)) (n : ℕ) → n < length rs → length (places rs n) ≡ length (short (take n rs))
    → length (places rs (n + 1)) ≡ length (short (take (n + 1) rs))
places_more rs n h counted =
    let here : places rs (n + 1) ≡ places rs n ++ cond (is_kept rs n) (n ∷ []) [] =
    simp map-id at (filter_of_map_range_with_len_more (is_kept rs) (λ i. i) 0 n n (omega arith)) in
    by_bool (is_kept rs n)
    (λ e. omega (
      arith,
      simp length-append at (ap length (rw e at here)),
      simp length-append at (ap length (short_kept rs n h e)),
    ))
    (λ e. omega (arith, simp length-append at (ap length (rw e at here)), ap length (short_other rs n h e)))

places_within : (rs : List (List ℕ)) (n : ℕ) → n ≤ length rs → length (places rs n) ≡ length (short (take n rs))
unfolding short
places_within rs zero h = refl
places_within rs (suc n) h = rw add-one at (places_more rs n (omega arith) (places_within rs n (omega arith)))

pub kept_counted : (rs : List (List ℕ))
    → length (filter (is_kept rs) (range_with_len 0 (length rs))) ≡ length (short rs)
kept_counted rs =
    places_within rs (length rs) (omega arith)
    ∙ ap (λ (xs : List (List ℕ)). length (short xs)) (take_all (length rs) rs (omega arith))

-- ---- its length

keep_le : (before : ℕ) (rs : List (List ℕ)) → length (keep before rs) ≤ length rs
unfolding keep
keep_le before [] = omega arith
keep_le before (r ∷ rs) =
    by_bool (eqb (end_of r) before) (λ e. rw e (omega (arith, keep_le (end_of r) rs)))
    (λ e. rw e (omega (arith, keep_le (end_of r) rs)))

pub short_le : (rs : List (List ℕ)) → length (short rs) ≤ length rs
unfolding short
short_le [] = omega arith
short_le (r ∷ rs) = omega (arith, keep_le (end_of r) rs)

keep_eights : (before : ℕ) (rs : List (List ℕ)) → Eights rs → Eights (keep before rs)
unfolding keep
keep_eights before [] w = tt
keep_eights before (r ∷ rs) w =
    let more = keep_eights (end_of r) rs w.1 in
    by_bool (eqb (end_of r) before) (λ e. rw e more) (λ e. rw e (w.0, more))

-- whole records are eight bytes each
pub short_bytes_length : (rs : List (List ℕ)) → Eights rs → length (joined (short rs)) ≡ 8 * length (short rs)
unfolding short
short_bytes_length [] w = refl
short_bytes_length (r ∷ rs) w = length_eights (r ∷ keep (end_of r) rs) (w.0, keep_eights (end_of r) rs w.1)

-- ---- the three outcomes

abbrev pub Outcome : List ℕ → List ℕ → Answer → List ℕ → Type 0
Outcome list out a out' = (a ≡ short_answer list (length out)) × (out' ≡ short_memory list out)

pub short_odd : (list out : List ℕ) → (length list % 8 ≡ 0 → ⊥) → Outcome list out (refused 22 0) out
unfolding short_answer short_memory
short_odd list out odd = let e = ne_eqb (length list % 8) 0 odd in (rw e, rw e)

module _ (list out : List ℕ) (whole : length list % 8 ≡ 0) (kept : ℕ) (counted : kept ≡ length (short (records_of list))) where
  bytes : length (joined (short (records_of list))) ≡ 8 * kept
  bytes =
      short_bytes_length (records_of list) (records_eights (length list / 8) list 0 (omega arith))
      ∙ ap (λ (n : ℕ). 8 * n) (sym counted)

  pub short_long : length out < 8 * kept → Outcome list out (refused 23 0) out
  unfolding short_answer short_memory
  short_long h =
      let e = eq-eqb (length list % 8) 0 whole in
      let f = lt-ltb (length out) (length (joined (short (records_of list)))) (rw bytes h) in
      (rw (e, f), rw (e, f))

  pub short_fits : {out' : List ℕ} → 8 * kept ≤ length out → out' ≡ sets out 0 (joined (short (records_of list)))
      → Outcome list out (accepted kept 0 0 0) out'
  unfolding short_answer short_memory
  short_fits h written =
      let e = eq-eqb (length list % 8) 0 whole in
      let f = le-ltb (length out) (length (joined (short (records_of list)))) (rw bytes h) in
      (rw (e, f, counted), rw (e, f) written)
