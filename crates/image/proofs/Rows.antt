-- The table of every step: its classes, its rows, what an entry says.
--   Classing, class_start  the classes of the edges passed
--   copy_start, copy_turn  a row copied, one more entry
--   own_start, own_turn  a place's own edges, from the last to the first
--   row_in              a row ends before the next one starts
--   RowsBelow, rows-zero, row_copied, rows_more, rows_done  the row of place 0, one more row, all of them
--   looked              what an entry says
-- Assumes nothing.
use mathlib.Core.Path.{◌≡◌, refl, ap, ◌∙◌}
use mathlib.Core.Logic.{◌≢◌}
use Rattle.std.specs.Prelude.{Option, None, Some}
use mathlib.Core.List.{List}
use Prim.Native.Nat.{ℕ, zero, suc, ◌+◌, ◌*◌, ◌-◌, ◌/◌, ◌%◌, ◌≤◌, ◌<◌}
use native.Mathlib.Nat.{zero-add, mul-zero, mul-suc, mul-le-mul_left}
use native.Mathlib.Omega.{arith}
use lib.ListN.{length, get_or, set, replicate, get_or-replicate, length-replicate, length-set}
use lib.Seq.{get_or-set_same, get_or-set_other}
use borrow.Author.Tests.{eq-eqb, ne_eqb}
use Rattle.meaning.specs.Choice.{then}
use Rattle.meaning.specs.Questions.{Image, edge_of}
use Rattle.meaning.specs.Walk.{Stand, stand, take-edge, failing, next}
use Rattle.meaning.proofs.Cases.{by_eq}
use Rattle.meaning.proofs.Walk.{next-zero, next-step, next-below}
use Rattle.image.specs.Form.{EdgeRecord, form1, edge_at, place_at}
use Rattle.image.specs.Questions.{questions_at}
use Rattle.image.specs.Held.{MovedIs}
use Rattle.image.specs.Steps.{StepAt, IsSteps, IsClasses, Copied, led_by, Owned}
use Rattle.image.proofs.Accepted.{Facts, levels}
use Rattle.image.proofs.Seek.{seek_end}
use Rattle.image.proofs.Tables.{led_step}

-- ---- the classes
-- j edges passed, n classes so far
pub record Classing (E : ℕ → EdgeRecord) (j n : ℕ) (classes : List ℕ) : Type 0 where
  pub kept : length classes ≡ 256
  pub some_class : 0 < n
  pub are : IsClasses E j n classes

module _ (E : ℕ → EdgeRecord) where
  pub class_start : (classes : List ℕ) → classes ≡ replicate 256 0 → Classing E 0 1 classes
  class_start classes e =
      let z : (a : ℕ) → a < 256 → get_or classes a 0 ≡ 0 = λ a b. rw e (get_or-replicate 256 a 0 0 b) in
      record {
        kept = ap (λ (l : List ℕ). length l) e ∙ length-replicate {A = ℕ} 256 0;
        some_class = omega arith;
        are =
            record {
              few = omega arith;
              classed = λ a b. rw (z a b) (omega arith);
              met = λ j b. absurd (let w : ⊥ = omega arith in w);
              alone = λ a b l u e nz. absurd (nz (z a l));
            };
      }

-- ---- a row copied
pub copy_start : (from to : ℕ) (old : List ℕ) → Copied 0 from to old old
copy_start from to old =
    record { kept = refl; below = λ k b. refl; row = λ i b. absurd (let w : ⊥ = omega arith in w) }

pub copy_turn : (i n from to r : ℕ) (old new : List ℕ) → Copied i from to old new → i < n → from + n ≤ to
    → to + n ≤ length old → r ≡ get_or new (from + i) 0 + 65536 → Copied (i + 1) from to old (set new (to + i) r)
copy_turn i n from to r old new C b l u e =
    let len = C.kept in
    record {
      kept = length-set new (to + i) r ∙ C.kept;
      below = λ k v. get_or-set_other new (to + i) k r 0 (λ z. omega arith) ∙ C.below k v;
      row = λ h v.
          by_eq h i
          (λ z. rw z
          (get_or-set_same new (to + i) r 0 (omega arith) ∙ e
          ∙ ap (λ (m : ℕ). m + 65536) (C.below (from + i) (omega arith))))
          (λ nz. get_or-set_other new (to + i) (to + h) r 0 (λ z. nz (omega arith)) ∙ C.row h (omega arith));
    }

-- ---- a place's own edges
module _ (E : ℕ → EdgeRecord) where
  pub own_start : (n j row : ℕ) (classes old : List ℕ) → n ≡ 0 → Owned E n j row classes old old
  own_start n j row classes old z =
      record {
        kept = refl;
        below = λ k b. refl;
        small = λ k m l b. b;
        at = λ a b. rw (seek_end E a n j z);
      }

  module _ (t m : ℕ) (classes : List ℕ) (C : IsClasses E t m classes) where
    own_put : (n j row w g : ℕ) (old new : List ℕ) → Owned E n (j + 1) row classes old new → j < t → w < 256
        → w ≡ (E j).event → g ≡ (E j).target → g < 65536 → row + m ≤ length old
        → Owned E (n + 1) j row classes old (set new (row + get_or classes w 0) g)
    own_put n j row w g old new O lt small ew eg gs room =
        let len = O.kept in
        let at = row + get_or classes w 0 in
        let wm = C.classed w small in
        let nz : get_or classes w 0 ≢ 0 = rw ew (C.met j lt) in
        record {
          kept = length-set new at g ∙ len;
          below = λ k b. get_or-set_other new at k g 0 (λ z. omega arith) ∙ O.below k b;
          small = λ k h l b.
              by_eq k at (λ z. rw (z, get_or-set_same new at g 0 (omega arith)) (omega arith))
              (λ ne. rw (get_or-set_other new at k g 0 ne) (O.small k h l b));
          at = λ a b.
              let old-at = get_or old (row + get_or classes a 0) 0 in
              let step = led_step E a n j w g old-at ew eg in
              by_eq w a
              (λ z. rw (step, eq-eqb w a z, ← z) (get_or-set_same new at g 0 (omega arith)))
              (λ ne. rw (step, ne_eqb w a ne)
              (get_or-set_other new at (row + get_or classes a 0) g 0
              (λ z. ne (C.alone w a small b (omega arith) nz)) ∙ O.at a b));
        }

    pub own_turn : (end j row w g : ℕ) (old new : List ℕ) → Owned E (end - j) j row classes old new → 0 < j
        → j ≤ end → end ≤ t → w < 256 → w ≡ (E (j - 1)).event → g ≡ (E (j - 1)).target → g < 65536 → row + m ≤ length old
        → Owned E (end - (j - 1)) (j - 1) row classes old (set new (row + get_or classes w 0) g)
    own_turn end j row w g old new O l u v small ew eg gs room =
        let e : end - (j - 1) ≡ end - j + 1 = omega arith in
        let h : j - 1 + 1 ≡ j = omega arith in
        let O' : Owned E (end - j) (j - 1 + 1) row classes old new = rw h O in
        rw e (own_put (end - j) (j - 1) row w g old new O' (omega arith) small ew eg gs room)

-- ---- the rows
-- those of the places below p are right: no entry has more failure steps than its place's number
pub record RowsBelow (M : Image) (n : ℕ) (classes table : List ℕ) (p : ℕ) : Type 0 where
  pub kept : length table ≡ 32768
  pub small : (f i : ℕ) → f < p → i < n → get_or table (n * f + i) 0 < 65536 * (f + 1)
  pub at : (f a : ℕ) → f < p → a < 256 → StepAt (next M f a) (get_or table (n * f + get_or classes a 0) 0)

pub row_in : (n f p : ℕ) → f < p → n * f + n ≤ n * p
row_in n f p l = let h : n * suc f ≤ n * p = mul-le-mul_left n (omega arith) in omega (arith, mul-suc n f)

step_fail : (s : Stand) (r : ℕ) → StepAt s r → StepAt (failing s) (r + 65536)
step_fail s r A = let x = A.place in let y = A.steps in record { place = omega arith; steps = omega arith }

step_led : (E : ℕ → EdgeRecord) (o : Option ℕ) (s : Stand) (r : ℕ) → ((j : ℕ) → o ≡ Some j → (E j).target < 65536)
    → StepAt s r → StepAt (take-edge (then o (λ j. Some (E j).target)) s) (led_by E o r)
step_led E None s r small A = A
step_led E (Some j) s r small A = let b = small j refl in record { place = omega arith; steps = omega arith }

-- the edges of place p, written over the row that starts at `row`
abbrev OwnedAt : List ℕ → ℕ → ℕ → ℕ → List ℕ → List ℕ → List ℕ → Type 0
OwnedAt xs q p row classes old new =
    Owned (edge_at form1 xs q) (place_at form1 xs p).count (place_at form1 xs p).first row classes old new

module _ (xs : List ℕ) (q t : ℕ) (F : Facts xs q t) where
  abbrev M : Image
  M = questions_at form1 xs q

  target_small : (p a : ℕ) → p < q → (j : ℕ) → M.find p a ≡ Some j → M.target j < 65536
  target_small p a b j e =
      let g : edge_of M p a ≡ Some (M.target j) = ap (λ (o : Option ℕ). then o (λ j. Some (M.target j))) e in
      let l = ((levels xs q t F).target p a (M.target j) b g).0 in
      let k = F.few_places in
      omega arith

  -- a place's entry, from what stood there before its own edges
  own-step : (p a row r : ℕ) (s : Stand) (classes old new : List ℕ) → p < q → a < 256
      → OwnedAt xs q p row classes old new
      → next M p a ≡ take-edge (edge_of M p a) s → get_or old (row + get_or classes a 0) 0 ≡ r → StepAt s r
      → StepAt (next M p a) (get_or new (row + get_or classes a 0) 0)
  own-step p a row r s classes old new b small O e h A =
      rw (e, O.at a small, h) (step_led (edge_at form1 xs q) (M.find p a) s r (target_small p a b) A)

  module _ (n : ℕ) (classes : List ℕ) (C : IsClasses (edge_at form1 xs q) t n classes) where
    pub rows-zero : (old new : List ℕ) → old ≡ replicate 32768 0 → n * q ≤ 32768 → OwnedAt xs q 0 0 classes old new
        → RowsBelow M n classes new 1
    rows-zero old new e fit O =
        let z : (i : ℕ) → i < 32768 → get_or old i 0 ≡ 0 = λ i b. rw e (get_or-replicate 32768 i 0 0 b) in
        let h = row_in n 0 q F.some_place in
        record {
          kept = O.kept ∙ ap (λ (l : List ℕ). length l) e ∙ length-replicate {A = ℕ} 32768 0;
          small = λ f i b c.
              let y : f ≡ 0 = omega arith in
              let v = z i (omega arith) in
              rw (y, mul-zero n, zero-add i) (O.small i 65536 (omega arith) (omega arith));
          at = λ f a b c.
              let y : f ≡ 0 = omega arith in
              let k = C.classed a c in
              rw (y, mul-zero n)
              (own-step 0 a 0 0 (stand 0 0) classes old new F.some_place c O (next-zero M a)
              (z (0 + get_or classes a 0) (omega arith)) (record { place = refl; steps = refl }));
        }

    -- a place p above 0, whose fallback's row is copied, and its own edges written over it
    module _ (p f : ℕ) (b : p < q) (nz : p ≢ 0) (ef : f ≡ M.fallback p) where
      lower : f < p
      lower = let d = (levels xs q t F).lower p b nz in omega arith

      pub row_copied : (table : List ℕ) → RowsBelow M n classes table p → n * q ≤ 32768
          → (n * f + n ≤ n * p) × (n * p + n ≤ 32768) × (length table ≡ 32768)
          × ((i : ℕ) → i < n → get_or table (n * f + i) 0 < 4294901760)
      row_copied table R fit =
          let l = lower in
          let k = F.few_places in
          let u = row_in n p q b in (
            row_in n f p l,
            omega arith,
            R.kept,
            λ i c. let s = R.small f i l c in omega arith,
          )

      module _ (old mid new : List ℕ) (R : RowsBelow M n classes old p) (K : Copied n (n * f) (n * p) old mid)
          (O : OwnedAt xs q p (n * p) classes mid new) where
        row_at : (a : ℕ) → a < 256 → StepAt (next M p a) (get_or new (n * p + get_or classes a 0) 0)
        row_at a small =
            own-step p a (n * p) _ (failing (next M f a)) classes mid new b small O
            (rw ef (next-step M (levels xs q t F).lower p a b nz)) (K.row (get_or classes a 0) (C.classed a small))
            (step_fail _ _ (R.at f a lower small))

        row_small : (i : ℕ) → i < n → get_or new (n * p + i) 0 < 65536 * (p + 1)
        row_small i c =
            let l = lower in
            let e = K.row i c in
            let s = R.small f i l c in
            O.small (n * p + i) (65536 * (p + 1)) (omega arith) (omega arith)

        -- what stands in the rows below is kept
        rows_kept : (g i : ℕ) → g < p → i < n → get_or new (n * g + i) 0 ≡ get_or old (n * g + i) 0
        rows_kept g i l c =
            let h = row_in n g p l in
            O.below (n * g + i) (omega arith) ∙ K.below (n * g + i) (omega arith)

        pub rows_more : RowsBelow M n classes new (p + 1)
        rows_more =
            record {
              kept = O.kept ∙ K.kept ∙ R.kept;
              small = λ g i l c.
                  by_eq g p (λ e. rw e (row_small i c))
                  (λ ne. rw (rows_kept g i (omega arith) c) (R.small g i (omega arith) c));
              at = λ g a l c.
                  by_eq g p (λ e. rw e (row_at a c))
                  (λ ne. rw (rows_kept g (get_or classes a 0) (omega arith) (C.classed a c)) (R.at g a (omega arith) c));
            }

    pub rows_done : (p : ℕ) (table : List ℕ) → RowsBelow M n classes table p → q ≤ p → n * q ≤ 32768
        → IsSteps M n classes table
    rows_done p table R l fit =
        record { fits = fit; classed = C.classed; at = λ g a b c. R.at g a (omega arith) c }

  -- ---- one event
  few_led : (o : Option ℕ) (s : Stand) (m : ℕ) → s.failed ≤ m
      → (take-edge (then o (λ j. Some (M.target j))) s).failed ≤ m
  few_led None s m l = l
  few_led (Some j) s m l = omega arith

  few_zero : (p a : ℕ) → p ≡ 0 → (next M p a).failed ≤ p
  few_zero p a z = rw (z, next-zero M a) (few_led (M.find 0 a) (stand 0 0) 0 (omega arith))

  -- each fallback is lower
  few_within : (h p a : ℕ) → p ≤ h → p < q → (next M p a).failed ≤ p
  few_within zero p a l b = few_zero p a (omega arith)
  few_within (suc h) p a l b =
      by_eq p 0 (λ z. few_zero p a z)
      (λ nz.
      let L = levels xs q t F in
      let d = L.lower p b nz in
      let i = few_within h (M.fallback p) a (omega arith) (omega arith) in
      rw (next-step M L.lower p a b nz)
      (few_led (M.find p a) (failing (next M (M.fallback p) a)) p (omega arith)))

  pub looked : (p a n r : ℕ) (classes table : List ℕ) → p < q → a < 256 → IsSteps M n classes table
      → r ≡ get_or table (n * p + get_or classes a 0) 0
      → MovedIs (next M p a) q p (record { place = r % 65536; steps = r / 65536 })
  looked p a n r classes table b small I e =
      let A = rw (← e) at (I.at p a b small) in
      record {
        place = A.place;
        steps = A.steps;
        below = rw A.place (next-below M (levels xs q t F) p a b);
        few = rw A.steps (few_within p p a (omega arith) b);
      }
