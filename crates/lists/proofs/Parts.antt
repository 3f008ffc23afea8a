-- The part of a log: that it is inside the log (`part_inside`), that it is empty exactly where it is refused (`part_empty`,
-- `part_refused`), and that it is the ending of the events read so far (`part-ending`). Assumes nothing.
use mathlib.Core.Path.{◌≡◌, refl, sym, ap, subst, ◌∙◌}
use mathlib.Core.Bool.{Bool, true, false}
use Rattle.std.specs.Prelude.{None, Some}
use mathlib.Core.List.{List, [], ◌++◌}
use Prim.Native.Nat.{ℕ, ◌+◌, ◌-◌, ◌≤◌, ◌<◌}
use native.Mathlib.Omega.{arith}
use lib.ListN.{length, take, drop, length-take, length-drop}
use lib.Seq.{take-add}
use lib.Dec.{eqb, ltb}
use borrow.Author.Tests.{ne_eqb, le-ltb, ltb-false, eqb-false}
use Rattle.meaning.specs.Choice.{when}
use Rattle.meaning.specs.Text.{events}
use Rattle.meaning.specs.Answer.{Answer, accepted, refused, faulty}
use Rattle.lists.specs.Part.{part_answer, part_of, cut}

module _ (log : List ℕ) (base end l : ℕ) (low : base + length log ≤ 4294967295) (some-length : l ≡ 0 → ⊥)
    (starts : base + l ≤ end) (ends : end ≤ base + length log) where
  pub part_fine : accepted (end - base - l) l 0 0 ≡ part_answer log base end l
  unfolding part_answer
  part_fine =
      let e : end - base - (end - base - l) ≡ l = omega arith in
      rw (
        le-ltb 4294967295 (base + length log) low,
        ne_eqb l 0 some-length,
        le-ltb end l (omega arith),
        le-ltb end (base + l) starts,
        le-ltb (base + length log) end ends,
        e,
      )

-- what holds of an answer: a part that is not refused is not empty, and is inside the log
abbrev Inside : List ℕ → Answer → Type 0
Inside log (accepted offset n c d) = (0 < n) × (offset + n ≤ length log)
Inside log (refused n p) = Unit {0}

-- a rule that is broken refuses, and one that is not says so to those after it
passed : (P : Answer → Type 0) (n : ℕ) (b : Bool) (p : ℕ) (x : Answer) → P (refused n p) → (b ≡ false → P x)
    → P (faulty n (when b (Some p) None) x)
passed P n true p x f g = f
passed P n false p x f g = g refl

answer_inside : (log : List ℕ) (base end l : ℕ) → Inside log (part_answer log base end l)
unfolding part_answer
answer_inside log base end l =
    passed (Inside log) 21 (ltb 4294967295 (base + length log)) 0 _ tt (λ low.
    passed (Inside log) 24 (eqb l 0) 0 _ tt (λ some-length.
    passed (Inside log) 24 (ltb end l) 0 _ tt (λ _.
    passed (Inside log) 24 (ltb end (base + l)) 0 _ tt (λ starts.
    passed (Inside log) 24 (ltb (base + length log) end) 0 _ tt (λ ends.
    let h₁ = eqb-false l 0 some-length in
    let h₂ = ltb-false end (base + l) starts in
    let h₃ = ltb-false (base + length log) end ends in
    (omega arith, omega arith))))))

-- the slice that the code takes
module _ (log : List ℕ) (base end l : ℕ) {offset n : ℕ} (fine : accepted offset n 0 0 ≡ part_answer log base end l) where
  pub part_inside : (0 < n) × (offset + n ≤ length log)
  part_inside = subst (Inside log) (sym fine) (answer_inside log base end l)

  pub part_taken : take (offset + n - offset) (drop offset log) ≡ part_of log base end l
  unfolding part_of
  part_taken = let e : offset + n - offset ≡ n = omega arith in rw e (ap (cut log) fine)

-- a refusal gives an empty part
pub part_refused : (log : List ℕ) (base end l : ℕ) {n p : ℕ} → refused n p ≡ part_answer log base end l
    → [] ≡ part_of log base end l
unfolding part_of
part_refused log base end l e = ap (cut log) e

empty_refused : (log : List ℕ) (a : Answer) → Inside log a → cut log a ≡ [] → (n : ℕ) × (p : ℕ) × (refused n p ≡ a)
empty_refused log (accepted offset n c d) h e =
    let z : length (take n (drop offset log)) ≡ 0 = ap length e in
    absurd (omega (arith, simp (length-take, length-drop) at z))
empty_refused log (refused n p) h e = (n, p, refl)

-- and nothing else does
pub part_empty : (log : List ℕ) (base end l : ℕ) → part_of log base end l ≡ []
    → (n : ℕ) × (p : ℕ) × (refused n p ≡ part_answer log base end l)
unfolding part_of
part_empty log base end l e = empty_refused log (part_answer log base end l) (answer_inside log base end l) e

-- after n events of the log, a length of l names their last l events
module _ (log : List ℕ) (base n l : ℕ) (read : n ≤ length log) (some-length : 1 ≤ l) (within : l ≤ n)
    (low : base + length log ≤ 4294967295) where
  part_last : take l (drop (n - l) log) ≡ part_of log base (base + n) l
  unfolding part_of
  part_last =
      let e : base + n - base - l ≡ n - l = omega arith in
      rw e at (ap (cut log) (part_fine log base (base + n) l low (omega arith) (omega arith) (omega arith)))

  pub part-ending :
      (s : List ℕ) × (s ++ part_of log base (base + n) l ≡ take n log) × (length (part_of log base (base + n) l) ≡ l)
  part-ending =
      let e : n - l + l ≡ n = omega arith in (
        take (n - l) log,
        ap (λ (p : List ℕ). take (n - l) log ++ p) (sym part_last) ∙ sym (take-add (n - l) l log)
            ∙ ap (λ (k : ℕ). take k log) e,
        ap length (sym part_last) ∙ simp (length-take, length-drop) (omega arith),
      )

  -- every byte of a log is an event
  pub part_events : length (events (part_of log base (base + n) l)) ≡ l
  unfolding events
  part_events = part-ending.2
