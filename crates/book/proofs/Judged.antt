-- What the rules say of a book that none of them refuses, and how the check goes from row to row. Assumes nothing.
--   Passed, judged-passed       every rule of a list finds no fault; so it is where the answer is an acceptance
--   passed-judged               what is judged then is what comes after the list
--   TrailerRight, trailer_right_lem what rules 1 to 6 leave
--   trailer_answer ..           from the trailer to the table
--   table_part                  the part of the bytes that the code takes for the state table
use mathlib.Core.Path.{◌≡◌, refl, sym, ap, ◌∙◌}
use mathlib.Core.Bool.{Bool, true, false, not}
use Rattle.std.specs.Prelude.{None, Some}
use mathlib.Core.List.{List, [], ◌∷◌}
use Prim.Native.Nat.{ℕ, ◌-◌, ◌≤◌}
use native.Mathlib.Omega.{arith}
use lib.ListN.{length, take, drop, length-drop}
use lib.Seq.{take_all}
use lib.Dec.{eqb, ltb}
use borrow.Author.Tests.{eqb-true, eqb-false, ltb-false}
use Rattle.meaning.specs.Choice.{when}
use Rattle.meaning.specs.Answer.{Answer, accepted, refused, Rule, judged}
use Rattle.book.specs.Form.{most_states, most_edges, most_bytes, trailer_size, size_of}
use Rattle.book.specs.Form.{SB, letters_right, trailer_of, table_at, table_of}
use Rattle.book.specs.Rules.{trailer_rules, table_rules, check_book}
use Rattle.book.specs.Reads.{HoldsEdges}
use Rattle.book.specs.declared.Trailer.{Trailer}
use Rattle.book.proofs.Cases.{by_option, none_some, not_false, or_false}

abbrev pub Passed : List Rule → Type 0
Passed [] = Unit {0}
Passed (r ∷ rs) = (r.fault ≡ None) × Passed rs

pub judged-passed : (rs : List Rule) (x : Answer) {a b c d : ℕ} → judged rs x ≡ accepted a b c d
    → Passed rs × (x ≡ accepted a b c d)
judged-passed [] x e = (tt, e)
judged-passed (r ∷ rs) x {a} {b} {c} {d} e =
    by_option r.fault
    (λ f. let i = judged-passed rs x (passes f) in ((f, i.0), i.1))
    (λ p f. let r = refuses p f in cc)
  where
    passes : r.fault ≡ None → judged rs x ≡ accepted a b c d
    passes f = sym (rw f) ∙ e

    refuses : (p : ℕ) → r.fault ≡ Some p → judged (r ∷ rs) x ≡ refused r.number p
    refuses p f = rw f

pub passed-judged : (rs : List Rule) (x : Answer) → Passed rs → judged rs x ≡ x
passed-judged [] x p = refl
passed-judged (r ∷ rs) x (f, p) = rw f (passed-judged rs x p)

-- a rule by a test is passed where the test fails
pub rule-passed : (b : Bool) (p : ℕ) → when b (Some p) None ≡ None → b ≡ false
rule-passed true p e = none_some e refl
rule-passed false p e = refl

pub record TrailerRight (n : ℕ) (l : Bool) (T : Trailer) : Type 0 where
  pub whole : trailer_size ≤ n
  pub short : n ≤ most_bytes
  pub letters : l ≡ true
  pub form : T.form ≡ 1
  pub some_state : 1 ≤ T.states
  pub states : T.states ≤ most_states
  pub edges : T.edges ≤ most_edges
  pub distance : T.distance ≡ size_of T.states T.edges
  pub inside : T.distance ≤ n

pub trailer_right_lem : (n : ℕ) (l : Bool) (T : Trailer) → Passed (trailer_rules n l T) → TrailerRight n l T
trailer_right_lem n l T (p1, (p2, (p3, (p4, (p5, (p6, _)))))) =
    let r5 = or_false (eqb T.states 0) _ (rule-passed _ 0 p5) in
    let r5' = or_false (ltb most_states T.states) _ r5.1 in
    let r6 = or_false (not (eqb T.distance (size_of T.states T.edges))) _ (rule-passed _ 0 p6) in
    let nonzero = eqb-false T.states 0 r5.0 in
    record {
      whole = ltb-false n trailer_size (rule-passed _ 0 p1);
      short = ltb-false most_bytes n (rule-passed _ 0 p2);
      letters = not_false l (rule-passed _ 0 p3);
      form = eqb-true T.form 1 (not_false _ (rule-passed _ 0 p4));
      some_state = omega arith;
      states = ltb-false most_states T.states r5'.0;
      edges = ltb-false most_edges T.edges r5'.1;
      distance = eqb-true _ _ (not_false _ r6.0);
      inside = ltb-false n T.distance r6.1;
    }

-- ---- from the trailer to the table
-- what the check of the trailer says of the answer for the bytes xs, which have the trailer T
module _ (xs : List ℕ) {T : Trailer} (e : T ≡ trailer_of xs) where
  abbrev letters : Bool
  letters = letters_right SB xs

  abbrev rest : Answer
  rest = judged (table_rules (table_of xs) T.states T.edges) (accepted T.states T.edges 0 0)

  pub trailer_answer : {y : Answer} → y ≡ judged (trailer_rules (length xs) letters T) rest → y ≡ check_book xs
  unfolding check_book
  trailer_answer h = rw (← e) h

  module _ (h : (x : Answer) → x ≡ judged (trailer_rules (length xs) letters T) x) where
    pub trailer_passed : TrailerRight (length xs) letters T
    trailer_passed =
        trailer_right_lem (length xs) letters T
        (judged-passed (trailer_rules (length xs) letters T) (accepted 0 0 0 0) (sym (h (accepted 0 0 0 0)))).0

    module _ (t : List ℕ) (p : t ≡ table_of xs) where
      pub table_holds : HoldsEdges t T.states T.edges
      unfolding table_at
      table_holds =
          let r = trailer_passed in
          let d : T.distance ≡ (trailer_of xs).distance = ap (λ (y : Trailer). y.distance) e in
          let w = length-drop (table_at xs) xs in
          rw p (omega (arith, w, d, r.distance, r.inside))

      pub table_answer : {y : Answer} → y ≡ judged (table_rules t T.states T.edges) (accepted T.states T.edges 0 0) → y ≡ check_book xs
      table_answer q = trailer_answer (rw p at q ∙ h rest)

pub table_part : (xs : List ℕ) (at : ℕ) → at ≡ table_at xs → take (length xs - at) (drop at xs) ≡ table_of xs
table_part xs at e =
    take_all (length xs - at) (drop at xs) (simp length-drop (omega arith)) ∙ ap (λ (k : ℕ). drop k xs) e

pub table-inside : (xs : List ℕ) → table_at xs ≤ length xs
unfolding table_at
table-inside xs = omega arith
