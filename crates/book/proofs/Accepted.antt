-- WHAT AN ACCEPTED BOOK IS: from `check_book xs ≡ accepted S E 0 0`, of its model B = book_of xs. Assumes nothing.
--   counts_are, limits          S and E are the trailer's; 1 ≤ S ≤ 512 and E ≤ 2,048
--   states_are                  B has S states
--   counts_sum                  the states' edge counts add up to E; edges_inside: so a state's edges are among the E
--   first_is                    the listed first edge of a state is the sum of the counts of all lower states
--   events_rise, rising         the events of a state's edges rise, in the model and in the bytes
--   lead_is                     where a search leads, with the first edges listed, is where the event leads in the book
--   rising_here, lead_here      the same for a caller's own part of the bytes and its own array
--   targets_up                  an edge leads to a higher state, below S
--   start_unmarked              the start has no mark
--   reached                     every other state is reached by an edge
--   ends_marked                 every other state without an edge is marked
--   marks_small, outs_small     marks and events are bytes
use mathlib.Core.Path.{◌≡◌, refl, sym, ap, ◌∙◌, subst}
use mathlib.Core.Logic.{◌≢◌}
use mathlib.Core.Bool.{Bool, true, false, not, ◌&&◌}
use Rattle.std.specs.Prelude.{Option, None, Some}
use mathlib.Core.List.{List, [], ◌∷◌, map}
use Prim.Native.Nat.{ℕ, zero, suc, ◌+◌, ◌-◌, ◌≤◌, ◌<◌}
use native.Mathlib.Omega.{arith}
use lib.ListN.{length, get_or}
use lib.Seq.{get_or-drop}
use lib.Dec.{eqb, ltb}
use borrow.Author.Tests.{eqb-true, eq-eqb, ne_eqb, leb-false, lt-ltb}
use Rattle.meaning.specs.Answer.{accepted}
use Rattle.meaning.specs.Book.{Edge, delta, outs, marks}
use Rattle.book.specs.Form.{most_states, most_edges, SB, letters_right, trailer_of, table_at, table_of}
use Rattle.book.specs.Form.{state_record_at, edge_record_at}
use Rattle.book.specs.Model.{list_from, first_edge, table_book, book_of, edges_below, firsts_of, Rising, lead_of}
use Rattle.book.specs.Rules.{entered, trailer_rules, table_rules, check_book}
use Rattle.book.proofs.Cases.{by_below, none_some, true_false, not_false, or_false}
use Rattle.book.proofs.Judged.{Passed, judged-passed, rule-passed, TrailerRight, trailer_right_lem}
use Rattle.book.proofs.Searches.{first_fault_none, own_faults_none, entered-edge, owner, rise_all}
use Rattle.book.proofs.Searches.{look_some, look_finds}
use Rattle.book.proofs.Model.{get_or-list_from, book_length, state_in, state_out, mark_in_lem, mark_out, count_in}
use Rattle.book.proofs.Model.{count_out, outs_in, below-first, first_mono, first_in_lem, lead_delta}

-- ---- a table that rules 7 to 13 pass
pub record TableRight (t : List ℕ) (S E : ℕ) : Type 0 where
  pub sum : first_edge t S ≡ E
  pub rise : (s j : ℕ) → s < S → first_edge t s < j → j < first_edge t s + (state_record_at t s).count
      → (edge_record_at t S (j - 1)).event < (edge_record_at t S j).event
  pub up : (s j : ℕ) → s < S → first_edge t s ≤ j → j < first_edge t s + (state_record_at t s).count
      → (s < (edge_record_at t S j).target) × ((edge_record_at t S j).target < S)
  pub start : (state_record_at t 0).mark ≡ 0
  pub into : (s : ℕ) → s < S → s ≢ 0 → entered t S E s ≡ true
  pub ends : (s : ℕ) → s < S → s ≢ 0 → (state_record_at t s).count ≡ 0 → (state_record_at t s).mark ≢ 0

both : (a b : Bool) → a ≡ true → b ≡ true → a && b ≡ true
both a b e f = rw (e, f)

pub table_right : (t : List ℕ) (S E : ℕ) → Passed (table_rules t S E) → TableRight t S E
table_right t S E (p7, (p8, (p9, (p10, (p11, (p12, (p13, _))))))) =
    record {
      sum = eqb-true _ E (not_false _ (rule-passed _ 0 p8));
      rise = λ s j l a b.
          let f = own_faults_none _ t S S 0 p9 s (omega arith) (omega arith) j (omega arith) b in
          leb-false _ _ (second (ltb (first_edge t s) j) _ (lt-ltb _ _ a) f);
      up = λ s j l a b.
          let f = or_false _ _ (own_faults_none _ t S S 0 p10 s (omega arith) (omega arith) j a b) in
          (leb-false _ _ f.0, leb-false _ _ f.1);
      start = eqb-true _ 0 (not_false _ (rule-passed _ 0 p11));
      into = λ s l n.
          let f = first_fault_none _ _ S 0 p12 s (omega arith) (omega arith) in
          not_false _ (second (not (eqb s 0)) _ (other s n) f);
      ends = λ s l n c m.
          true_false
          (both (not (eqb s 0)) _ (other s n) (both _ _ (eq-eqb _ 0 m) (eq-eqb _ 0 c)))
          (first_fault_none _ _ S 0 p13 s (omega arith) (omega arith));
    }
  where
    second : (a b : Bool) → a ≡ true → a && b ≡ false → b ≡ false
    second a b e f = sym (rw e) ∙ f

    other : (s : ℕ) → s ≢ 0 → not (eqb s 0) ≡ true
    other s n = rw (ne_eqb s 0 n)

-- ---- the model of a right table
map-list_from : {A : Type 0} (g : A → ℕ) (f : ℕ → A) (n k : ℕ) → map g (list_from f n k) ≡ list_from (λ i. g (f i)) n k
unfolding list_from
map-list_from g f zero k = refl
map-list_from g f (suc n) k = ap (λ (l : List ℕ). g (f k) ∷ l) (map-list_from g f n (k + 1))

module _ (t : List ℕ) (S q : ℕ) (l : q < S) where
  -- the event of a state's edge number i
  pub out_at : (i : ℕ) → i < (state_record_at t q).count
      → get_or (outs (table_book t S) q) i 0 ≡ (edge_record_at t S (first_edge t q + i)).event
  out_at i h =
      rw (outs_in t S q l, map-list_from (λ (e : Edge). e.event) _ (state_record_at t q).count (first_edge t q))
      (get_or-list_from (λ (j : ℕ). (edge_record_at t S j).event) (state_record_at t q).count (first_edge t q) i 0 h)

module _ (t : List ℕ) (S E : ℕ) (R : TableRight t S E) where
  abbrev event : ℕ → ℕ
  event j = (edge_record_at t S j).event

  rises : (s : ℕ) → s < S → (i k : ℕ) → first_edge t s ≤ i → i < k → k < first_edge t s + (state_record_at t s).count
      → event i < event k
  rises s l i k a b c =
      let e : i + suc (k - i - 1) ≡ k = omega arith in
      let last = first_edge t s + (state_record_at t s).count in
      let u : i + suc (k - i - 1) < last = omega arith in
      subst (λ (m : ℕ). event i < event m) e
      (rise_all event (first_edge t s) last (λ j v w. R.rise s j l v w) (k - i - 1) i a u)

  -- the edge j, an edge of the state s, is the one that its event leads by
  leads : (s j : ℕ) → s < S → first_edge t s ≤ j → j < first_edge t s + (state_record_at t s).count
      → delta (table_book t S) s (event j) ≡ Some (edge_record_at t S j).target
  leads s j l a b =
      rw (state_in t S s l)
      (look_finds t S (event j) (state_record_at t s).count (first_edge t s) j a b refl
      (λ k u v e. let m = rises s l k j u v b in omega arith))

  table_rise : (q i k : ℕ) → i < k → k < length (outs (table_book t S) q)
      → get_or (outs (table_book t S) q) i 0 < get_or (outs (table_book t S) q) k 0
  table_rise q i k h u =
      by_below q S
      (λ l.
      let c = count_in t S q l in
      rw (out_at t S q l i (omega arith), out_at t S q l k (omega arith))
      (rises q l _ _ (omega arith) (omega arith) (omega arith)))
      (λ l. let c = count_out t S q l in absurd (let w : ⊥ = omega arith in w))

  table_up : (q a p : ℕ) → delta (table_book t S) q a ≡ Some p → (q < p) × (p < S)
  table_up q a p e =
      by_below q S
      (λ l.
      let w = look_some t S a (state_record_at t q).count (first_edge t q) p (sym (rw (state_in t S q l)) ∙ e) in
      subst (λ (m : ℕ). (q < m) × (m < S)) w.4 (R.up q w.0 l w.1 w.2))
      (λ l. let n : delta (table_book t S) q a ≡ None = rw (state_out t S q l) in none_some n e)

  table_reached : (s : ℕ) → s < S → s ≢ 0 → (q : ℕ) × (a : ℕ) × (delta (table_book t S) q a ≡ Some s)
  table_reached s l n =
      let w = entered-edge t S E s (R.into s l n) in
      let z = R.sum in
      let j = w.0 in
      let m = w.1 in
      let o = owner t S j (omega arith) in
      (o.0, event j, leads o.0 j o.1 o.2 o.3 ∙ ap {B = Option ℕ} Some w.2)

  table_ends : (s : ℕ) → s < S → s ≢ 0 → outs (table_book t S) s ≡ [] → marks (table_book t S) s ≢ 0
  table_ends s l n e z =
      let c : (state_record_at t s).count ≡ 0 = sym (count_in t S s l) ∙ ap length e in
      R.ends s l n c (sym (mark_in_lem t S s l) ∙ z)

-- ---- the theorems
module _ (xs : List ℕ) (S E : ℕ) (A : check_book xs ≡ accepted S E 0 0) where
  all_passed : Passed (trailer_rules (length xs) (letters_right SB xs) (trailer_of xs))
      × Passed (table_rules (table_of xs) (trailer_of xs).states (trailer_of xs).edges)
      × (accepted (trailer_of xs).states (trailer_of xs).edges 0 0 ≡ accepted S E 0 0)
  unfolding check_book
  all_passed =
      let j = judged-passed (trailer_rules (length xs) (letters_right SB xs) (trailer_of xs)) _ A in
      let k = judged-passed (table_rules (table_of xs) (trailer_of xs).states (trailer_of xs).edges) _ j.1 in
      (j.0, k.0, k.1)

  pub counts_are : ((trailer_of xs).states ≡ S) × ((trailer_of xs).edges ≡ E)
  counts_are = let e = all_passed.2 in (cc, cc)

  pub trailer_is : TrailerRight (length xs) (letters_right SB xs) (trailer_of xs)
  trailer_is = trailer_right_lem (length xs) (letters_right SB xs) (trailer_of xs) all_passed.0

  pub table_is : TableRight (table_of xs) S E
  table_is =
      let c = counts_are in
      rw (c.0, c.1) at (table_right (table_of xs) (trailer_of xs).states (trailer_of xs).edges all_passed.1)

  -- the model is that of the table with S states
  pub book_is : book_of xs ≡ table_book (table_of xs) S
  book_is = ap (λ (n : ℕ). table_book (table_of xs) n) counts_are.0

  pub limits : (1 ≤ S) × (S ≤ most_states) × (E ≤ most_edges)
  limits =
      let c = counts_are in
      let r = trailer_is in
      (omega (arith, c.0, r.some_state), omega (arith, c.0, r.states), omega (arith, c.1, r.edges))

  pub states_are : length (book_of xs) ≡ S
  states_are = rw book_is (book_length (table_of xs) S)

  pub counts_sum : edges_below (book_of xs) S ≡ E
  counts_sum = rw book_is (below-first (table_of xs) S S (omega arith) ∙ table_is.sum)

  sum_small : first_edge (table_of xs) S < 65536
  sum_small = let z = table_is.sum in let m = limits.2 in omega arith

  -- the first edge of a state, as `firsts` lists it
  pub first_is : (q : ℕ) → q < S → get_or (firsts_of (book_of xs)) q 0 ≡ first_edge (table_of xs) q
  first_is q l = rw book_is (first_in_lem (table_of xs) S limits.1 sum_small q l)

  pub edges_inside : (q : ℕ) → q < S → first_edge (table_of xs) q + (state_record_at (table_of xs) q).count ≤ E
  unfolding first_edge
  edges_inside q l = let m = first_mono (table_of xs) S (suc q) S l in let z = table_is.sum in omega arith

  pub events_rise : (q i k : ℕ) → i < k → k < length (outs (book_of xs) q)
      → get_or (outs (book_of xs) q) i 0 < get_or (outs (book_of xs) q) k 0
  events_rise = rw book_is (table_rise (table_of xs) S E table_is)

  -- so a search by halving may be used, and every search finds the book's edge
  pub rising : (q : ℕ) → Rising (table_of xs) S (firsts_of (book_of xs)) q
  rising q m =
      by_below q S
      (λ l. rw (first_is q l, count_in (table_of xs) S q l) (rises (table_of xs) S E table_is q l))
      (λ l i k a b c. let z = count_out (table_of xs) S q l in absurd (let w : ⊥ = omega arith in w))

  pub lead_is : (q a : ℕ) → lead_of (table_of xs) S (firsts_of (book_of xs)) q a ≡ delta (book_of xs) q a
  lead_is q a = rw book_is (lead_delta (table_of xs) S limits.1 sum_small q a)

  pub targets_up : (q a p : ℕ) → delta (book_of xs) q a ≡ Some p → (q < p) × (p < S)
  targets_up = rw book_is (table_up (table_of xs) S E table_is)

  pub start_unmarked : marks (book_of xs) 0 ≡ 0
  start_unmarked = let r = limits.0 in rw book_is (mark_in_lem (table_of xs) S 0 (omega arith) ∙ table_is.start)

  pub reached : (s : ℕ) → s < S → s ≢ 0 → (q : ℕ) × (a : ℕ) × (delta (book_of xs) q a ≡ Some s)
  reached = rw book_is (table_reached (table_of xs) S E table_is)

  pub ends_marked : (s : ℕ) → s < S → s ≢ 0 → outs (book_of xs) s ≡ [] → marks (book_of xs) s ≢ 0
  ends_marked = rw book_is (table_ends (table_of xs) S E table_is)

  -- the same for a caller's own part of the bytes and the array that `firsts` gave it
  module _ (t first : List ℕ) (e : t ≡ table_of xs) (f : first ≡ firsts_of (table_book t S)) where
    pub firsts_here : first ≡ firsts_of (book_of xs)
    firsts_here = rw (book_is, ← e) f

    pub rising_here : (q : ℕ) → Rising t S first q
    rising_here q = let g = firsts_here in rw (e, g) (rising q)

    pub lead_here : (q a : ℕ) → lead_of t S first q a ≡ delta (book_of xs) q a
    lead_here q a = let g = firsts_here in rw (e, g) (lead_is q a)

-- ---- bytes
module _ (xs : List ℕ) (bytes : (i : ℕ) → get_or xs i 0 < 256) where
  table-byte : (i : ℕ) → get_or (table_of xs) i 0 < 256
  table-byte i = rw (get_or-drop (table_at xs) xs i 0) (bytes (table_at xs + i))

  pub marks_small : (q : ℕ) → marks (book_of xs) q < 256
  unfolding state_record_at
  marks_small q =
      let S = (trailer_of xs).states in
      by_below q S
      (λ l. rw (mark_in_lem (table_of xs) S q l) (table-byte _))
      (λ l. rw (mark_out (table_of xs) S q l) (omega arith))

  pub outs_small : (q i : ℕ) → i < length (outs (book_of xs) q) → get_or (outs (book_of xs) q) i 0 < 256
  unfolding edge_record_at
  outs_small q i h =
      let S = (trailer_of xs).states in
      by_below q S
      (λ l. let c = count_in (table_of xs) S q l in rw (out_at (table_of xs) S q l i (omega arith)) (table-byte _))
      (λ l. let c = count_out (table_of xs) S q l in absurd (let w : ⊥ = omega arith in w))
