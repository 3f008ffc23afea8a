-- The model of a state table, state by state and edge by edge: what the functions read is what the model has.
-- Assumes nothing.
--   state_in, state_out             a state below S; any other
--   mark_in_lem, count_in, outs_in  its mark, the number of its edges, their events
--   edges-step, events-step         the edges from edge j on, one after the other; events_at_lem, the event of one of them
--   look_turn                       a search among them
--   first_in_lem, lead_delta        the first edge of each state; where an event leads by it is where it leads in the book
use mathlib.Core.Path.{◌≡◌, refl, sym, ap, ◌∙◌}
use Rattle.std.specs.Prelude.{Option, None, Some}
use mathlib.Core.List.{List, [], ◌∷◌, map}
use Prim.Native.Nat.{ℕ, zero, suc, ◌+◌, ◌-◌, ◌%◌, ◌≤◌, ◌<◌}
use native.Mathlib.Omega.{arith}
use lib.ListN.{length, get_or, set, replicate, length-map, length-set, length-replicate, get_or-eq_default}
use lib.Seq.{get_or-set_same, get_or-set_other, ext_get_or}
use lib.Dec.{eqb}
use borrow.Author.Tests.{lt-ltb, le-ltb}
use Rattle.meaning.specs.Choice.{when}
use Rattle.meaning.specs.Book.{Edge, State, state, Book, state_at, look, delta, outs, marks}
use Rattle.book.specs.Form.{most_states, state_record_at, edge_record_at}
use Rattle.book.specs.Model.{list_from, first_edge, edge_of, edges_from, state_of, table_book}
use Rattle.book.specs.Model.{edges_below, firsts_of, lead_of}
use Rattle.book.proofs.Cases.{by_eq, by_below}

-- ---- lists of numbered things
module _ {A : Type 0} (f : ℕ → A) where
  pub list_from-step : (n k : ℕ) → 0 < n → list_from f n k ≡ f k ∷ list_from f (n - 1) (k + 1)
  unfolding list_from
  list_from-step zero k h = absurd (omega arith)
  list_from-step (suc n) k h = let e : suc n - 1 ≡ n = omega arith in rw e

  pub length-list_from : (n k : ℕ) → length (list_from f n k) ≡ n
  unfolding list_from
  length-list_from zero k = refl
  length-list_from (suc n) k = ap suc (length-list_from n (k + 1))

  pub get_or-list_from : (n k i : ℕ) (d : A) → i < n → get_or (list_from f n k) i d ≡ f (k + i)
  unfolding list_from
  get_or-list_from zero k i d h = absurd (omega arith)
  get_or-list_from (suc n) k zero d h = let e : k + 0 ≡ k = omega arith in rw e
  get_or-list_from (suc n) k (suc i) d h =
      let e : k + suc i ≡ k + 1 + i = omega arith in
      rw e (get_or-list_from n (k + 1) i d (omega arith))

  pub get_or-list_from_out : (n k i : ℕ) (d : A) → n ≤ i → get_or (list_from f n k) i d ≡ d
  get_or-list_from_out n k i d h = let l = length-list_from n k in get_or-eq_default (list_from f n k) d (omega arith)

-- ---- states
module _ (t : List ℕ) (S : ℕ) where
  pub book_length : length (table_book t S) ≡ S
  unfolding table_book
  book_length = length-list_from (state_of t S) S 0

  module _ (q : ℕ) where
    pub state_in : q < S → state_at (table_book t S) q ≡ state_of t S q
    unfolding table_book
    state_in l = let e : 0 + q ≡ q = omega arith in get_or-list_from (state_of t S) S 0 q (state 0 []) l ∙ rw e

    pub state_out : S ≤ q → state_at (table_book t S) q ≡ state 0 []
    unfolding table_book
    state_out l = get_or-list_from_out (state_of t S) S 0 q (state 0 []) l

    pub mark_in_lem : q < S → marks (table_book t S) q ≡ (state_record_at t q).mark
    mark_in_lem l = ap (λ (x : State). x.mark) (state_in l)

    pub mark_out : S ≤ q → marks (table_book t S) q ≡ 0
    mark_out l = ap (λ (x : State). x.mark) (state_out l)

    pub outs_in : q < S → outs (table_book t S) q
        ≡ map (λ (e : Edge). e.event) (edges_from t S (state_record_at t q).count (first_edge t q))
    outs_in l = rw (state_in l)

    pub outs_out : S ≤ q → outs (table_book t S) q ≡ []
    outs_out l = rw (state_out l)

    pub count_in : q < S → length (outs (table_book t S) q) ≡ (state_record_at t q).count
    count_in l =
        let n = (state_record_at t q).count in
        let j = first_edge t q in
        rw (outs_in l) (length-map (edges_from t S n j) (λ (e : Edge). e.event) ∙ length-list_from (edge_of t S) n j)

    pub count_out : S ≤ q → length (outs (table_book t S) q) ≡ 0
    count_out l = rw (outs_out l)

  -- ---- edges
  abbrev pub events_from : ℕ → ℕ → List ℕ
  events_from n j = map (λ (e : Edge). e.event) (edges_from t S n j)

  pub events-step : (n j : ℕ) → 0 < n → events_from n j ≡ (edge_record_at t S j).event ∷ events_from (n - 1) (j + 1)
  events-step n j h = rw (list_from-step (edge_of t S) n j h)

  pub events_end : (n j : ℕ) → n ≡ 0 → events_from n j ≡ []
  unfolding list_from
  events_end n j e = rw e

  pub events_at_lem : (n j i : ℕ) → i < n → get_or (events_from n j) i 0 ≡ (edge_record_at t S (j + i)).event
  unfolding list_from
  events_at_lem zero j i h = absurd (let w : ⊥ = omega arith in w)
  events_at_lem (suc n) j zero h = let e : j + 0 ≡ j = omega arith in rw e
  events_at_lem (suc n) j (suc i) h =
      let e : j + suc i ≡ j + 1 + i = omega arith in
      rw e (events_at_lem n (j + 1) i (omega arith))

  pub look_turn : (n j a f : ℕ) → 0 < n → f ≡ (edge_record_at t S j).event
      → look (edges_from t S n j) a
      ≡ when (eqb f a) (Some (edge_record_at t S j).target) (look (edges_from t S (n - 1) (j + 1)) a)
  look_turn n j a f h k = rw (list_from-step (edge_of t S) n j h, k)

  pub look_end : (n j a : ℕ) → n ≡ 0 → look (edges_from t S n j) a ≡ None
  unfolding list_from
  look_end n j a e = rw e

-- ---- the first edges
pub below-zero : (B : Book) → edges_below B 0 ≡ 0
unfolding edges_below
below-zero B = refl

pub below_suc : (B : Book) (q : ℕ) → edges_below B (q + 1) ≡ edges_below B q + length (outs B q)
unfolding edges_below
below_suc B q = let e : q + 1 ≡ suc q = omega arith in rw e

-- the numbers of the first q states are listed
pub record Listed (B : Book) (q sum : ℕ) (r : List ℕ) : Type 0 where
  pub most : q ≤ most_states
  pub sum_is : sum ≡ edges_below B q
  pub size : length r ≡ most_states
  pub is : (i : ℕ) → i < q → get_or r i 0 ≡ edges_below B i % 65536

module _ (B : Book) where
  pub listed_start : Listed B 0 0 (replicate 512 0)
  listed_start =
      record {
        most = omega arith;
        sum_is = sym (below-zero B);
        size = length-replicate {A = ℕ} 512 0;
        is = λ i h. absurd (let w : ⊥ = omega arith in w);
      }

  pub listed_next : (q sum n : ℕ) (r : List ℕ) → Listed B q sum r → q < most_states → n ≡ length (outs B q)
      → Listed B (q + 1) (sum + n) (set r q (sum % 65536))
  listed_next q sum n r L h e =
      let z = L.size in
      let s = L.sum_is in
      record {
        most = omega arith;
        sum_is = rw (below_suc B q, ← s, ← e);
        size = length-set r q (sum % 65536) ∙ L.size;
        is = λ i l.
            by_eq i q (λ k. rw (k, ← s) (get_or-set_same r q (sum % 65536) 0 (omega arith)))
            (λ k. get_or-set_other r q i (sum % 65536) 0 k ∙ L.is i (omega arith));
      }

  pub listed_all : (q sum : ℕ) (r : List ℕ) → Listed B q sum r → most_states ≤ q → r ≡ firsts_of B
  unfolding firsts_of
  listed_all q sum r L h =
      let f : ℕ → ℕ = λ i. edges_below B i % 65536 in
      ext_get_or 0 r (list_from f most_states 0) (L.size ∙ sym (length-list_from f most_states 0))
      (λ i l.
      let z = L.size in
      let e : 0 + i ≡ i = omega arith in
      L.is i (omega arith) ∙ sym (get_or-list_from f most_states 0 i 0 (omega arith) ∙ rw e))

  pub length_firsts : length (firsts_of B) ≡ most_states
  unfolding firsts_of
  length_firsts = length-list_from (λ (i : ℕ). edges_below B i % 65536) most_states 0

  pub get_or_firsts : (q : ℕ) → q < most_states → get_or (firsts_of B) q 0 ≡ edges_below B q % 65536
  unfolding firsts_of
  get_or_firsts q l =
      let e : 0 + q ≡ q = omega arith in
      get_or-list_from (λ (i : ℕ). edges_below B i % 65536) most_states 0 q 0 l ∙ rw e

-- a search by the numbers of the definition
pub lead_by : (t : List ℕ) (S : ℕ) (first : List ℕ) (q a n j : ℕ) {o : Option ℕ} → q < most_states
    → n ≡ length (outs (table_book t S) q) → j ≡ get_or first q 0 → o ≡ look (edges_from t S n j) a → o ≡ lead_of t S first q a
unfolding lead_of
lead_by t S first q a n j l e f h = rw (lt-ltb q most_states l, ← e, ← f) h

pub lead-past : (t : List ℕ) (S : ℕ) (first : List ℕ) (q a : ℕ) → most_states ≤ q → None ≡ lead_of t S first q a
unfolding lead_of
lead-past t S first q a h = rw (le-ltb q most_states h)

module _ (t : List ℕ) (S : ℕ) where
  -- the edges of the states below q, counted in the model and in the bytes
  pub below-first : (q : ℕ) → q ≤ S → edges_below (table_book t S) q ≡ first_edge t q
  unfolding edges_below first_edge
  below-first zero l = refl
  below-first (suc q) l =
      let i = below-first q (omega arith) in
      let c = count_in t S q (omega arith) in
      rw (i, c)

  pub first_le : (q n : ℕ) → first_edge t q ≤ first_edge t (n + q)
  unfolding first_edge
  first_le q zero = let e : 0 + q ≡ q = omega arith in rw e (omega arith)
  first_le q (suc n) = let e : suc n + q ≡ suc (n + q) = omega arith in let i = first_le q n in rw e (omega arith)

  pub first_mono : (q r : ℕ) → q ≤ r → first_edge t q ≤ first_edge t r
  first_mono q r l = let e : r - q + q ≡ r = omega arith in rw e at (first_le q (r - q))

  module _ (few : S ≤ most_states) (fits : first_edge t S < 65536) where
    pub first_in_lem : (q : ℕ) → q < S → get_or (firsts_of (table_book t S)) q 0 ≡ first_edge t q
    first_in_lem q l =
        let m = first_mono q S (omega arith) in
        let b = below-first q (omega arith) in
        get_or_firsts (table_book t S) q (omega arith) ∙ omega arith

    pub lead_delta : (q a : ℕ) → lead_of t S (firsts_of (table_book t S)) q a ≡ delta (table_book t S) q a
    unfolding lead_of
    lead_delta q a =
        by_below q S
        (λ l.
        let m : q < most_states = omega arith in
        let f = first_in_lem q l in
        rw (lt-ltb q most_states m, count_in t S q l, f, state_in t S q l))
        (λ l. by_below q most_states
        (λ m. rw (lt-ltb q most_states m, count_out t S q l, state_out t S q l) (look_end t S 0 _ a refl))
        (λ m. rw (le-ltb q most_states m, state_out t S q l)))
