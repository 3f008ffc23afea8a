-- The two searches for an event among edges, on plain values: one edge after the other, and by halving among rising
-- events. Each loop keeps one record, and a turn finds what the search finds, or keeps the record for the next turn.
-- Assumes nothing.
--   SeekLoop            the search from the first edge is the search from edge j
--   Narrowed            the event is not before edge j, nor from edge j + left on
--   narrowed_all        all edges, at the start
--   narrowed_start      among `count` bytes that rise an event stands from event + count - 256 to event
use mathlib.Core.Path.{◌≡◌, refl, sym, ap, ◌∙◌}
use mathlib.Core.Bool.{false}
use Rattle.std.specs.Prelude.{Option, None, Some}
use mathlib.Core.List.{List}
use Prim.Native.Nat.{ℕ, zero, suc, ◌+◌, ◌-◌, ◌/◌, ◌≤◌, ◌<◌, min}
use native.Mathlib.Omega.{arith}
use lib.ListN.{get_or}
use lib.Dec.{eqb}
use borrow.Author.Tests.{eq-eqb, ne_eqb}
use Rattle.meaning.specs.Choice.{when}
use Rattle.meaning.specs.Book.{look}
use Rattle.book.specs.Form.{edge_record_at}
use Rattle.book.specs.Model.{list_from, edges_from, RiseFrom}
use Rattle.book.specs.declared.EdgeRecord.{EdgeRecord}
use Rattle.book.proofs.Cases.{by_eq, by_below}
use Rattle.book.proofs.Model.{look_turn, look_end}
use Rattle.book.proofs.Searches.{look_finds}

pub event_is : {e x : EdgeRecord} → e ≡ x → e.event ≡ x.event
event_is h = ap (λ (y : EdgeRecord). y.event) h

pub target_is : {e x : EdgeRecord} → e ≡ x → e.target ≡ x.target
target_is h = ap (λ (y : EdgeRecord). y.target) h

-- ---- one after the other
pub record SeekLoop (t : List ℕ) (S a first count j : ℕ) : Type 0 where
  pub same : look (edges_from t S count first) a ≡ look (edges_from t S (first + count - j) j) a

pub seek_end : {t : List ℕ} {S a first count j : ℕ} → SeekLoop t S a first count j → first + count ≤ j
    → None ≡ look (edges_from t S count first) a
seek_end {t} {S} {a} {first} {count} {j} L z = sym (L.same ∙ look_end t S (first + count - j) j a (omega arith))

module _ {t : List ℕ} {S a first count j : ℕ} (L : SeekLoop t S a first count j) (some_left : j < first + count)
    {f : EdgeRecord} (e : f ≡ edge_record_at t S j) where
  seek_turn : look (edges_from t S count first) a
      ≡ when (eqb f.event a) (Some (edge_record_at t S j).target) (look (edges_from t S (first + count - (j + 1)) (j + 1)) a)
  seek_turn =
      let d : first + count - (j + 1) ≡ first + count - j - 1 = omega arith in
      rw d (L.same ∙ look_turn t S (first + count - j) j a f.event (omega arith) (event_is e))

  pub seek_here : f.event ≡ a → Some f.target ≡ look (edges_from t S count first) a
  seek_here h = sym (seek_turn ∙ rw (eq-eqb f.event a h, ← target_is e))

  pub seek-next : (f.event ≡ a → ⊥) → SeekLoop t S a first count (j + 1)
  seek-next h = record { same = seek_turn ∙ rw (ne_eqb f.event a h) }

-- ---- by halving
look_none : (t : List ℕ) (S a n j : ℕ) → ((k : ℕ) → j ≤ k → k < j + n → (edge_record_at t S k).event ≡ a → ⊥)
    → look (edges_from t S n j) a ≡ None
unfolding list_from
look_none t S a zero j h = refl
look_none t S a (suc n) j h =
    let b : eqb (edge_record_at t S j).event a ≡ false = ne_eqb _ a (h j (omega arith) (omega arith)) in
    rw b (look_none t S a n (j + 1) (λ k l u. h k (omega arith) (omega arith)))

pub record Narrowed (t : List ℕ) (S a first count j left : ℕ) : Type 0 where
  pub low : first ≤ j
  pub high : j + left ≤ first + count
  pub below : (k : ℕ) → first ≤ k → k < j → (edge_record_at t S k).event < a
  pub above : (k : ℕ) → j + left ≤ k → k < first + count → a < (edge_record_at t S k).event

event_small : (t : List ℕ) (S : ℕ) → ((i : ℕ) → get_or t i 0 < 256) → (k : ℕ) → (edge_record_at t S k).event < 256
unfolding edge_record_at
event_small t S bytes k = bytes _

-- no event is above 255
pub look_above : (t : List ℕ) (S a n j : ℕ) → ((i : ℕ) → get_or t i 0 < 256) → 255 < a
    → None ≡ look (edges_from t S n j) a
look_above t S a n j bytes h = sym (look_none t S a n j (λ k l u e. let b = event_small t S bytes k in omega arith))

-- among bytes that rise: d edges on, the event is greater by d at least
spread : (t : List ℕ) (S first count : ℕ) → RiseFrom t S count first → (d k : ℕ) → first ≤ k → k + d < first + count
    → (edge_record_at t S k).event + d ≤ (edge_record_at t S (k + d)).event
spread t S first count R zero k l u = let e : k + 0 ≡ k = omega arith in rw e (omega arith)
spread t S first count R (suc d) k l u =
    let s = spread t S first count R d k l (omega arith) in
    let b = R (k + d) (k + suc d) (omega arith) (omega arith) u in
    omega arith

-- all of them
pub narrowed_all : (t : List ℕ) (S a first count : ℕ) → Narrowed t S a first count first count
narrowed_all t S a first count =
    record {
      low = omega arith;
      high = omega arith;
      below = λ k l u. absurd (let w : ⊥ = omega arith in w);
      above = λ k l u. absurd (let w : ⊥ = omega arith in w);
    }

pub narrowed_start : (t : List ℕ) (S a first count low high left : ℕ) → RiseFrom t S count first
    → ((i : ℕ) → get_or t i 0 < 256) → a < 256 → low ≡ a + count - 256 → high ≡ min count (a + 1) → left ≡ high - low
    → Narrowed t S a first count (first + low) left
narrowed_start t S a first count low high left R bytes small el eh ef =
    record {
      low = omega arith;
      high = omega arith;
      below = λ k l u.
          let last = first + count - 1 in
          let e : k + (last - k) ≡ last = omega arith in
          let s = rw e at (spread t S first count R (last - k) k l (omega arith)) in
          let b = event_small t S bytes last in
          omega arith;
      above = λ k l u.
          let e : first + (k - first) ≡ k = omega arith in
          let s = rw e at (spread t S first count R (k - first) first (omega arith) (omega arith)) in
          omega arith;
    }

pub narrowed_end : {t : List ℕ} {S a first count j left : ℕ} → Narrowed t S a first count j left → left ≡ 0
    → None ≡ look (edges_from t S count first) a
narrowed_end {t} {S} {a} {first} {count} {j} N z =
    sym
    (look_none t S a count first
    (λ k l u e.
    by_below k j
    (λ h. let b = N.below k l h in omega arith)
    (λ h. let b = N.above k (omega arith) u in omega arith)))

module _ {t : List ℕ} {S a first count j left : ℕ} (N : Narrowed t S a first count j left) (some_left : 0 < left)
    (R : RiseFrom t S count first) (f : ℕ) (e : f ≡ (edge_record_at t S (j + left / 2)).event) where
  abbrev mid : ℕ
  mid = j + left / 2

  abbrev event : ℕ → ℕ
  event k = (edge_record_at t S k).event

  pub narrowed_here : (q : ℕ) → f ≡ a → q ≡ (edge_record_at t S mid).target → Some q ≡ look (edges_from t S count first) a
  narrowed_here q h k =
      let l = N.low in
      let u = N.high in
      ap {B = Option ℕ} Some k
      ∙ sym
      (look_finds t S a count first mid (omega arith) (omega arith) (sym e ∙ h)
      (λ i m v g. let b = R i mid m v (omega arith) in omega arith))

  pub narrowed_up : f < a → Narrowed t S a first count (j + (left / 2 + 1)) (left - (left / 2 + 1))
  narrowed_up h =
      let l = N.low in
      let u = N.high in
      record {
        low = omega arith;
        high = omega arith;
        below = λ k m v.
            by_eq k mid
            (λ g. let b : event k ≡ event mid = ap event g in omega arith)
            (λ g. let b = R k mid m (omega arith) (omega arith) in omega arith);
        above = λ k m v. N.above k (omega arith) v;
      }

  pub narrowed_down : a < f → Narrowed t S a first count j (left / 2)
  narrowed_down h =
      let l = N.low in
      let u = N.high in
      record {
        low = N.low;
        high = omega arith;
        below = N.below;
        above = λ k m v.
            by_eq k mid
            (λ g. let b : event k ≡ event mid = ap event g in omega arith)
            (λ g. let b = R mid k (omega arith) (omega arith) v in omega arith);
      }
