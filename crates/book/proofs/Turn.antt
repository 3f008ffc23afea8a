-- One turn of each search over records, on plain values. Each loop keeps one record: the search from the start is the
-- search from here. A turn finds what the search finds, or keeps the record for the next turn. Assumes nothing.
--   first_fault-step, own_faults-step, first_edge-suc  one step of each definition
--   count_turn                                         the sum of the counts
--   StateLoop, EdgeLoop, OwnLoop                       the loops over states, over one state's edges, and over all states' edges
--   entered_start, entered-put, entered_skip           the array of the states with an edge into them
use mathlib.Core.Path.{◌≡◌, refl, sym, ap, ◌∙◌}
use mathlib.Core.Bool.{Bool, true, false, ◌&&◌, ◌||◌}
use Rattle.std.specs.Prelude.{Option, None, Some}
use mathlib.Core.List.{List}
use Prim.Native.Nat.{ℕ, zero, suc, ◌+◌, ◌*◌, ◌-◌, ◌≤◌, ◌<◌}
use native.Mathlib.Omega.{arith}
use lib.ListN.{length, get_or, set, replicate, length-set, length-replicate, get_or-replicate}
use lib.Seq.{get_or-set_same, get_or-set_other}
use lib.Dec.{eqb, leb, ltb}
use borrow.Author.Tests.{eq-eqb, ne_eqb, lt-ltb}
use Rattle.meaning.specs.Choice.{when}
use Rattle.meaning.specs.Answer.{Answer, accepted, faulty}
use Rattle.book.specs.Form.{most_states, state_place, edge_place, state_record_at, edge_record_at}
use Rattle.book.specs.Model.{first_edge}
use Rattle.book.specs.Rules.{first_fault, or_else, own_faults, not_above, entered}
use Rattle.meaning.specs.declared.Reason.TheVariants.{Order}
use Rattle.book.specs.Reads.{edge_breaks, state_broken, edge_broken, own_broken, own_fault, prior, not_after, EnteredAre}
use Rattle.book.specs.declared.StateRecord.{StateRecord}
use Rattle.book.specs.declared.EdgeRecord.{EdgeRecord}
use Rattle.book.proofs.Cases.{by_eq}

-- ---- steps
pub first_fault_end : (bad : ℕ → Bool) (place : ℕ → ℕ) (n k : ℕ) → n ≡ 0 → first_fault bad place n k ≡ None
unfolding first_fault
first_fault_end bad place n k e = rw e

pub first_fault-step : (bad : ℕ → Bool) (place : ℕ → ℕ) (n k : ℕ) → 0 < n
    → first_fault bad place n k ≡ when (bad k) (Some (place k)) (first_fault bad place (n - 1) (k + 1))
unfolding first_fault
first_fault-step bad place zero k h = absurd (omega arith)
first_fault-step bad place (suc n) k h = let e : suc n - 1 ≡ n = omega arith in rw e

pub own_faults_end : (bad : ℕ → ℕ → Bool) (t : List ℕ) (S n s : ℕ) → n ≡ 0 → own_faults bad t S n s ≡ None
unfolding own_faults
own_faults_end bad t S n s e = rw e

pub own_faults-step : (bad : ℕ → ℕ → Bool) (t : List ℕ) (S n s : ℕ) → 0 < n
    → own_faults bad t S n s
    ≡ or_else (first_fault (bad s) (edge_place S) (state_record_at t s).count (first_edge t s))
    (own_faults bad t S (n - 1) (s + 1))
unfolding own_faults
own_faults-step bad t S zero s h = absurd (omega arith)
own_faults-step bad t S (suc n) s h = let e : suc n - 1 ≡ n = omega arith in rw e

pub first_edge-zero : (t : List ℕ) → first_edge t 0 ≡ 0
unfolding first_edge
first_edge-zero t = refl

pub first_edge-suc : (t : List ℕ) (s : ℕ) → first_edge t (s + 1) ≡ first_edge t s + (state_record_at t s).count
unfolding first_edge
first_edge-suc t s = let e : s + 1 ≡ suc s = omega arith in rw e

-- ---- a search and then another; one that refuses nothing
pub faulty_or : (n : ℕ) (o u : Option ℕ) (x : Answer) → faulty n (or_else o u) x ≡ faulty n o (faulty n u x)
faulty_or n None u x = refl
faulty_or n (Some p) u x = refl

pub faulty_none : (n : ℕ) (o : Option ℕ) → ((x : Answer) → x ≡ faulty n o x) → o ≡ None
faulty_none n None h = refl
faulty_none n (Some p) h = let e = h (accepted 0 0 0 0) in cc

-- the edges of one state more
pub count_turn : (t : List ℕ) (s : ℕ) {sum : ℕ} {x : StateRecord} → sum ≡ first_edge t s → x ≡ state_record_at t s
    → sum + x.count ≡ first_edge t (s + 1)
count_turn t s {sum} {x} h e = rw (first_edge-suc t s, ← e, h)

-- ---- from record k on, before record `end`
module _ (bad : ℕ → Bool) (place : ℕ → ℕ) (end k : ℕ) where
  pub first_fault-turn : k < end → first_fault bad place (end - k) k
      ≡ when (bad k) (Some (place k)) (first_fault bad place (end - (k + 1)) (k + 1))
  first_fault-turn h =
      let e : end - (k + 1) ≡ end - k - 1 = omega arith in
      rw e (first_fault-step bad place (end - k) k (omega arith))

own_faults-turn : (bad : ℕ → ℕ → Bool) (t : List ℕ) (S end s : ℕ) → s < end
    → own_faults bad t S (end - s) s
    ≡ or_else (first_fault (bad s) (edge_place S) (state_record_at t s).count (first_edge t s))
    (own_faults bad t S (end - (s + 1)) (s + 1))
own_faults-turn bad t S end s h =
    let e : end - (s + 1) ≡ end - s - 1 = omega arith in
    rw e (own_faults-step bad t S (end - s) s (omega arith))

-- ---- the states: s is the next one
pub record StateLoop (rule : ℕ → StateRecord → Bool → Bool) (t : List ℕ) (S E s : ℕ) : Type 0 where
  pub same : first_fault (state_broken rule t S E) state_place S 0
      ≡ first_fault (state_broken rule t S E) state_place (S - s) s

pub state_end : {rule : ℕ → StateRecord → Bool → Bool} {t : List ℕ} {S E s : ℕ} → StateLoop rule t S E s → S ≤ s
    → None ≡ first_fault (state_broken rule t S E) state_place S 0
state_end L z = sym (L.same ∙ first_fault_end _ _ _ _ (omega arith))

module _ {rule : ℕ → StateRecord → Bool → Bool} {t : List ℕ} {S E s : ℕ} (L : StateLoop rule t S E s) (h : s < S) (few : S ≤ most_states)
    {r : List Bool} (R : EnteredAre t S E r) {x : StateRecord} (k : x ≡ state_record_at t s)
    {b : Bool} (f : b ≡ rule s x (get_or r s false)) where
  abbrev state_rest : Option ℕ
  state_rest = first_fault (state_broken rule t S E) state_place (S - (s + 1)) (s + 1)

  state_turn : first_fault (state_broken rule t S E) state_place S 0 ≡ when b (Some (state_place s)) state_rest
  state_turn =
      L.same ∙ first_fault-turn (state_broken rule t S E) state_place S s h
      ∙ ap (λ (c : Bool). when c (Some (state_place s)) state_rest) same
    where
      same : state_broken rule t S E s ≡ b
      same = rw (← R.is s (omega arith), ← k) (sym f)

  pub state_found : b ≡ true → Some (state_place s) ≡ first_fault (state_broken rule t S E) state_place S 0
  state_found e = sym (state_turn ∙ rw e)

  pub state-next : b ≡ false → StateLoop rule t S E (s + 1)
  state-next e = record { same = state_turn ∙ rw e }

-- ---- one state's edges: j is the next one, after an edge with the event `before`
pub record EdgeLoop (rule : ℕ → EdgeRecord → Option ℕ → Bool) (t : List ℕ) (S s first count j : ℕ) (before : Option ℕ) : Type 0 where
  pub before_is : before ≡ prior t S first j
  pub same : first_fault (edge_broken rule t S first s) (edge_place S) count first
      ≡ first_fault (edge_broken rule t S first s) (edge_place S) (first + count - j) j

pub edge_end_lem : {rule : ℕ → EdgeRecord → Option ℕ → Bool} {t : List ℕ} {S s first count j : ℕ} {before : Option ℕ}
    → EdgeLoop rule t S s first count j before → first + count ≤ j
    → None ≡ first_fault (edge_broken rule t S first s) (edge_place S) count first
edge_end_lem L z = sym (L.same ∙ first_fault_end _ _ _ _ (omega arith))

module _ {rule : ℕ → EdgeRecord → Option ℕ → Bool} {t : List ℕ} {S s first count j : ℕ} {before : Option ℕ}
    (L : EdgeLoop rule t S s first count j before) (h : j < first + count)
    {e : EdgeRecord} (k : e ≡ edge_record_at t S j) {b : Bool} (f : b ≡ rule s e before) where
  abbrev edge_rest : Option ℕ
  edge_rest = first_fault (edge_broken rule t S first s) (edge_place S) (first + count - (j + 1)) (j + 1)

  edge_turn : first_fault (edge_broken rule t S first s) (edge_place S) count first ≡ when b (Some (edge_place S j)) edge_rest
  edge_turn =
      L.same ∙ first_fault-turn (edge_broken rule t S first s) (edge_place S) (first + count) j h
      ∙ ap (λ (c : Bool). when c (Some (edge_place S j)) edge_rest) same
    where
      same : edge_broken rule t S first s j ≡ b
      same = rw (← L.before_is, ← k) (sym f)

  pub edge_found : b ≡ true → Some (edge_place S j) ≡ first_fault (edge_broken rule t S first s) (edge_place S) count first
  edge_found p = sym (edge_turn ∙ rw p)

  pub edge-next : first ≤ j → b ≡ false → EdgeLoop rule t S s first count (j + 1) (Some e.event)
  edge-next l p =
      let d : j + 1 - 1 ≡ j = omega arith in
      record { before_is = rw (lt-ltb first (j + 1) (omega arith), d, ← k); same = edge_turn ∙ rw p }

-- the rule of 9, as the table of refusals has it
pub order_is : (t : List ℕ) (S : ℕ)
    → ◌≡◌ {A = ℕ → ℕ → Bool} (λ s j. not_above (first_edge t s) j (edge_record_at t S j) (edge_record_at t S (j - 1)).event)
    (own_broken (edge_breaks Order S) t S)
order_is t S =
    λ i s j. after (ltb (first_edge t s) j) (edge_record_at t S j) (edge_record_at t S (j - 1)).event i
  where
    after : (c : Bool) (e : EdgeRecord) (event : ℕ) → c && leb e.event event ≡ not_after e (when c (Some event) None)
    after true e event = refl
    after false e event = refl

-- ---- all states' edges: s is the next state, whose edges start at edge `first`
pub record OwnLoop (rule : ℕ → EdgeRecord → Option ℕ → Bool) (t : List ℕ) (S s first : ℕ) : Type 0 where
  pub most : first ≤ 65536 * s
  pub first_is : first ≡ first_edge t s
  pub same : own_faults (own_broken rule t S) t S S 0 ≡ own_faults (own_broken rule t S) t S (S - s) s

pub own_start : (rule : ℕ → EdgeRecord → Option ℕ → Bool) (t : List ℕ) (S : ℕ) → OwnLoop rule t S 0 0
own_start rule t S =
    let e : S - 0 ≡ S = omega arith in
    record { most = omega arith; first_is = sym (first_edge-zero t); same = rw e }

pub own_end : {rule : ℕ → EdgeRecord → Option ℕ → Bool} {t : List ℕ} {S s first : ℕ} → OwnLoop rule t S s first → S ≤ s
    → None ≡ own_faults (own_broken rule t S) t S S 0
own_end L z = sym (L.same ∙ own_faults_end _ _ _ _ _ (omega arith))

module _ {rule : ℕ → EdgeRecord → Option ℕ → Bool} {t : List ℕ} {S s first : ℕ} (L : OwnLoop rule t S s first) (h : s < S)
    {x : StateRecord} (k : x ≡ state_record_at t s) where
  abbrev own_rest : Option ℕ
  own_rest = own_faults (own_broken rule t S) t S (S - (s + 1)) (s + 1)

  own_turn : own_faults (own_broken rule t S) t S S 0 ≡ or_else (own_fault rule t S s first x.count) own_rest
  own_turn =
      L.same ∙ own_faults-turn (own_broken rule t S) t S S s h ∙ ap (λ (o : Option ℕ). or_else o own_rest) (sym same)
    where
      same : own_fault rule t S s first x.count
          ≡ first_fault (own_broken rule t S s) (edge_place S) (state_record_at t s).count (first_edge t s)
      same = let z = L.first_is in rw (← z, ← k)

  pub own_found : {y : Answer} (n : ℕ) → ((z : Answer) → y ≡ faulty n (own_fault rule t S s first x.count) z)
      → (z : Answer) → y ≡ faulty n (own_faults (own_broken rule t S) t S S 0) z
  own_found n g z = rw (own_turn, faulty_or n (own_fault rule t S s first x.count)) (g (faulty n own_rest z))

  pub own-next : x.count < 65536 → own_fault rule t S s first x.count ≡ None → OwnLoop rule t S (s + 1) (first + x.count)
  own-next small e =
      let m = L.most in
      record { most = omega arith; first_is = count_turn t s L.first_is k; same = own_turn ∙ rw e }

-- ---- the array of the states with an edge into them
module _ (t : List ℕ) (S : ℕ) where
  pub entered_start : EnteredAre t S 0 (replicate 512 false)
  unfolding entered
  entered_start = record { size = length-replicate {A = Bool} 512 false; is = λ s l. get_or-replicate {A = Bool} 512 s false false l }

  entered-suc : (j s : ℕ) → entered t S (j + 1) s ≡ eqb (edge_record_at t S j).target s || entered t S j s
  unfolding entered
  entered-suc j s = let e : j + 1 ≡ suc j = omega arith in rw e

module _ {t : List ℕ} {S j : ℕ} {r : List Bool} (R : EnteredAre t S j r) {target : ℕ} (k : target ≡ (edge_record_at t S j).target) where
  other : (s : ℕ) → (target ≡ s → ⊥) → entered t S (j + 1) s ≡ entered t S j s
  other s n = rw (entered-suc t S j s, ← k, ne_eqb target s n)

  pub entered-put : EnteredAre t S (j + 1) (set r target true)
  entered-put =
      record {
        size = length-set r target true ∙ R.size;
        is = λ s l.
            let z = R.size in
            by_eq target s
            (λ q.
            let m : target < length r = omega arith in
            rw (entered-suc t S j s, ← k, eq-eqb target s q, ← q) (get_or-set_same r target true false m))
            (λ n. rw (other s n) (get_or-set_other r target s true false (λ q. n (sym q)) ∙ R.is s l));
      }

  pub entered_skip : 512 ≤ target → EnteredAre t S (j + 1) r
  entered_skip h = record { size = R.size; is = λ s l. rw (other s (λ q. omega arith)) (R.is s l) }
