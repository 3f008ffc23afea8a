-- A table that breaks no rule, on plain values: where every test of a turn is passed, the searches for every rule go on
-- from the next record, so that in the end none of them has found anything. Assumes nothing.
--   states_next                 the states
--   RightLoop                   one state's edges, noted in the array of the states with an edge into them
--   SoundLoop                   all states' edges
--   sound_passed                so every rule is passed
use mathlib.Core.Path.{◌≡◌, refl, sym, ap, ◌∙◌}
use mathlib.Core.Bool.{Bool, true, false, not}
use Rattle.std.specs.Prelude.{Option, None, Some}
use mathlib.Core.List.{List}
use Prim.Native.Nat.{ℕ, ◌+◌, ◌-◌, ◌≤◌, ◌<◌}
use native.Mathlib.Omega.{arith}
use lib.ListN.{get_or, set, replicate}
use lib.Dec.{leb}
use borrow.Author.Tests.{eq-eqb, leb-false}
use Rattle.meaning.specs.Answer.{Answer, judged}
use Rattle.meaning.specs.declared.Reason.{Reason}
use Rattle.meaning.specs.declared.Reason.TheVariants.{Spare, Order, Target, Entry, Exit}
use Rattle.book.specs.Form.{most_states, edge_place, state_record_at, edge_record_at}
use Rattle.book.specs.Model.{first_edge}
use Rattle.book.specs.Rules.{first_fault, own_faults, spare_right, not_above, astray, table_rules}
use Rattle.book.specs.Reads.{state_breaks, edge_breaks, own_broken, EnteredAre, StatesRight, OwnRight}
use Rattle.book.specs.declared.StateRecord.{StateRecord}
use Rattle.book.specs.declared.EdgeRecord.{EdgeRecord}
use Rattle.book.proofs.Cases.{or_false}
use Rattle.book.proofs.Searches.{first_fault-fine, own_faults_none, owner}
use Rattle.book.proofs.Judged.{Passed, passed-judged}
use Rattle.book.proofs.Turn.{StateLoop, state-next, state_end, EdgeLoop, edge-next, edge_end_lem}
use Rattle.book.proofs.Turn.{OwnLoop, own_start, own-next, own_end, order_is, entered_start, entered-put}

pub target_inside : (S s : ℕ) (e : EdgeRecord) → astray S s e ≡ false → e.target < S
target_inside S s e h = leb-false _ _ (or_false (leb e.target s) _ h).1

-- ---- the states: s is the next one
abbrev pub StatesLoop : List ℕ → ℕ → ℕ → ℕ → Type 0
StatesLoop t S E s = (reason : Reason) → StateLoop (state_breaks reason) t S E s

pub states_next : {t : List ℕ} {S E s : ℕ} → StatesLoop t S E s → s < S → S ≤ most_states
    → {r : List Bool} → EnteredAre t S E r → {x : StateRecord} → x ≡ state_record_at t s
    → ((reason : Reason) → state_breaks reason s x (get_or r s false) ≡ false) → StatesLoop t S E (s + 1)
states_next L h few R k f reason = state-next (L reason) h few R k {b = false} (sym (f reason)) refl

pub states_end : {t : List ℕ} {S E s : ℕ} → StatesLoop t S E s → S ≤ s → StatesRight t S E
states_end L z reason = sym (state_end (L reason) z)

-- ---- one state's edges: j is the next one, after an edge with the event `before`
pub record RightLoop (t : List ℕ) (S s first count j : ℕ) (before : Option ℕ) (r : List Bool) : Type 0 where
  pub passed : (reason : Reason) → EdgeLoop (edge_breaks reason S) t S s first count j before
  pub entered : EnteredAre t S j r

pub right_next : {t : List ℕ} {S s first count j : ℕ} {before : Option ℕ} {r : List Bool}
    → RightLoop t S s first count j before r → j < first + count → first ≤ j → {e : EdgeRecord} → e ≡ edge_record_at t S j
    → ((reason : Reason) → edge_breaks reason S s e before ≡ false)
    → RightLoop t S s first count (j + 1) (Some e.event) (set r e.target true)
right_next L h l k f =
    record {
      passed = λ reason. edge-next (L.passed reason) h k {b = false} (sym (f reason)) l refl;
      entered = entered-put L.entered (ap (λ (x : EdgeRecord). x.target) k);
    }

pub right_end : {t : List ℕ} {S s first count j : ℕ} {before : Option ℕ} {r : List Bool}
    → RightLoop t S s first count j before r → j ≡ first + count → OwnRight t S s first count r
right_end {t} {S} {r = r} L e =
    record { none_at = λ reason. sym (edge_end_lem (L.passed reason) (omega arith)); entered = rw e at L.entered }

-- ---- all states' edges: s is the next state, whose edges start at edge `first`
pub record SoundLoop (t : List ℕ) (S E s first : ℕ) (r : List Bool) : Type 0 where
  pub fits : first ≤ E
  pub passed : (reason : Reason) → OwnLoop (edge_breaks reason S) t S s first
  pub entered : EnteredAre t S first r

pub sound_start : (t : List ℕ) (S E : ℕ) → SoundLoop t S E 0 0 (replicate 512 false)
sound_start t S E =
    record { fits = omega arith; passed = λ reason. own_start (edge_breaks reason S) t S; entered = entered_start t S }

pub sound_next : {t : List ℕ} {S E s first : ℕ} {r r' : List Bool} → SoundLoop t S E s first r → s < S
    → {x : StateRecord} → x ≡ state_record_at t s → x.count < 65536 → x.count ≤ E - first
    → OwnRight t S s first x.count r' → SoundLoop t S E (s + 1) (first + x.count) r'
sound_next L h k small few R =
    let u = L.fits in
    record {
      fits = omega arith;
      passed = λ reason. own-next (L.passed reason) h k small (R.none_at reason);
      entered = R.entered;
    }

-- ---- every rule is passed
module _ {t : List ℕ} {S E s first : ℕ} {r : List Bool} (L : SoundLoop t S E s first r) (z : s ≡ S)
    (e : first ≡ E) where
  owns : (reason : Reason) → own_faults (own_broken (edge_breaks reason S) t S) t S S 0 ≡ None
  owns reason = sym (own_end (L.passed reason) (omega arith))

  sum : first_edge t S ≡ E
  sum =
      let f = (L.passed Spare).first_is in
      rw z at (sym f) ∙ e

  -- each edge is one of a state's
  spares : first_fault (λ j. not (spare_right (edge_record_at t S j).spare)) (edge_place S) E 0 ≡ None
  spares =
      first_fault-fine _ _ E 0
      (λ j l u.
      let q = sum in
      let o = owner t S j (omega arith) in
      let m = o.1 in
      own_faults_none (own_broken (edge_breaks Spare S) t S) t S S 0 (owns Spare) o.0 (omega arith) (omega arith) j o.2 o.3)

  rises : own_faults (λ s j. not_above (first_edge t s) j (edge_record_at t S j) (edge_record_at t S (j - 1)).event) t S S 0 ≡ None
  rises = rw (order_is t S) (owns Order)

  sound_passed : (state_record_at t 0).mark ≡ 0 → StatesRight t S E → Passed (table_rules t S E)
  sound_passed m R =
      (rw (R Spare, spares), (rw (eq-eqb _ _ sum), (rises, (owns Target, (rw (eq-eqb _ _ m), (R Entry, (R Exit, tt)))))))

  pub sound_judged : {x : StateRecord} → x ≡ state_record_at t 0 → x.mark ≡ 0 → StatesRight t S E → (y : Answer)
      → judged (table_rules t S E) y ≡ y
  sound_judged k m R y =
      passed-judged (table_rules t S E) y (sound_passed (ap (λ (x : StateRecord). x.mark) (sym k) ∙ m) R)
