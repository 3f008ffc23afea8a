-- What the searches leave, on plain values: a search that finds nothing went past every record; an edge belongs to a
-- state; rising events; what a look among edges finds. Assumes nothing.
use mathlib.Core.Path.{◌≡◌, refl, sym, ap, ◌∙◌, subst}
use mathlib.Core.Bool.{Bool, true, false}
use Rattle.std.specs.Prelude.{Option, None, Some}
use mathlib.Core.List.{List}
use Prim.Native.Nat.{ℕ, zero, suc, ◌+◌, ◌-◌, ◌≤◌, ◌<◌}
use native.Mathlib.Omega.{arith}
use lib.Dec.{eqb}
use borrow.Author.Tests.{eqb-true, eq-eqb, ne_eqb}
use Rattle.meaning.specs.Choice.{when}
use Rattle.meaning.specs.Book.{look}
use Rattle.book.specs.Form.{edge_place, state_record_at, edge_record_at}
use Rattle.book.specs.Model.{list_from, first_edge, edges_from}
use Rattle.book.specs.Rules.{first_fault, or_else, own_faults, entered}
use Rattle.book.proofs.Cases.{by_bool, by_eq, by_below, none_some, true_false}

-- ---- nothing found
passed : (b : Bool) (p : ℕ) (o : Option ℕ) → when b (Some p) o ≡ None → (b ≡ false) × (o ≡ None)
passed true p o e = none_some e refl
passed false p o e = (refl, e)

both_none : (o u : Option ℕ) → or_else o u ≡ None → (o ≡ None) × (u ≡ None)
both_none None u e = (refl, e)
both_none (Some p) u e = none_some e refl

pub first_fault_none : (bad : ℕ → Bool) (place : ℕ → ℕ) (n k : ℕ) → first_fault bad place n k ≡ None
    → (i : ℕ) → k ≤ i → i < k + n → bad i ≡ false
unfolding first_fault
first_fault_none bad place zero k e i l h = absurd (let w : ⊥ = omega arith in w)
first_fault_none bad place (suc n) k e i l h =
    let s = passed (bad k) (place k) _ e in
    by_eq k i (λ q. rw q at s.0) (λ q. first_fault_none bad place n (k + 1) s.1 i (omega arith) (omega arith))

pub first_fault-fine : (bad : ℕ → Bool) (place : ℕ → ℕ) (n k : ℕ) → ((i : ℕ) → k ≤ i → i < k + n → bad i ≡ false)
    → first_fault bad place n k ≡ None
unfolding first_fault
first_fault-fine bad place zero k h = refl
first_fault-fine bad place (suc n) k h =
    rw (h k (omega arith) (omega arith))
    (first_fault-fine bad place n (k + 1) (λ i l u. h i (omega arith) (omega arith)))

pub own_faults_none : (bad : ℕ → ℕ → Bool) (t : List ℕ) (S n s : ℕ) → own_faults bad t S n s ≡ None
    → (r : ℕ) → s ≤ r → r < s + n → (j : ℕ) → first_edge t r ≤ j → j < first_edge t r + (state_record_at t r).count
    → bad r j ≡ false
unfolding own_faults
own_faults_none bad t S zero s e r l h j a b = absurd (let w : ⊥ = omega arith in w)
own_faults_none bad t S (suc n) s e r l h j a b =
    let o = both_none _ _ e in
    by_eq s r
    (λ q.
    first_fault_none (bad r) (edge_place S) (state_record_at t r).count (first_edge t r)
    (subst (λ (k : ℕ). first_fault (bad k) (edge_place S) (state_record_at t k).count (first_edge t k) ≡ None) q o.0) j a b)
    (λ q. own_faults_none bad t S n (s + 1) o.1 r (omega arith) (omega arith) j a b)

-- ---- an edge into a state; the state that an edge belongs to
pub entered-edge : (t : List ℕ) (S n s : ℕ) → entered t S n s ≡ true
    → (j : ℕ) × (j < n) × ((edge_record_at t S j).target ≡ s)
unfolding entered
entered-edge t S zero s e = true_false e refl
entered-edge t S (suc n) s e =
    by_bool (eqb (edge_record_at t S n).target s)
    (λ b. (n, omega arith, eqb-true _ s b))
    (λ b. let w = entered-edge t S n s (rw b at e) in (w.0, let l = w.1 in omega arith, w.2))

pub owner : (t : List ℕ) (n j : ℕ) → j < first_edge t n
    → (s : ℕ) × (s < n) × (first_edge t s ≤ j) × (j < first_edge t s + (state_record_at t s).count)
unfolding first_edge
owner t zero j l = absurd (let w : ⊥ = omega arith in w)
owner t (suc n) j l =
    by_below j (first_edge t n)
    (λ h. let w = owner t n j h in (w.0, let m = w.1 in omega arith, w.2, w.3))
    (λ h. (n, omega arith, h, l))

-- ---- rising numbers: each above the one before it, so above all before it
pub rise_all : (f : ℕ → ℕ) (a b : ℕ) → ((j : ℕ) → a < j → j < b → f (j - 1) < f j)
    → (n i : ℕ) → a ≤ i → i + suc n < b → f i < f (i + suc n)
rise_all f a b h zero i l u =
    let s = h (i + 1) (omega arith) (omega arith) in
    let e : i + 1 - 1 ≡ i = omega arith in
    subst (λ (k : ℕ). f k < f (i + 1)) e s
rise_all f a b h (suc n) i l u =
    let p = rise_all f a b h n i l (omega arith) in
    let s = h (i + suc (suc n)) (omega arith) u in
    let e : i + suc (suc n) - 1 ≡ i + suc n = omega arith in
    let q : f (i + suc n) < f (i + suc (suc n)) = subst (λ (k : ℕ). f k < f (i + suc (suc n))) e s in
    omega arith

-- ---- what a look among edges finds
module _ (t : List ℕ) (S a : ℕ) where
  pub look_some : (n j p : ℕ) → look (edges_from t S n j) a ≡ Some p
      → (i : ℕ) × (j ≤ i) × (i < j + n) × ((edge_record_at t S i).event ≡ a) × ((edge_record_at t S i).target ≡ p)
  unfolding list_from
  look_some zero j p e = none_some refl e
  look_some (suc n) j p e =
      by_bool (eqb (edge_record_at t S j).event a)
      (λ b.
      let f : ◌≡◌ {A = Option ℕ} (Some (edge_record_at t S j).target) (Some p) = sym (rw b) ∙ e in
      (j, omega arith, omega arith, eqb-true _ a b, cc))
      (λ b.
      let w = look_some n (j + 1) p (sym (rw b) ∙ e) in
      let l = w.1 in
      let u = w.2 in
      (w.0, omega arith, omega arith, w.3, w.4))

  pub look_finds : (n j i : ℕ) → j ≤ i → i < j + n → (edge_record_at t S i).event ≡ a
      → ((k : ℕ) → j ≤ k → k < i → (edge_record_at t S k).event ≡ a → ⊥)
      → look (edges_from t S n j) a ≡ Some (edge_record_at t S i).target
  unfolding list_from
  look_finds zero j i l u e h = absurd (let w : ⊥ = omega arith in w)
  look_finds (suc n) j i l u e h =
      by_eq j i
      (λ q.
      let b : eqb (edge_record_at t S j).event a ≡ true = eq-eqb _ a (rw q e) in
      rw b (ap (λ (k : ℕ). Some (edge_record_at t S k).target) q))
      (λ q. let b : eqb (edge_record_at t S j).event a ≡ false = ne_eqb _ a (h j (omega arith) (omega arith)) in
      rw b (look_finds n (j + 1) i (omega arith) (omega arith) e (λ k m v. h k (omega arith) v)))
