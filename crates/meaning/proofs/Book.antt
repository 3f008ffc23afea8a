-- A book's transition and the events of its edges agree: Names, every event with an edge is among those that out names,
-- and Only, out names no other (delta_names, delta_only, delta-mem, delta_outside). What rising edges say of words:
-- Rising, Under n, rising_away, read_length, read_under. Assumes nothing.
use mathlib.Core.Path.{◌≡◌, refl, sym, ap, ◌∙◌}
use mathlib.Core.Logic.{◌≢◌, ⊎_elim}
use Rattle.std.specs.Prelude.{Option, None, Some}
use mathlib.Core.List.{List, [], ◌∷◌, map}
use mathlib.Core.List.Memᴰ
use mathlib.Core.List.{Memᴰ}
use Prim.Native.Nat.{ℕ, zero, suc, ◌+◌, ◌≤◌, ◌<◌}
use native.Mathlib.Omega.{arith}
use lib.ListN.{length}
use lib.Dec.{eqb}
use borrow.Author.Tests.{eqb-true, eq-eqb}
use Rattle.meaning.specs.Text.{Text, Delta, read}
use Rattle.meaning.specs.Book.{Edge, edge, State, state, Book, state_at, look, delta, outs}
use Rattle.meaning.proofs.Cases.{by_bool, by_option, none_some}

abbrev pub Names : Delta → (ℕ → List ℕ) → Type 0
Names δ out = (q a p : ℕ) → δ q a ≡ Some p → Memᴰ a (out q)

abbrev pub Only : Delta → (ℕ → List ℕ) → Type 0
Only δ out = (q a : ℕ) → Memᴰ a (out q) → (p : ℕ) × (δ q a ≡ Some p)

abbrev pub Rising : Delta → Type 0
Rising δ = (q a p : ℕ) → δ q a ≡ Some p → q < p

abbrev pub Under : ℕ → Delta → Type 0
Under n δ = (q a p : ℕ) → δ q a ≡ Some p → p < n

pub rising_away : (δ : Delta) → Rising δ → (q a p : ℕ) → δ q a ≡ Some p → p ≢ 0
rising_away δ up q a p e z = let l = up q a p e in omega arith

-- the edge found is one of the list's
pub look-mem : (es : List Edge) (a p : ℕ) → look es a ≡ Some p → Memᴰ (edge a p) es
look-mem [] a p f = none_some refl f
look-mem (e ∷ es) a p f =
    by_bool (eqb e.event a)
    (λ g.
    let h : ◌≡◌ {A = Option ℕ} (Some e.target) (Some p) = sym (rw g) ∙ f in
    let z : p ≡ e.target = cc in
    let y : a ≡ e.event = sym (eqb-true e.event a g) in
    Memᴰ.head (λ i. record { event = y i; target = z i }))
    (λ g. Memᴰ.tail (look-mem es a p (sym (rw g) ∙ f)))

event_mem : (e : Edge) (es : List Edge) → Memᴰ e es → Memᴰ e.event (map (λ (e : Edge). e.event) es)
event_mem e es (Memᴰ.head f) = Memᴰ.head (ap (λ (e : Edge). e.event) f)
event_mem e es (Memᴰ.tail {xs = ds} m) = Memᴰ.tail (event_mem e ds m)

look_only : (es : List Edge) (a : ℕ) → Memᴰ a (map (λ (e : Edge). e.event) es) → (p : ℕ) × (look es a ≡ Some p)
look_only [] a m = absurd (Memᴰ.not-nil m)
look_only (e ∷ es) a m =
    by_bool (eqb e.event a) (λ g. (e.target, rw g))
    (λ g.
    ⊎_elim (λ f. (e.target, rw (eq-eqb e.event a (sym f)))) (λ k. let i = look_only es a k in (i.0, rw g i.1))
    (Memᴰ.cases_cons m))

pub delta-mem : (B : Book) (q a p : ℕ) → delta B q a ≡ Some p → Memᴰ (edge a p) (state_at B q).edges
delta-mem B q a p e = look-mem (state_at B q).edges a p e

pub delta_names : (B : Book) → Names (delta B) (outs B)
delta_names B q a p e = event_mem (edge a p) (state_at B q).edges (delta-mem B q a p e)

pub delta_only : (B : Book) → Only (delta B) (outs B)
delta_only B q a m = look_only (state_at B q).edges a m

-- a state that the book does not have has no edge
pub state_outside : (B : Book) (q : ℕ) → length B ≤ q → state_at B q ≡ state 0 []
state_outside [] q l = refl
state_outside (x ∷ B) zero l = absurd (let w : ⊥ = omega arith in w)
state_outside (x ∷ B) (suc q) l = state_outside B q (omega arith)

pub delta_outside : (B : Book) (q a : ℕ) → length B ≤ q → delta B q a ≡ None
delta_outside B q a l = ap (λ (s : State). look s.edges a) (state_outside B q l)

-- a word that leads from q to p has at most p - q events
pub read_length : (δ : Delta) → Rising δ → (w : Text) (q p : ℕ) → read δ q w ≡ Some p → q + length w ≤ p
read_length δ up [] q p e = let f : q ≡ p = cc in omega arith
read_length δ up (a ∷ w) q p e =
    by_option (δ q a) (λ f. none_some refl (sym (rw f) ∙ e))
    (λ r f. let l = up q a r f in let i = read_length δ up w r p (sym (rw f) ∙ e) in omega arith)

-- from a state below n it leads below n
pub read_under : (δ : Delta) (n : ℕ) → Under n δ → (w : Text) (q p : ℕ) → q < n → read δ q w ≡ Some p → p < n
read_under δ n un [] q p l e = let f : q ≡ p = cc in omega arith
read_under δ n un (a ∷ w) q p l e =
    by_option (δ q a) (λ f. none_some refl (sym (rw f) ∙ e))
    (λ r f. read_under δ n un w r p (un q a r f) (sym (rw f) ∙ e))
