-- Places as far as a key tells chains apart: the chain itself where reaches count, its states alone where a book has
-- loops. A Rule is what a key must obey. met_by to places_by are the definitions of specs.Places by a key; form 1's,
-- which know no key, are these at the key `whole`. HasBy, DistinctBy, Extends, number_by_mem, unique, fewer: lists of
-- chains by a key. same_chain_iff: the test of equal chains. Assumes nothing.
use mathlib.Core.Path.{◌≡◌, refl, sym, ap, ◌∙◌, subst}
use mathlib.Core.Logic.{◌⊎◌, inl, inr, ⊎_elim, ◌↔◌}
use mathlib.Core.Bool.{Bool, true, false, ◌&&◌, ◌||◌}
use Rattle.std.specs.Prelude.{Option, None, Some}
use mathlib.Core.List.{List, [], ◌∷◌, ◌++◌}
use Prim.Native.Nat.{ℕ, zero, suc, ◌≤◌, ◌<◌}
use native.Mathlib.Omega.{arith}
use lib.ListN.{length, get_or, length-append, get_or-append}
use lib.Dec.{eqb, ltb}
use borrow.Author.Tests.{eqb-true, eq-eqb}
use Rattle.meaning.specs.Choice.{when}
use Rattle.meaning.specs.Text.{Delta}
use Rattle.meaning.specs.Chain.{Live, Chain, has, step, head, rest}
use Rattle.meaning.specs.Places.{same_chain}
use Rattle.meaning.proofs.Cases.{by_bool, true_false, and_true}

abbrev pub Key : Type 0
Key = Chain → Chain

pub record Rule (key : Key) (δ : Delta) : Type 0 where
  pub key_none : (c : Chain) → key c ≡ key [] → c ≡ []
  pub key_head : (c d : Chain) → key c ≡ key d → head c ≡ head d
  pub key_rest : (c d : Chain) → key c ≡ key d → key (rest c) ≡ key (rest d)
  pub key_cons : (x y : Live) (c d : Chain)
      → (key (x ∷ c) ≡ key (y ∷ d)) ↔ ((key (x ∷ []) ≡ key (y ∷ [])) × (key c ≡ key d))
  pub key_step : (c d : Chain) (a : ℕ) → key c ≡ key d → key (step δ c a) ≡ key (step δ d a)

module _ (key : Key) where
  abbrev pub met_by : Chain → List Chain → Bool
  met_by d [] = false
  met_by d (c ∷ L) = same_chain (key c) (key d) || met_by d L

  abbrev pub number_by : List Chain → Chain → ℕ
  number_by [] d = 0
  number_by (c ∷ L) d = when (same_chain (key c) (key d)) 0 (suc (number_by L d))

  -- a chain by its head and the chain that stands for its fallback
  abbrev pub settle : Chain → List Chain → Chain
  settle [] L = []
  settle (x ∷ c) L = x ∷ get_or L (number_by L c) []

  abbrev pub meet_by : Chain → List Chain → List Chain
  meet_by d L = when (met_by d L) L (L ++ (settle d L ∷ []))

  abbrev pub meet_all_by : Delta → Chain → List ℕ → List Chain → List Chain
  meet_all_by δ c [] L = L
  meet_all_by δ c (a ∷ es) L = meet_all_by δ c es (meet_by (step δ c a) L)

  abbrev pub opened_by : Delta → (ℕ → List ℕ) → ℕ → List Chain → List Chain
  opened_by δ out p L = meet_all_by δ (get_or L p []) (out (head (get_or L p []))) L

  abbrev pub grow_by : Delta → (ℕ → List ℕ) → ℕ → Bool → ℕ → List Chain → Option (List Chain)
  grow_by δ out zero false p L = Some L
  grow_by δ out zero true p L = None
  grow_by δ out (suc f) false p L = Some L
  grow_by δ out (suc f) true p L = let M = opened_by δ out p L in grow_by δ out f (ltb (suc p) (length M)) (suc p) M

  -- for each place the first chain met that stands for it
  abbrev pub places_by : Delta → (ℕ → List ℕ) → ℕ → Option (List Chain)
  places_by δ out N = grow_by δ out N true 0 ([] ∷ [])

  -- the chain stands in the list, as far as the key tells
  abbrev pub HasBy : Chain → List Chain → Type 0
  HasBy d [] = ⊥
  HasBy d (c ∷ L) = (key c ≡ key d) ⊎ HasBy d L

  abbrev pub DistinctBy : List Chain → Type 0
  DistinctBy [] = Unit {0}
  DistinctBy (d ∷ L) = (HasBy d L → ⊥) × DistinctBy L

pub same_chain_eq : (c d : Chain) → same_chain c d ≡ true → c ≡ d
same_chain_eq [] [] e = refl
same_chain_eq [] (y ∷ d) e = true_false e refl
same_chain_eq (x ∷ c) [] e = true_false e refl
same_chain_eq (x ∷ c) (y ∷ d) e =
    let p = and_true (eqb x.state y.state && eqb x.reach y.reach) (same_chain c d) e in
    let s = and_true (eqb x.state y.state) (eqb x.reach y.reach) p.0 in
    let f : x.state ≡ y.state = eqb-true x.state y.state s.0 in
    let g : x.reach ≡ y.reach = eqb-true x.reach y.reach s.1 in
    let h : c ≡ d = same_chain_eq c d p.1 in
    λ i. record { state = f i; reach = g i } ∷ h i

pub same_chain_refl : (c : Chain) → same_chain c c ≡ true
same_chain_refl [] = refl
same_chain_refl (x ∷ c) =
    rw (eq-eqb x.state x.state refl, eq-eqb x.reach x.reach refl) (same_chain_refl c)

pub same_chain_iff : (c d : Chain) → (same_chain c d ≡ true) ↔ (c ≡ d)
same_chain_iff c d = (same_chain_eq c d, λ e. subst (λ (z : Chain). same_chain c z ≡ true) e (same_chain_refl c))

-- what stands in a chain does not depend on more than the key
pub rule-has : (key : Key) (δ : Delta) → Rule key δ → (q : ℕ) (c d : Chain) → key c ≡ key d → has q c ≡ has q d
rule-has key δ R q [] [] e = refl
rule-has key δ R q [] (y ∷ d) e = ap (λ (z : Chain). has q z) (sym (R.key_none (y ∷ d) (sym e)))
rule-has key δ R q (x ∷ c) [] e = ap (λ (z : Chain). has q z) (R.key_none (x ∷ c) e)
rule-has key δ R q (x ∷ c) (y ∷ d) e =
    ap (λ (n : ℕ). eqb n q || has q c) (R.key_head (x ∷ c) (y ∷ d) e)
    ∙ ap (λ (b : Bool). eqb y.state q || b) (rule-has key δ R q c d (R.key_rest (x ∷ c) (y ∷ d) e))

module _ (key : Key) where
  pub met_has : (d : Chain) (L : List Chain) → met_by key d L ≡ true → HasBy key d L
  met_has d [] e = true_false e refl
  met_has d (c ∷ L) e =
      by_bool (same_chain (key c) (key d)) (λ f. inl (same_chain_eq (key c) (key d) f))
      (λ f. inr (met_has d L (sym (rw f) ∙ e)))

  pub has-met : (d : Chain) (L : List Chain) → HasBy key d L → met_by key d L ≡ true
  has-met d [] h = absurd h
  has-met d (c ∷ L) (inl e) = let f : same_chain (key c) (key d) ≡ true = rw e (same_chain_refl (key d)) in rw f
  has-met d (c ∷ L) (inr m) = by_bool (same_chain (key c) (key d)) (λ f. rw f) (λ f. rw (f, has-met d L m))

  pub has_cast : (d e : Chain) (L : List Chain) → key d ≡ key e → HasBy key d L → HasBy key e L
  has_cast d e [] f h = h
  has_cast d e (c ∷ L) f (inl g) = inl (g ∙ f)
  has_cast d e (c ∷ L) f (inr h) = inr (has_cast d e L f h)

  has_snoc : (d e : Chain) (L : List Chain) → HasBy key e (L ++ (d ∷ [])) → HasBy key e L ⊎ (key d ≡ key e)
  has_snoc d e [] (inl f) = inr f
  has_snoc d e [] (inr h) = absurd h
  has_snoc d e (c ∷ L) (inl f) = inl (inl f)
  has_snoc d e (c ∷ L) (inr h) = ⊎_elim (λ k. inl (inr k)) (λ k. inr k) (has_snoc d e L h)

  pub distinct_snoc : (L : List Chain) (d : Chain) → DistinctBy key L → (HasBy key d L → ⊥)
      → DistinctBy key (L ++ (d ∷ []))
  distinct_snoc [] d D new = ((λ m. m), tt)
  distinct_snoc (c ∷ L) d D new = (
    (λ m. ⊎_elim (λ k. D.0 k) (λ k. new (inl (sym k))) (has_snoc d c L m)),
    distinct_snoc L d D.1 (λ m. new (inr m)),
  )

  pub get_or-has : (L : List Chain) (i : ℕ) (d : Chain) → i < length L → key (get_or L i []) ≡ key d → HasBy key d L
  get_or-has [] i d l e = absurd (let w : ⊥ = omega arith in w)
  get_or-has (c ∷ L) zero d l e = inl e
  get_or-has (c ∷ L) (suc i) d l e = inr (get_or-has L i d (omega arith) e)

  pub has_get_d : (d : Chain) (L : List Chain) → HasBy key d L → (i : ℕ) × (i < length L) × (key (get_or L i []) ≡ key d)
  has_get_d d [] h = absurd h
  has_get_d d (c ∷ L) (inl e) = (0, omega arith, e)
  has_get_d d (c ∷ L) (inr m) = let i = has_get_d d L m in let l = i.1 in (suc i.0, omega arith, i.2)

  pub number_by_mem : (L : List Chain) (d : Chain) → HasBy key d L
      → (number_by key L d < length L) × (key (get_or L (number_by key L d) []) ≡ key d)
  number_by_mem [] d h = absurd h
  number_by_mem (c ∷ L) d (inl e) =
      let f : same_chain (key c) (key d) ≡ true = rw e (same_chain_refl (key d)) in
      rw f (omega arith, e)
  number_by_mem (c ∷ L) d (inr m) =
      let i = number_by_mem L d m in
      let l = i.0 in
      by_bool (same_chain (key c) (key d)) (λ e. rw e (omega arith, same_chain_eq (key c) (key d) e))
      (λ e. rw e (omega arith, i.1))

  pub number_by_same : (L : List Chain) (c d : Chain) → key c ≡ key d → number_by key L c ≡ number_by key L d
  number_by_same [] c d e = refl
  number_by_same (b ∷ L) c d e =
      ap (λ (k : Chain). when (same_chain (key b) k) 0 (suc (number_by key L c))) e
      ∙ ap (λ (n : ℕ). when (same_chain (key b) (key d)) 0 (suc n)) (number_by_same L c d e)

  -- in a list of distinct chains a chain has one number
  pub unique : (L : List Chain) → DistinctBy key L → (i j : ℕ) → i < length L → j < length L
      → key (get_or L i []) ≡ key (get_or L j []) → i ≡ j
  unique [] D i j l k e = absurd (let w : ⊥ = omega arith in w)
  unique (c ∷ L) D zero zero l k e = refl
  unique (c ∷ L) D zero (suc j) l k e = absurd (D.0 (get_or-has L j c (omega arith) (sym e)))
  unique (c ∷ L) D (suc i) zero l k e = absurd (D.0 (get_or-has L i c (omega arith) e))
  unique (c ∷ L) D (suc i) (suc j) l k e = ap suc (unique L D.1 i j (omega arith) (omega arith) e)

  -- and a list in which each chain has one number has distinct chains
  pub distinct_of_unique : (L : List Chain)
      → ((i j : ℕ) → i < length L → j < length L → key (get_or L i []) ≡ key (get_or L j []) → i ≡ j) → DistinctBy key L
  distinct_of_unique [] u = tt
  distinct_of_unique (c ∷ L) u = (
    (λ h.
        let i = has_get_d c L h in
        let l = i.1 in
        let w : 0 ≡ suc i.0 = u 0 (suc i.0) (omega arith) (omega arith) (sym i.2) in
        omega arith),
    distinct_of_unique L
        (λ i j l k e. let w : suc i ≡ suc j = u (suc i) (suc j) (omega arith) (omega arith) e in omega arith),
  )

  -- d taken out of a list that has it
  without : (d : Chain) (L : List Chain) → HasBy key d L
      → (M : List Chain) × (length L ≡ suc (length M))
      × ((x : Chain) → HasBy key x L → (key x ≡ key d → ⊥) → HasBy key x M)
  without d [] h = absurd h
  without d (c ∷ L) (inl e) = (L, refl, λ x m ne. ⊎_elim (λ f. absurd (ne (sym f ∙ e))) (λ k. k) m)
  without d (c ∷ L) (inr h) =
      let i = without d L h in
      (c ∷ i.0, ap suc i.1, λ x m ne. ⊎_elim (λ f. inl f) (λ k. inr (i.2 x k ne)) m)

  -- a list of distinct chains, all of which another list has, is no longer
  pub fewer : (M L : List Chain) → DistinctBy key M → ((x : Chain) → HasBy key x M → HasBy key x L) → length M ≤ length L
  fewer [] L D s = omega arith
  fewer (d ∷ M) L D s =
      let i = without d L (s d (inl refl)) in
      let l = fewer M i.0 D.1 (λ x m. i.2 x (s x (inr m)) (λ e. D.0 (has_cast x d M e m))) in
      let k = i.1 in
      omega arith

-- M is L with more at its end
pub record Extends (L M : List Chain) : Type 0 where
  pub longer : length L ≤ length M
  pub kept : (i : ℕ) → i < length L → get_or M i [] ≡ get_or L i []

pub extends_refl : (L : List Chain) → Extends L L
extends_refl L = record { longer = omega arith; kept = λ i l. refl }

pub extends_trans : {L M N : List Chain} → Extends L M → Extends M N → Extends L N
extends_trans E F =
    let l = E.longer in
    let k = F.longer in
    record { longer = omega arith; kept = λ i h. F.kept i (omega arith) ∙ E.kept i h }

pub extends_snoc : (L : List Chain) (d : Chain) → Extends L (L ++ (d ∷ []))
extends_snoc L d =
    record {
      longer = omega (arith, length-append L (d ∷ []));
      kept = λ i l. get_or-append L (d ∷ []) [] i l;
    }

pub still : (key : Key) {L M : List Chain} → Extends L M → (d : Chain) → HasBy key d L → HasBy key d M
still key {L} {M} E d h =
    let i = has_get_d key d L h in
    let l = i.1 in
    let k = E.longer in
    get_or-has key M i.0 d (omega arith) (ap key (E.kept i.0 l) ∙ i.2)
