-- The rest of a chain was the whole chain of a text met earlier (document 000, theorem 1): step_proper, rest-chain.
-- `Proper d c`: d is c without one or more of its first members. step_new: an event adds one state, one level up, or
-- nothing, to what it makes of the rest (under). short_text: a chain is that of some text as long as its level.
-- step_away: where no edge leads to state 0, an edge at the head leads to a chain that is not empty. Assumes nothing.
use mathlib.Core.Path.{◌≡◌, refl, sym, ap, ◌∙◌, subst}
use mathlib.Core.Logic.{◌≢◌, ◌⊎◌, inl, inr, ⊎_elim}
use Rattle.std.specs.Prelude.{Option, None, Some}
use mathlib.Core.List.Memᴰ
use mathlib.Core.List.{[], ◌∷◌, reverse, reverse-reverse, Memᴰ}
use Prim.Native.Nat.{ℕ, zero, suc, ◌≤◌, ◌<◌}
use native.Mathlib.Omega.{arith}
use lib.ListN.{length, length-reverse}
use Rattle.meaning.specs.Text.{Text, Delta}
use Rattle.meaning.specs.Chain.{Live, live, Chain, has, put, step, chain, head, level}
use Rattle.meaning.proofs.Cases.{by_bool, by_option}
use Rattle.meaning.proofs.Chain.{has-In, chain_r, chain-reverse}

abbrev pub Proper : Chain → Chain → Type 0
Proper d [] = ⊥
Proper d (x ∷ c) = (d ≡ c) ⊎ Proper d c

-- no edge leads to state 0
abbrev pub Away : Delta → Type 0
Away δ = (q a p : ℕ) → δ q a ≡ Some p → p ≢ 0

module _ (δ : Delta) where
  -- d is empty, or is what the event makes of something that followed in c
  abbrev pub Made : Chain → ℕ → Chain → Type 0
  Made c a d = (d ≡ []) ⊎ ((e : Chain) × Proper e c × (d ≡ step δ e a))

  pub step_proper : (c : Chain) (a : ℕ) (d : Chain) → Proper d (step δ c a) → Made c a d
  step_proper [] a d p =
      by_option (δ 0 a) (λ e. absurd (rw e at p))
      (λ q e.
      by_bool (has q []) (λ g. absurd (rw (e, g) at p))
      (λ g. ⊎_elim (λ f. inl f) (λ f. absurd f) (rw (e, g) at p)))
  step_proper (x ∷ c) a d p = by (λ k. step_proper c a d k) (δ x.state a) p
    where
      up : Made c a d → Made (x ∷ c) a d
      up (inl e) = inl e
      up (inr h) = inr (h.0, inr h.1, h.2)

      by : (Proper d (step δ c a) → Made c a d) → (o : Option ℕ) → Proper d (put o (suc x.reach) (step δ c a))
          → Made (x ∷ c) a d
      by ih None p = up (ih p)
      by ih (Some q) p =
          by_bool (has q (step δ c a)) (λ e. up (ih (rw e at p)))
          (λ e. ⊎_elim (λ f. inr (c, inl refl, f)) (λ f. up (ih f)) (rw e at p))

  pub proper_chain_r : (h : Text) (d : Chain) → Proper d (chain_r δ h)
      → (g : Text) × (length g < length h) × (chain_r δ g ≡ d)
  proper_chain_r [] d p = absurd p
  proper_chain_r (a ∷ h) d p =
      ⊎_elim (λ e. ([], omega arith, sym e))
      (λ s.
      let i = proper_chain_r h s.0 s.1 in
      let l = i.1 in
      (a ∷ i.0, omega arith, ap (λ (c : Chain). step δ c a) i.2 ∙ sym s.2))
      (step_proper (chain_r δ h) a d p)

  -- the history of a chain as a text
  turned : (g : Text) → chain δ (reverse g) ≡ chain_r δ g
  turned g = chain-reverse δ (reverse g) ∙ ap (λ (h : Text). chain_r δ h) (reverse-reverse g)

  pub rest-chain : (t : Text) (x : Live) (c : Chain) → chain δ t ≡ x ∷ c
      → (u : Text) × (length u < length t) × (chain δ u ≡ c)
  rest-chain t x c e =
      let p : Proper c (x ∷ c) = inl refl in
      let i = proper_chain_r (reverse t) c (subst (λ (z : Chain). Proper c z) (sym e ∙ chain-reverse δ t) p) in
      let l : length i.0 < length t = rw length-reverse at i.1 in
      (reverse i.0, rw length-reverse l, turned i.0 ∙ i.2)

  -- what an event makes of the fallback; of the empty chain nothing
  abbrev pub under : Chain → ℕ → Chain
  under [] a = []
  under (x ∷ c) a = step δ c a

  put_new : (o : Option ℕ) (r : ℕ) (d : Chain) → (put o r d ≡ d) ⊎ ((q : ℕ) × (put o r d ≡ live q r ∷ d))
  put_new None r d = inl refl
  put_new (Some q) r d = by_bool (has q d) (λ e. inl (rw e)) (λ e. inr (q, rw e))

  pub step_new : (c : Chain) (a : ℕ)
      → (step δ c a ≡ under c a) ⊎ ((q : ℕ) × (step δ c a ≡ live q (suc (level c)) ∷ under c a))
  step_new [] a = put_new (δ 0 a) 1 []
  step_new (x ∷ c) a = put_new (δ x.state a) (suc x.reach) (step δ c a)

  -- a history as long as the level, with the same chain
  abbrev Short : Text → Type 0
  Short h = (g : Text) × (length g ≡ level (chain_r δ h)) × (chain_r δ g ≡ chain_r δ h)

  short : (n : ℕ) (h : Text) → length h ≤ n → Short h
  short zero [] l = ([], refl, refl)
  short zero (a ∷ h) l = absurd (let w : ⊥ = omega arith in w)
  short (suc n) [] l = ([], refl, refl)
  short (suc n) (a ∷ h) l =
      ⊎_elim (λ e. drop (λ g k. short n g k) (chain_r δ h) refl e) (λ e. new (short n h (omega arith)) (ap level e.1))
      (step_new (chain_r δ h) a)
    where
      new : Short h → level (step δ (chain_r δ h) a) ≡ suc (level (chain_r δ h)) → Short (a ∷ h)
      new i e = let k = i.1 in (a ∷ i.0, omega arith, ap (λ (c : Chain). step δ c a) i.2)

      drop : ((f : Text) → length f ≤ n → Short f) → (c : Chain) → chain_r δ h ≡ c
          → step δ (chain_r δ h) a ≡ under (chain_r δ h) a → Short (a ∷ h)
      drop ih [] e f =
          let z : step δ (chain_r δ h) a ≡ [] = f ∙ ap (λ (c : Chain). under c a) e in
          ([], sym (ap (λ (c : Chain). level c) z), sym z)
      drop ih (x ∷ c) e f =
          let z : step δ (chain_r δ h) a ≡ step δ c a = f ∙ ap (λ (c : Chain). under c a) e in
          let i = proper_chain_r h c (subst (λ (z : Chain). Proper c z) (sym e) (inl refl)) in
          let k = i.1 in
          let j = ih (a ∷ i.0) (omega arith) in
          let y : step δ (chain_r δ i.0) a ≡ step δ (chain_r δ h) a = ap (λ (c : Chain). step δ c a) i.2 ∙ sym z in
          (j.0, j.1 ∙ ap (λ (c : Chain). level c) y, j.2 ∙ y)

  pub short_text : (t : Text) → (u : Text) × (length u ≡ level (chain δ t)) × (chain δ u ≡ chain δ t)
  short_text t =
      let i = short (length (reverse t)) (reverse t) (omega arith) in
      let e = chain-reverse δ t in (
        reverse i.0,
        length-reverse i.0 ∙ i.1 ∙ ap (λ (c : Chain). level c) (sym e),
        turned i.0 ∙ i.2 ∙ sym e,
      )

pub step_away : (δ : Delta) → Away δ → (c : Chain) (a q : ℕ) → δ (head c) a ≡ Some q → step δ c a ≡ [] → ⊥
step_away δ away c a q e z = go c e z
  where
    put_some : (d : Chain) (r : ℕ) → put (Some q) r d ≡ [] → q ≢ 0 → ⊥
    put_some d r z nz =
        by_bool (has q d)
        (λ f.
        let y : d ≡ [] = sym (rw f) ∙ z in
        let i = has-In q d nz f in
        Memᴰ.not-nil (subst (λ (k : Chain). Memᴰ (live q i.0) k) y i.1))
        (λ f.
        let y : live q r ∷ d ≡ [] = sym (rw f) ∙ z in
        let w : suc (length d) ≡ 0 = ap {B = ℕ} length y in
        omega arith)

    go : (c : Chain) → δ (head c) a ≡ Some q → step δ c a ≡ [] → ⊥
    go [] e z = put_some [] 1 (sym (rw e) ∙ z) (away 0 a q e)
    go (x ∷ c) e z = put_some (step δ c a) (suc x.reach) (sym (rw e) ∙ z) (away x.state a q e)
