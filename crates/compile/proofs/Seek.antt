-- The search for the place of a chain, over any key that tells chains apart. `head_of`, `level_of`, `step_of`: what
-- the rows say of a place's chain. `seek_start` .. `seek_end`: the places of a head, newest first, are passed until
-- one has the chain. `settle_in`, `settle_new`: the place of a chain with one more state put in front. Assumes nothing.
use mathlib.Core.Path.{◌≡◌, refl, sym, ap, ◌∙◌, subst}
use mathlib.Core.Logic.{◌≢◌}
use mathlib.Core.Bool.{Bool, true, false}
use Rattle.std.specs.Prelude.{Option, None, Some, unwrap_or}
use mathlib.Core.List.{List, [], ◌∷◌}
use Prim.Native.Nat.{ℕ, suc, ◌+◌, ◌<◌}
use native.Mathlib.Omega.{arith}
use lib.ListN.{length, get_or, set, length-set, replicate, get_or-replicate}
use lib.Seq.{get_or-set_same, get_or-set_other}
use borrow.Author.Tests.{eq-eqb, ne_eqb}
use Rattle.meaning.specs.Text.{Delta}
use Rattle.meaning.specs.Chain.{Live, live, Chain, has, put, step, head, level, rest}
use Rattle.meaning.specs.Places.{same_chain}
use Rattle.meaning.proofs.Cases.{by_bool, by_eq, by_order, true_false}
use Rattle.meaning.proofs.Keys.{Rule, same_chain_iff}
use Rattle.meaning.proofs.Rules.{whole-rule}
use Rattle.compile.specs.Work.{Rows, Down, chain_of, Latest, Held, Fit}
use Rattle.compile.specs.Explore.{Key, whole, rest_after, Seen, IsSeen, Settled, FoundAt, NotFound, Finds}
use Rattle.compile.proofs.Rows.{chain-zero, chain_cons}
use Rattle.compile.proofs.Same.{asked}

cons_nil : {A : Type 0} {x : Live} {c : Chain} → x ∷ c ≡ [] → A
cons_nil {x = x} {c = c} e = let z : ◌≡◌ {A = ℕ} 0 1 = cc in absurd (let w : ⊥ = omega arith in w)

pub step-put : (δ : Delta) (c : Chain) (a : ℕ) → step δ c a ≡ put (δ (head c) a) (suc (level c)) (rest_after δ c a)
step-put δ [] a = refl
step-put δ (x ∷ c) a = refl

-- of the place 0 there is no rest, and its head is the start; of any other the rest is the chain of its fallback
pub rest_start : (w : Rows) (δ : Delta) (a p : ℕ) → p ≡ 0 → rest_after δ (chain_of w p) a ≡ []
rest_start w δ a p e = rw (e, chain-zero w)

module _ (w : Rows) (d : Down w.fallbacks) where
  pub rest-next : (δ : Delta) (a p f : ℕ) → p ≢ 0 → f ≡ get_or w.fallbacks p 0
      → rest_after δ (chain_of w p) a ≡ step δ (chain_of w f) a
  rest-next δ a p f l e = rw (e, chain_cons w d p (omega arith))

  pub head_at : get_or w.heads 0 0 ≡ 0 → (p : ℕ) → head (chain_of w p) ≡ get_or w.heads p 0
  head_at s p = by_eq p 0 (λ e. rw (e, chain-zero w) (sym s)) (λ e. rw (chain_cons w d p (omega arith)))

  level_at : get_or w.levels 0 0 ≡ 0 → (p : ℕ) → level (chain_of w p) ≡ get_or w.levels p 0
  level_at s p = by_eq p 0 (λ e. rw (e, chain-zero w) (sym s)) (λ e. rw (chain_cons w d p (omega arith)))

  -- the head's own target, put on what the event makes of the rest
  pub step_at : get_or w.heads 0 0 ≡ 0 → get_or w.levels 0 0 ≡ 0 → (δ : Delta) (a p : ℕ)
      → step δ (chain_of w p) a ≡ put (δ (get_or w.heads p 0) a) (suc (get_or w.levels p 0)) (rest_after δ (chain_of w p) a)
  step_at s z δ a p = rw (← head_at s p, ← level_at z p) (step-put δ (chain_of w p) a)

module _ (w : Rows) (n : ℕ) (H : Held w n) where
  pub head_of : (p : ℕ) → head (chain_of w p) ≡ get_or w.heads p 0
  head_of = head_at w H.fallbacks_down H.head-zero

  pub level_of : (p : ℕ) → level (chain_of w p) ≡ get_or w.levels p 0
  level_of = level_at w H.fallbacks_down H.level-zero

  pub step_of : (δ : Delta) (a p : ℕ)
      → step δ (chain_of w p) a ≡ put (δ (get_or w.heads p 0) a) (suc (get_or w.levels p 0)) (rest_after δ (chain_of w p) a)
  step_of = step_at w H.fallbacks_down H.head-zero H.level-zero

  pub step_some : (δ : Delta) (a p q : ℕ) → δ (get_or w.heads p 0) a ≡ Some q
      → step δ (chain_of w p) a ≡ put (Some q) (get_or w.levels p 0 + 1) (rest_after δ (chain_of w p) a)
  step_some δ a p q e =
      let g : suc (get_or w.levels p 0) ≡ get_or w.levels p 0 + 1 = omega arith in
      step_of δ a p ∙ rw (e, g)

-- the states of a chain that were seen: at first the start alone, which stands at the end of every chain
nothing : List Bool
nothing = replicate 512 false

pub seen_none : (seen : List Bool) → seen ≡ set (replicate 512 false) 0 true → Seen seen []
unfolding nothing
seen_none seen e =
    let l : length nothing ≡ 512 = refl in
    record {
      seen_length = ap length e ∙ length-set nothing 0 true;
      seen_is = λ q h.
          ap (λ (z : List Bool). get_or z q false) e
          ∙ by_eq q 0 (λ z. rw z)
          (λ z. rw (ne_eqb q 0 z) (get_or-set_other nothing 0 q true false z ∙ get_or-replicate 512 q false false h));
    }

module _ (seen : List Bool) (c : Chain) (q : ℕ) (l : q < 512) (S : Seen seen c) where
  pub seen_true : get_or seen q false ≡ true → has q c ≡ true
  seen_true z = sym (S.seen_is q l) ∙ z

  pub seen_false : get_or seen q false ≡ false → has q c ≡ false
  seen_false z = sym (S.seen_is q l) ∙ z

  seen_more : (r : ℕ) → Seen (set seen q true) (live q r ∷ c)
  seen_more r =
      let n = S.seen_length in
      record {
        seen_length = length-set seen q true ∙ n;
        seen_is = λ k h.
            by_eq k q
            (λ e. rw (e, eq-eqb q q refl) (get_or-set_same seen q true false (omega arith)))
            (λ e. rw (ne_eqb q k (λ z. e (sym z))) (get_or-set_other seen q k true false e ∙ S.seen_is k h));
      }

-- a test on a place of the right head: is its chain q with the reach r, and then the chain of the place f?
abbrev pub Tests : Key → Rows → ℕ → ℕ → ℕ → ℕ → (ℕ → Bool) → Type 0
Tests key w n q r f test =
    (p : ℕ) → 0 < p → p < n → get_or w.heads p 0 ≡ q
    → ((test p ≡ true → key (chain_of w p) ≡ key (live q r ∷ chain_of w f))
    × (key (chain_of w p) ≡ key (live q r ∷ chain_of w f) → test p ≡ true))

-- both chains read to their ends
pub whole_tests : (w : Rows) (n q r f : ℕ) → Tests whole w n q r f (λ p. same_chain (chain_of w p) (live q r ∷ chain_of w f))
whole_tests w n q r f p l k h = same_chain_iff (chain_of w p) (live q r ∷ chain_of w f)

-- the search stands at the place p: none above p has the chain
pub record Seek (key : Key) (w : Rows) (n q r f p : ℕ) : Type 0 where
  pub at : 0 < p → (p < n) × (get_or w.heads p 0 ≡ q)
  pub after : (j : ℕ) → p < j → j < n → key (chain_of w j) ≡ key (live q r ∷ chain_of w f) → ⊥

module _ (key : Key) (δ : Delta) (R : Rule key δ) (newest earlier : List ℕ) (w : Rows) (n : ℕ)
    (F : Fit newest earlier w n) where
  -- a place whose chain is not empty
  place_cons : (i : ℕ) (x : Live) (c : Chain) → key (chain_of w i) ≡ key (x ∷ c)
      → (0 < i) × (key (chain_of w (get_or w.fallbacks i 0)) ≡ key c) × (get_or w.heads i 0 ≡ x.state)
  place_cons i x c e =
      by_eq i 0 (λ z. cons_nil (R.key_none (x ∷ c) (sym e ∙ ap key (ap (λ (k : ℕ). chain_of w k) z ∙ chain-zero w))))
      (λ z.
      let l : 0 < i = omega arith in
      let g = chain_cons w F.held.fallbacks_down i l in (
        l,
        ap (λ (y : Chain). key (rest y)) (sym g) ∙ R.key_rest (chain_of w i) (x ∷ c) e,
        sym (head_of w n F.held i) ∙ R.key_head (chain_of w i) (x ∷ c) e,
      ))

  module _ (q r f : ℕ) (test : ℕ → Bool) (T : Tests key w n q r f test) where
    pub seek_start : (p : ℕ) → p ≡ get_or newest q 0 → q < 512 → Seek key w n q r f p
    seek_start p e l =
        let L = subst (λ (z : ℕ). Latest w.heads n q z) (sym e) (F.newest_is q l) in
        record { at = L.at; after = λ j h k e. L.after j h k (place_cons j (live q r) (chain_of w f) e).2 }

    pub seek-next : (p e : ℕ) → e ≡ get_or earlier p 0 → p ≢ 0 → Seek key w n q r f p → test p ≡ false → Seek key w n q r f e
    seek-next p e g z S t =
        let a = S.at (omega arith) in
        let b = a.0 in
        let L = subst (λ (y : ℕ). Latest w.heads p (get_or w.heads p 0) y) (sym g) (F.earlier_is p (omega arith) b) in
        record {
          at = λ l. let m = L.at l in let k = m.0 in (omega arith, m.1 ∙ a.1);
          after = λ j l k h.
              by_order j p (λ s. L.after j l s ((place_cons j (live q r) (chain_of w f) h).2 ∙ sym a.1))
              (λ s. true_false ((T p (omega arith) b a.1).1 (ap (λ (y : ℕ). key (chain_of w y)) (sym s) ∙ h)) t)
              (λ s. S.after j s k h);
        }

    pub seek_hit : (p : ℕ) → p ≢ 0 → Seek key w n q r f p → test p ≡ true → FoundAt key w n q r f p
    seek_hit p z S e = let a = S.at (omega arith) in record { below = a.0; is = (T p (omega arith) a.0 a.1).0 e }

    pub seek_end : (p : ℕ) → p ≡ 0 → Seek key w n q r f p → NotFound key w n q r f
    seek_end p z S =
        record { no = λ i l e. S.after i (let m = (place_cons i (live q r) (chain_of w f) e).0 in omega arith) l e }

  -- what has a place with q put in front has a place without it
  put_rest : (q r : ℕ) (S : Chain) (i : ℕ) → i < n → key (chain_of w i) ≡ key (put (Some q) r S)
      → (j : ℕ) × (j < n) × (key (chain_of w j) ≡ key S)
  put_rest q r S i l e =
      by_bool (has q S) (λ h. (i, l, rw h at e))
      (λ h.
      let k = place_cons i (live q r) S (rw h at e) in
      let d = F.held.fallbacks_down i k.0 in
      (get_or w.fallbacks i 0, omega arith, k.1))

  -- the place that was found, 0 where none was
  module _ (q r f : ℕ) where
    find_below : (o : Option ℕ) → Finds key w n q r f o → unwrap_or o 0 < n
    find_below None D = F.held.some_place
    find_below (Some k) D = D.below

    find_is : (o : Option ℕ) → Finds key w n q r f o → (i : ℕ) → i < n → key (chain_of w i) ≡ key (live q r ∷ chain_of w f)
        → key (chain_of w (unwrap_or o 0)) ≡ key (live q r ∷ chain_of w f)
    find_is None D i l e = absurd (D.no i l e)
    find_is (Some k) D i l e = D.is

  module _ (seen : List Bool) (q r f : ℕ) (s : q < 512) where
    -- what is known of a chain S with q in front that has a place
    known : (S : Chain) → IsSeen key w n S f seen → (i : ℕ) → i < n → key (chain_of w i) ≡ key (put (Some q) r S)
        → (key (chain_of w f) ≡ key S) × Seen seen S
    known S P i l e = let j = put_rest q r S i l e in (P.place.is j.0 j.1 j.2, P.states j.0 j.1 j.2)

    -- the target stands in the rest already
    pub settle_in : get_or seen q false ≡ true → Settled key w n q r f seen f seen
    settle_in h =
        record {
          on = λ S P.
              let old : (M : Seen seen S) → put (Some q) r S ≡ S = λ M. rw (seen_true seen S q s M h) in
              record {
                place =
                    record {
                      below = P.place.below;
                      is = λ i l e. let o = known S P i l e in o.0 ∙ ap key (sym (old o.1));
                    };
                states = λ i l e. let o = known S P i l e in subst (λ (z : Chain). Seen seen z) (sym (old o.1)) o.1;
              };
        }

    -- or it does not, and is put in front of it
    pub settle_new : (o : Option ℕ) (seen' : List Bool) → get_or seen q false ≡ false → seen' ≡ set seen q true → Finds key w n q r f o
        → Settled key w n q r f seen (unwrap_or o 0) seen'
    settle_new o seen' h g D =
        record {
          on = λ S P.
              let new : (M : Seen seen S) → put (Some q) r S ≡ live q r ∷ S = λ M. rw (seen_false seen S q s M h) in
              let on-f : (i : ℕ) → i < n → key (chain_of w i) ≡ key (put (Some q) r S)
              → key (put (Some q) r S) ≡ key (live q r ∷ chain_of w f) =
              λ i l e.
              let o = known S P i l e in
              ap key (new o.1) ∙ (R.key_cons (live q r) (live q r) S (chain_of w f)).1 (refl, sym o.0) in
              record {
                place =
                    record {
                      below = find_below q r f o D;
                      is = λ i l e. let u = on-f i l e in find_is q r f o D i l (e ∙ u) ∙ sym u;
                    };
                states = λ i l e. let o = known S P i l e in rw (new o.1, g) (seen_more seen S q s o.1 r);
              };
        }

  -- where nothing is left nothing is seen
  pub rest_end : (a p : ℕ) (seen : List Bool) → rest_after δ (chain_of w p) a ≡ [] → Seen seen []
      → IsSeen key w n (rest_after δ (chain_of w p) a) 0 seen
  rest_end a p seen e M =
      rw e
      (record { place = record { below = F.held.some_place; is = λ i l f. ap key (chain-zero w) }; states = λ i l f. M })

-- the search that reads both chains to their ends: no event is looked at
stays : Delta
stays q a = None

module _ {newest earlier : List ℕ} {w : Rows} {n : ℕ} (F : Fit newest earlier w n) where
  pub seek_from : {q r f p : ℕ} → p ≡ get_or newest q 0 → q < 512 → Seek whole w n q r f p
  seek_from {q} {r} {f} {p} =
      seek_start whole stays (whole-rule stays) newest earlier w n F q r f (λ p. asked w p q r f) (whole_tests w n q r f) p

  pub seek_on : {q r f p e : ℕ} {t : Bool} → e ≡ get_or earlier p 0 → p ≢ 0 → Seek whole w n q r f p
      → t ≡ asked w p q r f → t ≡ false → Seek whole w n q r f e
  seek_on {q} {r} {f} {p} {e} g z S h i =
      seek-next whole stays (whole-rule stays) newest earlier w n F q r f (λ p. asked w p q r f) (whole_tests w n q r f) p e g z S
      (sym h ∙ i)

  pub seek_found : {q r f p : ℕ} {t : Bool} → p ≢ 0 → Seek whole w n q r f p → t ≡ asked w p q r f → t ≡ true
      → FoundAt whole w n q r f p
  seek_found {q} {r} {f} {p} z S h i =
      seek_hit whole stays (whole-rule stays) newest earlier w n F q r f (λ p. asked w p q r f) (whole_tests w n q r f) p z S
      (sym h ∙ i)

  pub seek_none : {q r f p : ℕ} → p ≡ 0 → Seek whole w n q r f p → NotFound whole w n q r f
  seek_none {q} {r} {f} {p} =
      seek_end whole stays (whole-rule stays) newest earlier w n F q r f (λ p. asked w p q r f) (whole_tests w n q r f) p

  pub settled_in : {q r f : ℕ} {seen : List Bool} → q < 512 → get_or seen q false ≡ true → Settled whole w n q r f seen f seen
  settled_in {q} {r} {f} {seen} s = settle_in whole stays (whole-rule stays) newest earlier w n F seen q r f s

  pub settled_new : (o : Option ℕ) {q r f : ℕ} {seen seen' : List Bool} → q < 512 → get_or seen q false ≡ false → seen' ≡ set seen q true
      → Finds whole w n q r f o → Settled whole w n q r f seen (unwrap_or o 0) seen'
  settled_new o {q} {r} {f} {seen} {seen'} s =
      settle_new whole stays (whole-rule stays) newest earlier w n F seen q r f s o seen'
