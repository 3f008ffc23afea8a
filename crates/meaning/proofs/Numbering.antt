-- Breadth first numbering by a key lists each chain of a text once, and is refused exactly where there are too many:
-- numbering, numbering_over. NumbersBy and Levelled: what the finished list is; Ordered: what holds of it also while it
-- grows. On the way: Good, Closed, Near, Flat, of the chains met so far; Opening, while a place is being opened
-- (opening_met, opening_all); Loop, when the next is to be (loop_start, loop_next). Assumes nothing.
use mathlib.Core.Path.{◌≡◌, refl, sym, ap, ◌∙◌, subst}
use mathlib.Core.Logic.{⊎_elim, ◌↔◌}
use mathlib.Core.Bool.{Bool, true, false}
use Rattle.std.specs.Prelude.{None, Some}
use mathlib.Core.List.Memᴰ
use mathlib.Core.List.{List, [], ◌∷◌, ◌++◌, reverse, Memᴰ}
use Prim.Native.Nat.{ℕ, zero, suc, ◌+◌, ◌≤◌, ◌<◌}
use native.Mathlib.Omega.{arith}
use lib.ListN.{length, get_or, length-reverse, length-append}
use lib.Seq.{get_or-append_seam}
use lib.Dec.{ltb}
use borrow.Author.Tests.{ltb-true, ltb-false}
use Rattle.meaning.specs.Text.{Text, Delta}
use Rattle.meaning.specs.Chain.{Live, live, Chain, step, chain, head, level, rest}
use Rattle.meaning.proofs.Cases.{by_bool, by_option, by_order, none_some, true_false}
use Rattle.meaning.proofs.Book.{Names}
use Rattle.meaning.proofs.Chain.{chain_snoc, chain_r, chain-reverse}
use Rattle.meaning.proofs.Fails.{Stacked, step-miss}
use Rattle.meaning.proofs.Rest.{under, step_new, short_text}
use Rattle.meaning.proofs.Keys.{Key, Rule, met_by, number_by, settle, meet_by, meet_all_by, opened_by, grow_by, places_by}
use Rattle.meaning.proofs.Keys.{HasBy, DistinctBy, met_has, has-met, has_cast, distinct_snoc, get_or-has, has_get_d}
use Rattle.meaning.proofs.Keys.{number_by_mem, unique, fewer}
use Rattle.meaning.proofs.Keys.{Extends, extends_refl, extends_trans, extends_snoc, still}

-- some text gives the chain, as far as the key tells, and is as long as its level
abbrev pub Given : Key → Delta → Chain → Type 0
Given key δ c = (t : Text) × (key (chain δ t) ≡ key c) × (length t ≡ level c)

-- each one's fallback stands earlier
abbrev pub Fallbacks : List Chain → Type 0
Fallbacks L = (i : ℕ) (x : Live) (c : Chain) → i < length L → get_or L i [] ≡ x ∷ c → (j : ℕ) × (j < i) × (get_or L j [] ≡ c)

-- the chains met so far: the first is empty, texts give them, they are distinct, fallbacks stand earlier and at lower
-- levels, levels do not fall with the number and are at most the number
pub record Good (key : Key) (δ : Delta) (L : List Chain) : Type 0 where
  pub some_place : 0 < length L
  pub first : get_or L 0 [] ≡ []
  pub given : (i : ℕ) → i < length L → Given key δ (get_or L i [])
  pub distinct : DistinctBy key L
  pub fallback : Fallbacks L
  pub stacked : (i : ℕ) → i < length L → Stacked (get_or L i [])
  pub sorted : (i j : ℕ) → i ≤ j → j < length L → level (get_or L i []) ≤ level (get_or L j [])
  pub low : (i : ℕ) → i < length L → level (get_or L i []) ≤ i

-- no level is above n
abbrev pub Flat : List Chain → ℕ → Type 0
Flat L n = (i : ℕ) → i < length L → level (get_or L i []) ≤ n

-- each place below p has all its edges' targets in L
abbrev pub Closed : Key → Delta → ℕ → List Chain → Type 0
Closed key δ p L =
    (i : ℕ) → i < p → (a q : ℕ) → δ (head (get_or L i [])) a ≡ Some q → HasBy key (step δ (get_or L i []) a) L

-- and none of them more than one level up
abbrev pub Near : Key → Delta → ℕ → List Chain → Type 0
Near key δ p L =
    (i a k : ℕ) → i < p → k < length L → key (get_or L k []) ≡ key (step δ (get_or L i []) a)
    → level (get_or L k []) ≤ suc (level (get_or L i []))

pub record Opening (key : Key) (δ : Delta) (c : Chain) (p : ℕ) (L : List Chain) : Type 0 where
  pub good : Good key δ L
  pub here : p < length L
  pub at : get_or L p [] ≡ c
  pub closed : Closed key δ p L
  pub near : Near key δ p L
  pub flat : Flat L (suc (level c))

-- a fact of the chains of L and of one more, for the chains of both
snoc_all : (P : Chain → ℕ → Type 0) (L : List Chain) (d : Chain) → ((i : ℕ) → i < length L → P (get_or L i []) i)
    → P d (length L) → (i : ℕ) → i < length (L ++ (d ∷ [])) → P (get_or (L ++ (d ∷ [])) i []) i
snoc_all P L d old new i l =
    let E = extends_snoc L d in
    let len : length (L ++ (d ∷ [])) ≡ suc (length L) = omega (arith, length-append L (d ∷ [])) in
    by_order i (length L) (λ h. subst (λ (z : Chain). P z i) (sym (E.kept i h)) (old i h))
    (λ h.
    subst (λ (n : ℕ). P (get_or (L ++ (d ∷ [])) n []) n) (sym h)
    (subst (λ (z : Chain). P z (length L)) (sym (get_or-append_seam L d [] [])) new))
    (λ h. absurd (let w : ⊥ = omega arith in w))

module _ (key : Key) (δ : Delta) where
  -- one more place: the head x on the chain of the place j
  pub good_snoc : (L : List Chain) (x : Live) (j : ℕ) → Good key δ L → j < length L → (HasBy key (x ∷ get_or L j []) L → ⊥)
      → Given key δ (x ∷ get_or L j []) → level (get_or L j []) < x.reach → Flat L x.reach → x.reach ≤ length L
      → Good key δ (L ++ ((x ∷ get_or L j []) ∷ []))
  good_snoc L x j G jl new r up flat small =
      let d = x ∷ get_or L j [] in
      let E = extends_snoc L d in
      let len : length (L ++ (d ∷ [])) ≡ suc (length L) = omega (arith, length-append L (d ∷ [])) in
      let s = G.some_place in
      let at : (i : ℕ) → i ≡ length L → get_or (L ++ (d ∷ [])) i [] ≡ d = λ i h. rw h (get_or-append_seam L d [] []) in
      record {
        some_place = omega arith;
        first = E.kept 0 s ∙ G.first;
        given = snoc_all (λ z i. Given key δ z) L d G.given r;
        distinct = distinct_snoc key L d G.distinct new;
        fallback = λ i y c l e.
            by_order i (length L)
            (λ h.
            let q = G.fallback i y c h (sym (E.kept i h) ∙ e) in
            let k = q.1 in
            (q.0, k, E.kept q.0 (omega arith) ∙ q.2))
            (λ h. (j, omega arith, E.kept j jl ∙ ap rest (sym (at i h) ∙ e)))
            (λ h. absurd (let w : ⊥ = omega arith in w));
        stacked = snoc_all (λ z i. Stacked z) L d G.stacked (up, G.stacked j jl);
        low = snoc_all (λ z i. level z ≤ i) L d G.low small;
        sorted = λ i k l b.
            by_order k (length L)
            (λ h.
            let m = G.sorted i k l h in
            let u = ap level (E.kept i (omega arith)) in
            let v = ap level (E.kept k h) in
            omega arith)
            (λ h.
            let v = ap level (at k h) in
            let m = snoc_all (λ z i. level z ≤ x.reach) L d flat (omega arith) i (omega arith) in
            omega arith)
            (λ h. absurd (let w : ⊥ = omega arith in w));
      }

module _ (key : Key) (δ : Delta) (R : Rule key δ) where
  -- in a list closed up to p, what any event makes of a place below p stands in it too
  pub step_in : (L : List Chain) (p : ℕ) → Good key δ L → Closed key δ p L → p ≤ length L
      → (a : ℕ) (c : Chain) (j : ℕ) → j < p → key (get_or L j []) ≡ key c → HasBy key (step δ c a) L
  step_in L p G C l a [] j h e =
      by_option (δ 0 a) (λ f. rw f (get_or-has key L 0 [] G.some_place (ap key G.first)))
      (λ q f.
      let m = C j h a q (ap (λ (n : ℕ). δ n a) (R.key_head (get_or L j []) [] e) ∙ f) in
      has_cast key (step δ (get_or L j []) a) (step δ [] a) L (R.key_step (get_or L j []) [] a e) m)
  step_in L p G C l a (x ∷ c) j h e =
      by_option (δ x.state a)
      (λ f.
      let t : key (rest (get_or L j [])) ≡ key c = R.key_rest (get_or L j []) (x ∷ c) e in
      let i = below (get_or L j []) refl (λ z. R.key_none (x ∷ c) (sym e ∙ ap key z)) t in
      let k = i.1 in
      let m = step_in L p G C l a c i.0 (omega arith) i.2 in
      has_cast key (step δ c a) (step δ (x ∷ c) a) L (ap key (sym (step-miss δ x c a f))) m)
      (λ q f.
      let m = C j h a q (ap (λ (n : ℕ). δ n a) (R.key_head (get_or L j []) (x ∷ c) e) ∙ f) in
      has_cast key (step δ (get_or L j []) a) (step δ (x ∷ c) a) L (R.key_step (get_or L j []) (x ∷ c) a e) m)
    where
      below : (d : Chain) → get_or L j [] ≡ d → (get_or L j [] ≡ [] → x ∷ c ≡ []) → key (rest (get_or L j [])) ≡ key c
          → (i : ℕ) × (i < j) × (key (get_or L i []) ≡ key c)
      below [] g n t = let w : 0 ≡ suc (length c) = ap {B = ℕ} length (sym (n g)) in absurd (let v : ⊥ = omega arith in v)
      below (y ∷ d) g n t =
          let i = G.fallback j y d (omega arith) g in
          (i.0, i.1, ap key i.2 ∙ sym (ap (λ (z : Chain). key (rest z)) g) ∙ t)

  pub closed_extends : (L M : List Chain) (p : ℕ) → Closed key δ p L → p ≤ length L → Extends L M → Closed key δ p M
  closed_extends L M p C l E i h a q e =
      let k : get_or M i [] ≡ get_or L i [] = E.kept i (omega arith) in
      let m = C i h a q (subst (λ (z : Chain). δ (head z) a ≡ Some q) k e) in
      subst (λ (z : Chain). HasBy key (step δ z a) M) (sym k) (still key E (step δ (get_or L i []) a) m)

  pub near_extends : (L M : List Chain) (p : ℕ) → Good key δ L → Good key δ M → Closed key δ p L → p ≤ length L
      → Extends L M → Near key δ p L → Near key δ p M
  near_extends L M p G H C l E N i a k h b e =
      let at : get_or M i [] ≡ get_or L i [] = E.kept i (omega arith) in
      let j = has_get_d key (step δ (get_or L i []) a) L (step_in L p G C l a (get_or L i []) i h refl) in
      let m = j.1 in
      let w = E.longer in
      let alike : key (get_or M k []) ≡ key (get_or M j.0 []) =
      e ∙ ap (λ (z : Chain). key (step δ z a)) at ∙ sym j.2 ∙ sym (ap key (E.kept j.0 m)) in
      let same : k ≡ j.0 = unique key M H.distinct k j.0 b (omega arith) alike in
      let lk : level (get_or M k []) ≡ level (get_or L j.0 []) =
      ap (λ (n : ℕ). level (get_or M n [])) same ∙ ap level (E.kept j.0 m) in
      let li = ap level at in
      let n = N i a j.0 h m j.2 in
      omega arith

  module _ (c : Chain) (p : ℕ) (L : List Chain) (O : Opening key δ c p L) where
    -- what an event makes of the fallback of the place that is being opened stands in L
    pub opening_under : (b : ℕ) → HasBy key (under δ c b) L
    opening_under b = by c O.at
      where
        by : (c : Chain) → get_or L p [] ≡ c → HasBy key (under δ c b) L
        by [] e = get_or-has key L 0 [] O.good.some_place (ap key O.good.first)
        by (x ∷ c) e =
            let l = O.here in
            let i = O.good.fallback p x c l e in
            step_in L p O.good O.closed (omega arith) b c i.0 i.1 (ap key i.2)

    -- at a level no higher than its own
    opening_lower : (b k : ℕ) → k < length L → key (get_or L k []) ≡ key (under δ c b) → level (get_or L k []) ≤ level c
    opening_lower b k h f = by c O.at f
      where
        by : (c : Chain) → get_or L p [] ≡ c → key (get_or L k []) ≡ key (under δ c b) → level (get_or L k []) ≤ level c
        by [] e f = let z = ap level (R.key_none (get_or L k []) f) in omega arith
        by (x ∷ c) e f =
            let i = O.good.fallback p x c O.here e in
            let st : Stacked (x ∷ c) = subst (λ (z : Chain). Stacked z) e (O.good.stacked p O.here) in
            let u = st.0 in
            let v = ap level i.2 in
            let n = O.near i.0 b k i.1 h (f ∙ ap (λ (z : Chain). key (step δ z b)) (sym i.2)) in
            omega arith

    -- after more chains are met the place is still being opened
    opening_extends : (M : List Chain) → Good key δ M → Extends L M → Flat M (suc (level c)) → Opening key δ c p M
    opening_extends M H E F =
        let l = O.here in
        let w = E.longer in
        record {
          good = H;
          here = omega arith;
          at = E.kept p l ∙ O.at;
          closed = closed_extends L M p O.closed (omega arith) E;
          near = near_extends L M p O.good H O.closed (omega arith) E O.near;
          flat = F;
        }

    -- what holds after one event of it
    abbrev pub Met : ℕ → List Chain → Type 0
    Met b M = Opening key δ c p M × Extends L M × HasBy key (step δ c b) M

    -- a chain not met yet is one state more than a chain of L: a new place, one level up
    new_place : (b q : ℕ) → (HasBy key (step δ c b) L → ⊥) → step δ c b ≡ live q (suc (level c)) ∷ under δ c b
        → Met b (L ++ (settle key (step δ c b) L ∷ []))
    new_place b q new g =
        let j = number_by_mem key L (under δ c b) (opening_under b) in
        let n = number_by key L (under δ c b) in
        let x = live q (suc (level c)) in
        let d = x ∷ get_or L n [] in
        let same : key d ≡ key (step δ c b) =
        (R.key_cons x x (get_or L n []) (under δ c b)).1 (refl, j.1) ∙ ap key (sym g) in
        let sd : settle key (step δ c b) L ≡ d = ap (λ (z : Chain). settle key z L) g in
        let t = O.good.given p O.here in
        let tl = t.2 in
        let ec = ap level O.at in
        let lo = opening_lower b n j.0 j.1 in
        let pl = O.good.low p O.here in
        let hl = O.here in
        let gives : Given key δ d = (
          t.0 ++ (b ∷ []),
          ap key (chain_snoc δ t.0 b) ∙ R.key_step (chain δ t.0) c b (t.1 ∙ ap key O.at) ∙ sym same,
          omega (arith, length-append t.0 (b ∷ [])),
        ) in
        let apart : HasBy key d L → ⊥ = λ m. new (has_cast key d (step δ c b) L same m) in
        let ok = good_snoc key δ L x n O.good j.0 apart gives (omega arith) O.flat (omega arith) in
        let flat = snoc_all (λ z i. level z ≤ suc (level c)) L d O.flat (omega arith) in
        let len : length (L ++ (d ∷ [])) ≡ suc (length L) = omega (arith, length-append L (d ∷ [])) in
        let last = ap key (get_or-append_seam L d [] []) ∙ same in
        subst (λ (z : Chain). Met b (L ++ (z ∷ []))) (sym sd) (
          opening_extends (L ++ (d ∷ [])) ok (extends_snoc L d) flat,
          extends_snoc L d,
          get_or-has key (L ++ (d ∷ [])) (length L) (step δ c b) (omega arith) last,
        )

    -- one event of the place
    pub opening_met : (b : ℕ) → Met b (meet_by key (step δ c b) L)
    opening_met b =
        by_bool (met_by key (step δ c b) L) (λ f. rw f (O, extends_refl L, met_has key (step δ c b) L f))
        (λ f.
        let new : HasBy key (step δ c b) L → ⊥ = λ m. true_false (has-met key (step δ c b) L m) f in
        let old : step δ c b ≡ under δ c b → ⊥ =
        λ g. new (has_cast key (under δ c b) (step δ c b) L (ap key (sym g)) (opening_under b)) in
        rw f (⊎_elim (λ g. absurd (old g)) (λ g. new_place b g.0 new g.1) (step_new δ c b)))

  -- all its events
  pub opening_all : (c : Chain) (p : ℕ) (es : List ℕ) (L : List Chain) → Opening key δ c p L
      → Opening key δ c p (meet_all_by key δ c es L) × Extends L (meet_all_by key δ c es L)
      × ((a : ℕ) → Memᴰ a es → HasBy key (step δ c a) (meet_all_by key δ c es L))
  opening_all c p [] L O = (O, extends_refl L, λ a m. absurd (Memᴰ.not-nil m))
  opening_all c p (b ∷ es) L O =
      let d = step δ c b in
      let M = meet_by key d L in
      let m = opening_met c p L O b in
      let n = opening_all c p es M m.0 in
      let here : (a : ℕ) → a ≡ b → HasBy key (step δ c a) M =
      λ a f. has_cast key d (step δ c a) M (ap (λ (y : ℕ). key (step δ c y)) (sym f)) m.2 in (
        n.0,
        extends_trans m.1 n.1,
        λ a k. ⊎_elim (λ f. still key n.1 (step δ c a) (here a f)) (λ f. n.2 a f) (Memᴰ.cases_cons k),
      )

-- what holds when the place p is to be opened
pub record Loop (key : Key) (δ : Delta) (p : ℕ) (L : List Chain) : Type 0 where
  pub good : Good key δ L
  pub closed : Closed key δ p L
  pub near : Near key δ p L
  pub flat : p < length L → Flat L (suc (level (get_or L p [])))
  pub bound : p ≤ length L

pub loop_opening : (key : Key) (δ : Delta) (p : ℕ) (L : List Chain) → Loop key δ p L → p < length L
    → Opening key δ (get_or L p []) p L
loop_opening key δ p L I l =
    record { good = I.good; here = l; at = refl; closed = I.closed; near = I.near; flat = I.flat l }

-- the list of the empty chain alone
module _ (key : Key) (δ : Delta) where
  only_first : (P : Chain → ℕ → Type 0) → P [] 0 → (i : ℕ) → i < 1 → P (get_or ([] ∷ []) i []) i
  only_first P h zero l = h
  only_first P h (suc i) l = absurd (let w : ⊥ = omega arith in w)

  start_fallback : Fallbacks ([] ∷ [])
  start_fallback zero x c l e =
      let w : 0 ≡ suc (length c) = ap {B = ℕ} length e in
      absurd (let v : ⊥ = omega arith in v)
  start_fallback (suc i) x c l e = absurd (let w : ⊥ = omega arith in w)

  pub loop_start : Loop key δ 0 ([] ∷ [])
  loop_start =
      let lv = only_first (λ z i. level z ≡ 0) refl in
      record {
        good =
            record {
              some_place = omega arith;
              first = refl;
              given = only_first (λ z i. Given key δ z) ([], refl, refl);
              distinct = ((λ m. m), tt);
              fallback = start_fallback;
              stacked = only_first (λ z i. Stacked z) tt;
              sorted = λ i j l k. let u = lv i (omega arith) in omega arith;
              low = only_first (λ z i. level z ≤ i) (omega arith);
            };
        closed = λ i h. absurd (let w : ⊥ = omega arith in w);
        near = λ i a k h. absurd (let w : ⊥ = omega arith in w);
        flat = λ l i h. let u = lv i h in omega arith;
        bound = omega arith;
      }

module _ (key : Key) (δ : Delta) (R : Rule key δ) (out : ℕ → List ℕ) (names : Names δ out) where
  pub loop_next : (p : ℕ) (L : List Chain) → Loop key δ p L → p < length L → Loop key δ (suc p) (opened_by key δ out p L)
  loop_next p L I l =
      let c = get_or L p [] in
      let M = meet_all_by key δ c (out (head c)) L in
      let n = opening_all key δ R c p (out (head c)) L (loop_opening key δ p L I l) in
      let P = n.0 in
      let E = n.1 in
      let w = E.longer in
      let at : (i : ℕ) → i ≡ p → get_or M i [] ≡ c = λ i k. ap (λ (y : ℕ). get_or M y []) k ∙ E.kept p l in
      record {
        good = P.good;
        closed = λ i h a q e.
            by_order i p (λ k. P.closed i k a q e)
            (λ k.
            let m = n.2 a (names (head c) a q (subst (λ (z : Chain). δ (head z) a ≡ Some q) (at i k) e)) in
            subst (λ (z : Chain). HasBy key (step δ z a) M) (sym (at i k)) m)
            (λ k. absurd (let w : ⊥ = omega arith in w));
        near = λ i a j h b e.
            by_order i p (λ k. P.near i a j k b e)
            (λ k. let f = P.flat j b in let u = ap level (at i k) in omega arith)
            (λ k. absurd (let w : ⊥ = omega arith in w));
        flat = λ b i h.
            let f = P.flat i h in
            let s = P.good.sorted p (suc p) (omega arith) b in
            let u = ap level (E.kept p l) in
            omega arith;
        bound = omega arith;
      }

  -- the loop at its end
  loop_end : (f p : ℕ) (L M : List Chain) → Loop key δ p L → ltb p (length L) ≡ false → L ≡ M
      → Loop key δ (length M) M × (length M ≤ p + f)
  loop_end f p L M I e q =
      let l : length L ≤ p = ltb-false p (length L) e in
      let k = I.bound in
      let h : p ≡ length L = omega arith in
      subst (λ (z : List Chain). Loop key δ (length z) z × (length z ≤ p + f)) q
      (subst (λ (n : ℕ). Loop key δ n L) h I, omega arith)

  grow_good : (f : ℕ) (t : Bool) (p : ℕ) (L : List Chain) → Loop key δ p L → ltb p (length L) ≡ t → (M : List Chain)
      → grow_by key δ out f t p L ≡ Some M → Loop key δ (length M) M × (length M ≤ p + f)
  grow_good zero false p L I e M g = loop_end 0 p L M I e (cc)
  grow_good zero true p L I e M g = none_some refl g
  grow_good (suc f) false p L I e M g = loop_end (suc f) p L M I e (cc)
  grow_good (suc f) true p L I e M g =
      let K = opened_by key δ out p L in
      let I' = loop_next p L I (ltb-true p (length L) e) in
      let n = grow_good f (ltb (suc p) (length K)) (suc p) K I' refl M g in
      let k = n.1 in
      (n.0, omega arith)

  grow_over : (f : ℕ) (t : Bool) (p : ℕ) (L : List Chain) → Loop key δ p L → ltb p (length L) ≡ t
      → grow_by key δ out f t p L ≡ None → (M : List Chain) × Good key δ M × (p + f < length M)
  grow_over zero false p L I e g = none_some g refl
  grow_over zero true p L I e g = let l = ltb-true p (length L) e in (L, I.good, omega arith)
  grow_over (suc f) false p L I e g = none_some g refl
  grow_over (suc f) true p L I e g =
      let K = opened_by key δ out p L in
      let n = grow_over f (ltb (suc p) (length K)) (suc p) K (loop_next p L I (ltb-true p (length L) e)) refl g in
      let k = n.2 in
      (n.0, n.1, omega arith)

-- a closed list has every chain, at a level at most the history's length
module _ (key : Key) (δ : Delta) (R : Rule key δ) (L : List Chain) (I : Loop key δ (length L) L) where
  loop_chain_r : (h : Text)
      → (i : ℕ) × (i < length L) × (key (get_or L i []) ≡ key (chain_r δ h)) × (level (get_or L i []) ≤ length h)
  loop_chain_r [] = let u = ap level I.good.first in (0, I.good.some_place, ap key I.good.first, omega arith)
  loop_chain_r (a ∷ h) =
      let i = loop_chain_r h in
      let c = chain_r δ h in
      let d = get_or L i.0 [] in
      let m = step_in key δ R L (length L) I.good I.closed (omega arith) a c i.0 i.1 i.2 in
      let j = has_get_d key (step δ c a) L m in
      let n = I.near i.0 a j.0 i.1 j.1 (j.2 ∙ sym (R.key_step d c a i.2)) in
      let k = i.3 in
      (j.0, j.1, j.2, omega arith)

  loop_least : (i : ℕ) (t : Text) → i < length L → key (chain δ t) ≡ key (get_or L i [])
      → level (get_or L i []) ≤ level (chain δ t)
  loop_least i t l e =
      let u = short_text δ t in
      let j = loop_chain_r (reverse u.0) in
      let back = ap key (sym (chain-reverse δ u.0) ∙ u.2) in
      let same : j.0 ≡ i = unique key L I.good.distinct j.0 i j.1 l (j.2 ∙ back ∙ e) in
      let lv : level (get_or L j.0 []) ≡ level (get_or L i []) = ap (λ (n : ℕ). level (get_or L n [])) same in
      let k = j.3 in
      let len : length (reverse u.0) ≡ length u.0 = length-reverse u.0 in
      let m = u.1 in
      omega arith

-- L numbers the chains of all texts, as far as the key tells: each once, the empty one 0, each fallback lower; each by a
-- chain of least level
pub record NumbersBy (key : Key) (δ : Delta) (L : List Chain) : Type 0 where
  pub all : (t : Text) → HasBy key (chain δ t) L
  pub only : (i : ℕ) → i < length L → Given key δ (get_or L i [])
  pub distinct : DistinctBy key L
  pub first : get_or L 0 [] ≡ []
  pub fallback : Fallbacks L
  pub stacked : (i : ℕ) → i < length L → Stacked (get_or L i [])
  pub near : Near key δ (length L) L
  pub least : (i : ℕ) (t : Text) → i < length L → key (chain δ t) ≡ key (get_or L i [])
      → level (get_or L i []) ≤ level (chain δ t)

-- levels do not fall with the number, and are at most the number
pub record Levelled (L : List Chain) : Type 0 where
  pub sorted : (i j : ℕ) → i ≤ j → j < length L → level (get_or L i []) ≤ level (get_or L j [])
  pub low : (i : ℕ) → i < length L → level (get_or L i []) ≤ i

-- a list of chains in which each fallback stands earlier: what holds also while the places are being met
pub record Ordered (key : Key) (L : List Chain) : Type 0 where
  pub some_place : 0 < length L
  pub first : get_or L 0 [] ≡ []
  pub distinct : DistinctBy key L
  pub fallback : Fallbacks L

pub good_ordered : (key : Key) (δ : Delta) (L : List Chain) → Good key δ L → Ordered key L
good_ordered key δ L G =
    record { some_place = G.some_place; first = G.first; distinct = G.distinct; fallback = G.fallback }

pub numbers_by_ordered : (key : Key) (δ : Delta) (L : List Chain) → NumbersBy key δ L → Ordered key L
numbers_by_ordered key δ L N =
    let i = has_get_d key [] L (N.all []) in
    let l = i.1 in
    record { some_place = omega arith; first = N.first; distinct = N.distinct; fallback = N.fallback }

-- more than N chains are reachable, as far as the key tells
abbrev pub MoreThanBy : Key → Delta → ℕ → Type 0
MoreThanBy key δ N =
    (M : List Chain) × (N < length M) × DistinctBy key M
    × ((i : ℕ) → i < length M → (t : Text) × (key (chain δ t) ≡ key (get_or M i [])))

module _ (key : Key) (δ : Delta) (R : Rule key δ) (out : ℕ → List ℕ) (names : Names δ out) where
  pub numbering : (N : ℕ) (L : List Chain) → places_by key δ out N ≡ Some L
      → NumbersBy key δ L × Levelled L × (length L ≤ N)
  numbering N L e =
      let g = grow_good key δ R out names N true 0 ([] ∷ []) (loop_start key δ) refl L e in
      let G = g.0.good in
      let k = g.1 in (
        record {
          all = λ t.
              let i = loop_chain_r key δ R L g.0 (reverse t) in
              get_or-has key L i.0 (chain δ t) i.1 (i.2 ∙ ap key (sym (chain-reverse δ t)));
          only = G.given;
          distinct = G.distinct;
          first = G.first;
          fallback = G.fallback;
          stacked = G.stacked;
          near = g.0.near;
          least = loop_least key δ R L g.0;
        },
        record { sorted = G.sorted; low = G.low },
        omega arith,
      )

  -- refused exactly where there are more than N
  pub numbering_over : (N : ℕ) → (places_by key δ out N ≡ None) ↔ MoreThanBy key δ N
  numbering_over N = (over, under_it)
    where
      over : places_by key δ out N ≡ None → MoreThanBy key δ N
      over e =
          let g = grow_over key δ R out names N true 0 ([] ∷ []) (loop_start key δ) refl e in
          let k = g.2 in
          (g.0, omega arith, g.1.distinct, λ i l. let t = g.1.given i l in (t.0, t.1))

      inside : (L : List Chain) → NumbersBy key δ L → (m : MoreThanBy key δ N) (x : Chain) → HasBy key x m.0
          → HasBy key x L
      inside L P m x k =
          let i = has_get_d key x m.0 k in
          let r = m.3 i.0 i.1 in
          has_cast key (chain δ r.0) x L (r.1 ∙ i.2) (P.all r.0)

      under_it : MoreThanBy key δ N → places_by key δ out N ≡ None
      under_it m =
          by_option (places_by key δ out N) (λ e. e)
          (λ L e.
          let P = numbering N L e in
          let l = fewer key m.0 L m.2 (inside L P.0 m) in
          let a = P.2 in
          let b = m.1 in
          absurd (let w : ⊥ = omega arith in w))
