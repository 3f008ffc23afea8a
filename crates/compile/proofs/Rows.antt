-- What chain a place has, when the arrays fit, and what one more place does to them. `chain_cons`: the chain of a
-- place is its head on its fallback's chain. `fit_start`: arrays of zeros hold the place 0. `fit_longer`,
-- `list_longer`: and one place more. Assumes nothing.
use mathlib.Core.Path.{◌≡◌, refl, sym, ap, ◌∙◌, subst}
use mathlib.Core.Logic.{◌≢◌}
use mathlib.Core.List.{List, [], ◌∷◌, ◌++◌}
use Prim.Native.Nat.{ℕ, zero, suc, ◌+◌, ◌≤◌, ◌<◌}
use native.Mathlib.Omega.{arith}
use lib.ListN.{length, get_or, get_or-map, set, length-set, length-append, replicate, get_or-append}
use Rattle.std.proofs.lemmas.List.{map-set}
use lib.Seq.{get_or-set_same, get_or-set_other, get_or-append_seam}
use borrow.Author.Tests.{eq-eqb, ne_eqb}
use Rattle.meaning.specs.Chain.{live}
use Rattle.meaning.proofs.Cases.{by_eq, by_order}
use Rattle.compile.specs.Work.{Rows, rows, columns, earlier_of, Down, chain_within, chain_of, list_of, Latest, Held, Fit}
use Rattle.compile.specs.declared.work.Row.{Row}

-- a fallback, or an earlier place of the same head, is lower
pub lower : (xs : List ℕ) → Down xs → {p f : ℕ} → p ≢ 0 → f ≡ get_or xs p 0 → f < p
lower xs d {p} z e = let k = d p (omega arith) in omega arith

pub not_above : {w : Rows} {n : ℕ} → Held w n → (p : ℕ) {f : ℕ} → f ≡ get_or w.fallbacks p 0 → (f ≤ p) × (0 < p → f < p)
not_above {w} H p {f} e =
    let down : 0 < p → f < p = λ l. let k = H.fallbacks_down p l in omega arith in
    let zero : p ≡ 0 → f ≤ p = λ z. let k = e ∙ ap (λ (i : ℕ). get_or w.fallbacks i 0) z ∙ H.fallback_zero in omega arith in
    (by_eq p 0 zero (λ z. let k = down (omega arith) in omega arith), down)

from_zero : (w : Rows) (n p : ℕ) → p ≡ 0 → chain_within n w p ≡ []
from_zero w zero p e = refl
from_zero w (suc n) p e = rw (eq-eqb p 0 e)

fuel : (w : Rows) → Down w.fallbacks → (n m p : ℕ) → p ≤ n → p ≤ m → chain_within n w p ≡ chain_within m w p
fuel w d zero m p l k = sym (from_zero w m p (omega arith))
fuel w d (suc n) zero p l k = from_zero w (suc n) p (omega arith)
fuel w d (suc n) (suc m) p l k =
    by_eq p 0 (λ e. from_zero w (suc n) p e ∙ sym (from_zero w (suc m) p e))
    (λ e.
    let t = d p (omega arith) in
    let i = fuel w d n m (get_or w.fallbacks p 0) (omega arith) (omega arith) in
    rw (ne_eqb p 0 e, i))

pub chain-zero : (w : Rows) → chain_of w 0 ≡ []
unfolding chain_of
chain-zero w = refl

pub chain_cons : (w : Rows) → Down w.fallbacks → (p : ℕ) → 0 < p
    → chain_of w p ≡ live (get_or w.heads p 0) (get_or w.levels p 0) ∷ chain_of w (get_or w.fallbacks p 0)
unfolding chain_of
chain_cons w d zero l = absurd (let k : ⊥ = omega arith in k)
chain_cons w d (suc n) l =
    let t = d (suc n) l in
    let f = get_or w.fallbacks (suc n) 0 in
    let i : chain_within n w f ≡ chain_within f w f = fuel w d n f f (omega arith) (omega arith) in
    rw (ne_eqb (suc n) 0 (λ e. omega arith), i)

-- rows that agree below n give the places below n the same chains
abbrev Agree : List ℕ → List ℕ → ℕ → Type 0
Agree xs ys n = (i : ℕ) → i < n → get_or xs i 0 ≡ get_or ys i 0

module _ (v w : Rows) (n : ℕ) (d : Down v.fallbacks) (a : Agree v.heads w.heads n)
    (b : Agree v.levels w.levels n) (c : Agree v.fallbacks w.fallbacks n) where
  from_same : (m p : ℕ) → p < n → chain_within m v p ≡ chain_within m w p
  from_same zero p l = refl
  from_same (suc m) p l =
      by_eq p 0 (λ e. from_zero v (suc m) p e ∙ sym (from_zero w (suc m) p e))
      (λ e.
      let t = d p (omega arith) in
      let i = from_same m (get_or v.fallbacks p 0) (omega arith) in
      rw (ne_eqb p 0 e, i, a p l, b p l, c p l))

  chain_same : (p : ℕ) → p < n → chain_of v p ≡ chain_of w p
  unfolding chain_of
  chain_same p l = from_same p p l

-- the list of the chains
pub list_suc : (w : Rows) (n : ℕ) → list_of w (n + 1) ≡ list_of w n ++ (chain_of w n ∷ [])
unfolding list_of
list_suc w n = let e : n + 1 ≡ suc n = omega arith in rw e

pub list_one : (w : Rows) → list_of w 1 ≡ [] ∷ []
unfolding list_of
list_one w = rw (chain-zero w)

pub length_list : (w : Rows) (n : ℕ) → length (list_of w n) ≡ n
unfolding list_of
length_list w zero = refl
length_list w (suc n) = omega (arith, length-append (list_of w n) (chain_of w n ∷ []), length_list w n)

pub list_at : (w : Rows) (n i : ℕ) → i < n → get_or (list_of w n) i [] ≡ chain_of w i
unfolding list_of
list_at w zero i l = absurd (let z : ⊥ = omega arith in z)
list_at w (suc n) i l =
    let k = length_list w n in
    by_order i n
    (λ h. get_or-append (list_of w n) (chain_of w n ∷ []) [] i (omega arith) ∙ list_at w n i h)
    (λ h.
    let e : i ≡ length (list_of w n) = omega arith in
    ap (λ (j : ℕ). get_or (list_of w n ++ (chain_of w n ∷ [])) j []) e ∙ get_or-append_seam (list_of w n) (chain_of w n) [] []
    ∙ ap (λ (j : ℕ). chain_of w j) (sym h))
    (λ h. absurd (let z : ⊥ = omega arith in z))

list_same : (v w : Rows) (n : ℕ) → ((i : ℕ) → i < n → chain_of v i ≡ chain_of w i) → list_of v n ≡ list_of w n
unfolding list_of
list_same v w zero h = refl
list_same v w (suc n) h =
    let a = list_same v w n (λ i l. h i (omega arith)) in
    let b = h n (omega arith) in
    rw (a, b)

-- all zero, the arrays hold the place 0
pub get_or-zeros : (n i : ℕ) → ◌≡◌ {A = ℕ} (get_or (replicate n 0) i 0) 0
get_or-zeros zero i = refl
get_or-zeros (suc n) zero = refl
get_or-zeros (suc n) (suc i) = get_or-zeros n i

abbrev Zeros : ℕ → List ℕ → Type 0
Zeros n xs = xs ≡ replicate n 0

zero_at : (n : ℕ) {xs : List ℕ} → Zeros n xs → (i : ℕ) → get_or xs i 0 ≡ 0
zero_at n e i = ap (λ (z : List ℕ). get_or z i 0) e ∙ get_or-zeros n i

pub fit_start : (newest earlier heads levels fallbacks : List ℕ) → Zeros 512 newest → Zeros 1024 earlier → Zeros 1024 heads
    → Zeros 1024 levels → Zeros 1024 fallbacks → Fit newest earlier (rows heads levels fallbacks) 1
fit_start newest earlier heads levels fallbacks a b c d e =
    let n = zero_at 512 a in
    let r = zero_at 1024 b in
    let h = zero_at 1024 c in
    let l = zero_at 1024 d in
    let f = zero_at 1024 e in
    record {
      held =
          record {
            some_place = omega arith;
            few = omega arith;
            heads_length = ap length c;
            levels_length = ap length d;
            fallbacks_length = ap length e;
            head-zero = h 0;
            level-zero = l 0;
            fallback_zero = f 0;
            low = λ i. omega (arith, l i);
            small = λ i. omega (arith, h i);
            fallbacks_down = λ i k. omega (arith, f i);
          };
      newest_length = ap length a;
      earlier_length = ap length b;
      earlier_down = λ i k. omega (arith, r i);
      newest_is = λ k s.
          record { at = λ p. absurd (let w : ⊥ = omega (arith, n k) in w); after = λ j p q z. omega arith };
      earlier_is = λ i p q. absurd (let w : ⊥ = omega arith in w);
    }

-- a fact of every entry, after one is set
every_set : (P : ℕ → ℕ → Type 0) (xs : List ℕ) (n v : ℕ) → n < length xs → P n v → ((i : ℕ) → P i (get_or xs i 0))
    → (i : ℕ) → P i (get_or (set xs n v) i 0)
every_set P xs n v l new old i =
    by_eq i n
    (λ e. subst (λ (k : ℕ). P k (get_or (set xs n v) k 0)) (sym e) (subst (λ (z : ℕ). P n z) (sym (get_or-set_same xs n v 0 l)) new))
    (λ e. subst (λ (z : ℕ). P i z) (sym (get_or-set_other xs n i v 0 e)) (old i))

-- the rows with one place more
abbrev pub longer : Rows → ℕ → ℕ → ℕ → ℕ → Rows
longer w n q r f = record { heads = set w.heads n q; levels = set w.levels n r; fallbacks = set w.fallbacks n f }

module _ (newest earlier : List ℕ) (w : Rows) (n q r f : ℕ) (F : Fit newest earlier w n) (room : n < 1024)
    (small-head : q < 512) (low-level : r ≤ n) (back : f < n) where
  abbrev heads' : List ℕ
  heads' = set w.heads n q

  abbrev newest' : List ℕ
  newest' = set newest q n

  -- the newest place of the head so far
  abbrev last : ℕ
  last = get_or newest q 0

  abbrev earlier' : List ℕ
  earlier' = set earlier n last

  kept : (xs : List ℕ) (v i : ℕ) → i < n → get_or (set xs n v) i 0 ≡ get_or xs i 0
  kept xs v i l = get_or-set_other xs n i v 0 (omega arith)

  down_set : (xs : List ℕ) (v : ℕ) → length xs ≡ 1024 → Down xs → v < n → Down (set xs n v)
  down_set xs v e d l = every_set (λ i x. 0 < i → x < i) xs n v (omega arith) (λ p. l) d

  head_new : get_or heads' n 0 ≡ q
  head_new = let e = F.held.heads_length in get_or-set_same w.heads n q 0 (omega arith)

  last_low : last < n
  last_low =
      let s = F.held.some_place in
      by_eq last 0 (λ e. omega arith) (λ e. ((F.newest_is q small-head).at (omega arith)).0)

  -- what was the last below m ≤ n is so still
  latest_set : (m h k : ℕ) → m ≤ n → Latest w.heads m h k → Latest heads' m h k
  latest_set m h k l L =
      record {
        at = λ p. let a = L.at p in let b = a.0 in (b, kept w.heads q k (omega arith) ∙ a.1);
        after = λ j p s e. L.after j p s (sym (kept w.heads q j (omega arith)) ∙ e);
      }

  newest_set : (h : ℕ) → h < 512 → Latest heads' (n + 1) h (get_or newest' h 0)
  newest_set h l = by_eq h q here there
    where
      here : h ≡ q → Latest heads' (n + 1) h (get_or newest' h 0)
      here s =
          let e = F.newest_length in
          let g : get_or newest' h 0 ≡ n =
          ap (λ (z : ℕ). get_or newest' z 0) s ∙ get_or-set_same newest q n 0 (omega arith) in
          subst (λ (z : ℕ). Latest heads' (n + 1) h z) (sym g)
          (record { at = λ p. (omega arith, head_new ∙ sym s); after = λ j p k z. omega arith })

      there : (h ≡ q → ⊥) → Latest heads' (n + 1) h (get_or newest' h 0)
      there s =
          let g : get_or newest' h 0 ≡ get_or newest h 0 = get_or-set_other newest q h n 0 s in
          let L = latest_set n h (get_or newest h 0) (omega arith) (F.newest_is h l) in
          subst (λ (z : ℕ). Latest heads' (n + 1) h z) (sym g)
          (record {
            at = λ p. let a = L.at p in let b = a.0 in (omega arith, a.1);
            after = λ j p k z.
                by_eq j n (λ y. s (sym z ∙ ap (λ (x : ℕ). get_or heads' x 0) y ∙ head_new)) (λ y. L.after j p (omega arith) z);
          })

  earlier_set : (i : ℕ) → 0 < i → i < n + 1 → Latest heads' i (get_or heads' i 0) (get_or earlier' i 0)
  earlier_set i p l = by_eq i n here there
    where
      here : i ≡ n → Latest heads' i (get_or heads' i 0) (get_or earlier' i 0)
      here s =
          let e = F.earlier_length in
          let g : get_or earlier' i 0 ≡ last =
          ap (λ (z : ℕ). get_or earlier' z 0) s ∙ get_or-set_same earlier n last 0 (omega arith) in
          let h : get_or heads' i 0 ≡ q = ap (λ (z : ℕ). get_or heads' z 0) s ∙ head_new in
          rw (g, h, s) (latest_set n q last (omega arith) (F.newest_is q small-head))

      there : (i ≡ n → ⊥) → Latest heads' i (get_or heads' i 0) (get_or earlier' i 0)
      there s =
          let g : get_or earlier' i 0 ≡ get_or earlier i 0 = get_or-set_other earlier n i last 0 s in
          let h : get_or heads' i 0 ≡ get_or w.heads i 0 = kept w.heads q i (omega arith) in
          rw (g, h) (latest_set i (get_or w.heads i 0) (get_or earlier i 0) (omega arith) (F.earlier_is i p (omega arith)))

  pub fit_longer : Fit (set newest q n) (set earlier n (get_or newest q 0)) (longer w n q r f) (n + 1)
  fit_longer =
      let H = F.held in
      let s = H.some_place in
      let hl = H.heads_length in
      let ll = H.levels_length in
      record {
        held =
            record {
              some_place = omega arith;
              few = omega arith;
              heads_length = length-set w.heads n q ∙ hl;
              levels_length = length-set w.levels n r ∙ ll;
              fallbacks_length = length-set w.fallbacks n f ∙ H.fallbacks_length;
              head-zero = kept w.heads q 0 s ∙ H.head-zero;
              level-zero = kept w.levels r 0 s ∙ H.level-zero;
              fallback_zero = kept w.fallbacks f 0 s ∙ H.fallback_zero;
              low = every_set (λ i x. x ≤ i) w.levels n r (omega arith) low-level H.low;
              small = every_set (λ i x. x < 512) w.heads n q (omega arith) small-head H.small;
              fallbacks_down = down_set w.fallbacks f H.fallbacks_length H.fallbacks_down back;
            };
        newest_length = length-set newest q n ∙ F.newest_length;
        earlier_length = length-set earlier n last ∙ F.earlier_length;
        earlier_down = down_set earlier last F.earlier_length F.earlier_down last_low;
        newest_is = newest_set;
        earlier_is = earlier_set;
      }

  -- the places below n keep their chains, and the new one has the new chain
  chain_kept : (i : ℕ) → i < n → chain_of (longer w n q r f) i ≡ chain_of w i
  chain_kept i l =
      sym (chain_same w (longer w n q r f) n F.held.fallbacks_down (λ k s. sym (kept w.heads q k s))
      (λ k s. sym (kept w.levels r k s)) (λ k s. sym (kept w.fallbacks f k s)) i l)

  chain_new : chain_of (longer w n q r f) n ≡ live q r ∷ chain_of w f
  chain_new =
      let H = F.held in
      let ll = H.levels_length in
      let fl = H.fallbacks_length in
      let lev = get_or-set_same w.levels n r 0 (omega arith) in
      let fall = get_or-set_same w.fallbacks n f 0 (omega arith) in
      let d = down_set w.fallbacks f fl H.fallbacks_down back in
      rw (chain_cons (longer w n q r f) d n H.some_place, head_new, lev, fall, chain_kept f back)

  pub list_longer : list_of (longer w n q r f) (n + 1) ≡ list_of w n ++ ((live q r ∷ chain_of w f) ∷ [])
  list_longer = list_suc (longer w n q r f) n ∙ rw (chain_new, list_same (longer w n q r f) w n chain_kept)

-- ---- the places' rows: what is read of one, and one more
abbrev empty : Row
empty = record { head = 0; level = 0; earlier = 0; fallback = 0 }

module _ (xs : List Row) (p : ℕ) where
  pub head_in : {h : ℕ} → h ≡ (get_or xs p empty).head → h ≡ get_or (columns xs).heads p 0
  head_in e = e ∙ sym (get_or-map (λ (r : Row). r.head) xs p empty)

  pub level_in : {l : ℕ} → l ≡ (get_or xs p empty).level → l ≡ get_or (columns xs).levels p 0
  level_in e = e ∙ sym (get_or-map (λ (r : Row). r.level) xs p empty)

  pub fallback_in : {f : ℕ} → f ≡ (get_or xs p empty).fallback → f ≡ get_or (columns xs).fallbacks p 0
  fallback_in e = e ∙ sym (get_or-map (λ (r : Row). r.fallback) xs p empty)

  pub earlier_in : {e : ℕ} → e ≡ (get_or xs p empty).earlier → e ≡ get_or (earlier_of xs) p 0
  earlier_in e = e ∙ sym (get_or-map (λ (r : Row). r.earlier) xs p empty)

columns_set : (xs : List Row) (n : ℕ) (r : Row) → columns (set xs n r) ≡ longer (columns xs) n r.head r.level r.fallback
columns_set xs n r = λ i.
    record {
      heads = map-set (λ (y : Row). y.head) xs n r i;
      levels = map-set (λ (y : Row). y.level) xs n r i;
      fallbacks = map-set (λ (y : Row). y.fallback) xs n r i;
    }

module _ {newest : List ℕ} (xs : List Row) {n : ℕ} (F : Fit newest (earlier_of xs) (columns xs) n) (room : n < 1024)
    (r : Row) (small-head : r.head < 512) (low-level : r.level ≤ n) (back : r.fallback < n) where
  pub fit_pushed : r.earlier ≡ get_or newest r.head 0
      → Fit (set newest r.head n) (earlier_of (set xs n r)) (columns (set xs n r)) (n + 1)
  fit_pushed e =
      let after : earlier_of (set xs n r) ≡ set (earlier_of xs) n (get_or newest r.head 0) =
      map-set (λ (y : Row). y.earlier) xs n r ∙ ap (λ (z : ℕ). set (earlier_of xs) n z) e in
      rw (after, columns_set xs n r)
      (fit_longer newest (earlier_of xs) (columns xs) n r.head r.level r.fallback F room small-head low-level back)

  pub list_pushed : list_of (columns (set xs n r)) (n + 1)
      ≡ list_of (columns xs) n ++ ((live r.head r.level ∷ chain_of (columns xs) r.fallback) ∷ [])
  list_pushed =
      rw (columns_set xs n r)
      (list_longer newest (earlier_of xs) (columns xs) n r.head r.level r.fallback F room small-head low-level back)
