-- Laws of `seek`, the search of a place's edges: one step; edges in front that do not match are skipped, edges at the end
-- cut; where events rise, the search is halved, and an event stands in a window.
--   seek-step, seek_end, seek_found     one step; none left; what is found stands among the edges, with the event
--   seek_hit, seek_miss                 one step, at the event that is sought and at another
--   skip, cut                           edges that do not match
--   rising_part, turn_either            where events rise: a part of them; one turn of the halving
--   window, no_window                   an event among n rising bytes has an index from event + n - 256 to event
-- Assumes nothing.
use mathlib.Core.Path.{◌≡◌, refl, sym, ◌∙◌, subst}
use mathlib.Core.Logic.{◌≢◌, ◌⊎◌, inl, inr, ⊎_elim}
use Rattle.std.specs.Prelude.{Option, None, Some}
use Prim.Native.Nat.{ℕ, zero, suc, ◌+◌, ◌-◌, ◌<◌, ◌≤◌, min}
use native.Mathlib.Nat.{eq-or-lt_of_le, le_trans}
use native.Mathlib.Omega.{arith}
use lib.Dec.{eqb}
use borrow.Author.Tests.{eq-eqb, ne_eqb, eqb-true}
use Rattle.meaning.specs.Choice.{when}
use Rattle.meaning.proofs.Cases.{by_bool, by_order, none_some}
use Rattle.image.specs.Form.{EdgeRecord}
use Rattle.image.specs.Questions.{seek}
use Rattle.image.specs.Held.{Rising}

le_or_lt : (m n : ℕ) → (m ≤ n) ⊎ (n < m)
le_or_lt m n = by_order m n (λ l. inl (omega arith)) (λ e. inl (omega arith)) (λ l. inr l)

module _ (E : ℕ → EdgeRecord) where
  pub seek-step : (a left j : ℕ) → 0 < left
      → seek E a left j ≡ when (eqb (E j).event a) (Some j) (seek E a (left - 1) (j + 1))
  unfolding seek
  seek-step a zero j h = absurd (omega arith)
  seek-step a (suc left) j h = let e : suc left - 1 ≡ left = omega arith in rw e

  pub seek_end : (a left j : ℕ) → left ≡ 0 → seek E a left j ≡ None
  unfolding seek
  seek_end a left j z = rw z

  -- with e the event at j: it is the one that is sought, or another
  pub seek_hit : (a left j e : ℕ) → 0 < left → e ≡ (E j).event → e ≡ a → seek E a left j ≡ Some j
  seek_hit a left j e h ee ea = rw (seek-step a left j h, ← ee, eq-eqb e a ea)

  pub seek_miss : (a left m j e : ℕ) → left ≡ m + 1 → e ≡ (E j).event → e ≢ a → seek E a left j ≡ seek E a m (j + 1)
  seek_miss a left m j e h ee ea =
      let f : left - 1 ≡ m = omega arith in
      rw (seek-step a left j (omega arith), ← ee, ne_eqb e a ea, f)

  pub seek_found : (a left j k : ℕ) → seek E a left j ≡ Some k → (j ≤ k) × (k < j + left) × ((E k).event ≡ a)
  unfolding seek
  seek_found a zero j k e = none_some refl e
  seek_found a (suc left) j k e =
      by_bool (eqb (E j).event a)
      (λ b.
      let f : ◌≡◌ {A = Option ℕ} (Some j) (Some k) = rw b at e in
      let g : j ≡ k = cc in
      let v : (E j).event ≡ a = eqb-true _ _ b in
      (omega arith, omega arith, subst (λ (i : ℕ). (E i).event ≡ a) g v))
      (λ b.
      let i = seek_found a left (j + 1) k (rw b at e) in
      let l = i.0 in
      let u = i.1 in
      (omega arith, omega arith, i.2))

  -- the i-th edge from the next one on
  later : (j i : ℕ) → (E (j + 1 + i)).event ≡ (E (j + suc i)).event
  later j i = let e : j + 1 + i ≡ j + suc i = omega arith in rw e

  here : (j : ℕ) → (E j).event ≡ (E (j + 0)).event
  here j = let e : j + 0 ≡ j = omega arith in rw e

  pub skip : (a h n j : ℕ) → h ≤ n → ((i : ℕ) → i < h → (E (j + i)).event ≢ a) → seek E a n j ≡ seek E a (n - h) (j + h)
  skip a zero n j l miss = let e : n - 0 ≡ n = omega arith in let f : j + 0 ≡ j = omega arith in rw (e, f)
  skip a (suc h) n j l miss =
      let m : (E j).event ≢ a = λ z. miss 0 (omega arith) (sym (here j) ∙ z) in
      let i = skip a h (n - 1) (j + 1) (omega arith) (λ k b z. miss (suc k) (omega arith) (sym (later j k) ∙ z)) in
      let e : n - 1 - h ≡ n - suc h = omega arith in
      let f : j + 1 + h ≡ j + suc h = omega arith in
      rw (seek-step a n j (omega arith), ne_eqb _ _ m, i, e, f)

  pub cut : (a m n j : ℕ) → m ≤ n → ((i : ℕ) → m ≤ i → i < n → (E (j + i)).event ≢ a) → seek E a n j ≡ seek E a m j
  unfolding seek
  cut a zero zero j l miss = refl
  cut a zero (suc n) j l miss =
      let z : (E j).event ≢ a = λ z. miss 0 (omega arith) (omega arith) (sym (here j) ∙ z) in
      rw (ne_eqb _ _ z)
      (cut a zero n (j + 1) (omega arith) (λ k u b z. miss (suc k) (omega arith) (omega arith) (sym (later j k) ∙ z)))
  cut a (suc m) zero j l miss = absurd (omega arith)
  cut a (suc m) (suc n) j l miss =
      let i = cut a m n (j + 1) (omega arith)
      (λ k u b z. miss (suc k) (omega arith) (omega arith) (sym (later j k) ∙ z)) in
      rw i

  -- ---- events that rise
  rising_from : (h n j : ℕ) → h ≤ n → Rising E j n → Rising E (j + h) (n - h)
  rising_from h n j l up i k b c =
      let u = up (h + i) (h + k) (omega arith) (omega arith) in
      let e : j + h + i ≡ j + (h + i) = omega arith in
      let f : j + h + k ≡ j + (h + k) = omega arith in
      rw (e, f) u

  rising_cut : (m n j : ℕ) → m ≤ n → Rising E j n → Rising E j m
  rising_cut m n j l up i k b c = up i k b (omega arith)

  pub rising_part : (n j lo hi : ℕ) → lo ≤ hi → hi ≤ n → Rising E j n → Rising E (j + lo) (hi - lo)
  rising_part n j lo hi l u up = rising_from lo hi j l (rising_cut hi n j u up)

  -- halved: an event at h that is not above leaves what stands from h on; one that is above leaves what stands before
  upper : (a h n j : ℕ) → Rising E j n → h < n → (E (j + h)).event ≤ a → seek E a n j ≡ seek E a (n - h) (j + h)
  upper a h n j up l le = skip a h n j (omega arith) (λ i b z. let u = up i h b l in omega arith)

  lower : (a h m n j : ℕ) → Rising E j n → h ≤ m → m ≤ n → h < n → a < (E (j + h)).event → seek E a n j ≡ seek E a m j
  lower a h m n j up k l b lt = cut a m n j l (λ i u c z. above i u c z)
    where
      above : (i : ℕ) → m ≤ i → i < n → (E (j + i)).event ≢ a
      above i u c z =
          ⊎_elim (λ e. let f : (E (j + h)).event ≡ a = rw e z in omega arith) (λ b. let v = up h i b c in omega arith)
          (eq-or-lt_of_le (le_trans k u))

  -- one turn of the halving, with h = n / 2
  turn_up : (a h n j k : ℕ) → Rising E j n → h < n → (E (j + h)).event ≤ a → k ≡ j + h
      → Rising E k (n - h) × (seek E a n j ≡ seek E a (n - h) k)
  turn_up a h n j k up l le e = rw e (rising_from h n j (omega arith) up, upper a h n j up l le)

  turn_down : (a h n j k : ℕ) → Rising E j n → h + h ≤ n → h < n → a < (E (j + h)).event → k ≡ j
      → Rising E k (n - h) × (seek E a n j ≡ seek E a (n - h) k)
  turn_down a h n j k up l u lt e = rw e
      (rising_cut (n - h) n j (omega arith) up, lower a h (n - h) n j up (omega arith) (omega arith) u lt)

  -- with e the event at h
  pub turn_either : (a h n j k e : ℕ) → Rising E j n → h + h ≤ n → h < n → e ≡ (E (j + h)).event → (e ≤ a → k ≡ j + h)
      → (a < e → k ≡ j) → (k + (n - h) ≤ j + n) × Rising E k (n - h) × (seek E a n j ≡ seek E a (n - h) k)
  turn_either a h n j k e up l u is reach stay =
      ⊎_elim
      (λ le.
      let f = reach le in
      let t = turn_up a h n j k up u (omega arith) f in
      (omega arith, t.0, t.1))
      (λ lt.
      let f = stay lt in
      let t = turn_down a h n j k up l u (omega arith) f in
      (omega arith, t.0, t.1))
      (le_or_lt e a)

  -- d edges on, the event is greater by d at least
  spread : (n j : ℕ) → Rising E j n → (d i : ℕ) → i + d < n → (E (j + i)).event + d ≤ (E (j + (i + d))).event
  spread n j up zero i b = let e : i + 0 ≡ i = omega arith in rw e (omega arith)
  spread n j up (suc d) i b =
      let k = spread n j up d i (omega arith) in
      let u = up (i + d) (i + suc d) (omega arith) b in
      omega arith

  module _ (a n j : ℕ) (up : Rising E j n) where
    low_event : ((i : ℕ) → i < n → (E (j + i)).event < 256) → (i : ℕ) → i < n → i < a + n - 256 → (E (j + i)).event ≢ a
    low_event small i b l z =
        let e : i + (n - 1 - i) ≡ n - 1 = omega arith in
        let s = rw e at (spread n j up (n - 1 - i) i (omega arith)) in
        let t = small (n - 1) (omega arith) in
        omega arith

    high_event : (i : ℕ) → i < n → a + 1 ≤ i → (E (j + i)).event ≢ a
    high_event i b l z =
        let e : 0 + i ≡ i = omega arith in
        let s = rw e at (spread n j up i 0 (omega arith)) in
        omega arith

    module _ (small : (i : ℕ) → i < n → (E (j + i)).event < 256) (lo hi : ℕ) (el : lo ≡ a + n - 256)
        (eh : hi ≡ min (a + 1) n) where
      pub window : lo ≤ hi → seek E a n j ≡ seek E a (hi - lo) (j + lo)
      window l =
          cut a hi n j (omega arith) (λ i u b. high_event i b (omega arith))
          ∙ skip a lo hi j l (λ i b. low_event small i (omega arith) (omega arith))

      pub no_window : hi ≤ lo → seek E a n j ≡ None
      no_window l =
          cut a hi n j (omega arith) (λ i u b. high_event i b (omega arith))
          ∙ skip a hi hi j (omega arith) (λ i b. low_event small i (omega arith) (omega arith))
          ∙ seek_end a (hi - hi) (j + hi) (omega arith)
