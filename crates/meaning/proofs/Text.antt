-- A text read from its end: `last δ h n` is where the last n events lead, the newest first in h; leads_last and
-- last_leads say that these are the endings of the text. And the laws of `events`, all that is used of it elsewhere:
-- events_nil, events-one, events-append, events_cons, events_snoc, events-length. Assumes nothing.
use mathlib.Core.Path.{◌≡◌, refl, sym, ap, ◌∙◌}
use Rattle.std.specs.Prelude.{Option, None, Some}
use mathlib.Core.List.{List, [], ◌∷◌, ◌++◌, reverse, reverse_aux, reverse_aux-append}
use Prim.Native.Nat.{ℕ, zero, suc, ◌+◌, ◌-◌, ◌≤◌}
use native.Mathlib.Omega.{arith}
use native.Mathlib.Nat.{zero-add, add-zero}
use lib.ListN.{length, take, drop, take-append-drop, length-drop, length-reverse}
use Rattle.meaning.specs.Choice.{then}
use Rattle.meaning.specs.Text.{Text, events, Delta, read, Leads}
use Rattle.meaning.proofs.Cases.{by_option, none_some}

pub events_nil : events [] ≡ []
unfolding events
events_nil = refl

pub events-append : (s t : List ℕ) → events (s ++ t) ≡ events s ++ events t
unfolding events
events-append s t = refl

pub events-length : (t : List ℕ) → length (events t) ≤ length t
unfolding events
events-length t = omega arith

-- every byte is an event
pub events-one : (a : ℕ) → events (a ∷ []) ≡ a ∷ []
unfolding events
events-one a = refl

pub events_cons : (a : ℕ) (t : List ℕ) → events (a ∷ t) ≡ a ∷ events t
events_cons a t = events-append (a ∷ []) t ∙ ap (λ (u : Text). u ++ events t) (events-one a)

pub events_snoc : (t : List ℕ) (a : ℕ) → events (t ++ (a ∷ [])) ≡ events t ++ (a ∷ [])
events_snoc t a = events-append t (a ∷ []) ∙ ap (λ (u : Text). events t ++ u) (events-one a)

module _ (δ : Delta) where
  abbrev pub last : Text → ℕ → Option ℕ
  last h zero = Some 0
  last [] (suc n) = None
  last (a ∷ h) (suc n) = then (last h n) (λ p. δ p a)

  pub then_some : (h : Text) (a n q : ℕ) → last (a ∷ h) (suc n) ≡ Some q
      → (p : ℕ) × (last h n ≡ Some p) × (δ p a ≡ Some q)
  then_some h a n q e = by_option (last h n) (λ f. none_some refl (sym (rw f) ∙ e)) (λ p f. (p, f, sym (rw f) ∙ e))

  pub some_then : (h : Text) (a n p : ℕ) → last h n ≡ Some p → last (a ∷ h) (suc n) ≡ δ p a
  some_then h a n p e = rw e

  pub last_length : (h : Text) (n q : ℕ) → last h n ≡ Some q → n ≤ length h
  last_length h zero q e = omega arith
  last_length [] (suc n) q e = none_some refl e
  last_length (a ∷ h) (suc n) q e = let t = then_some h a n q e in let l = last_length h n t.0 t.1 in omega arith

  -- the last n events are the last n events, whatever came before
  pub last_append : (h g : Text) (n : ℕ) → n ≤ length h → last (h ++ g) n ≡ last h n
  last_append h g zero l = refl
  last_append [] g (suc n) l = absurd (let w : ⊥ = omega arith in w)
  last_append (a ∷ h) g (suc n) l = let i = last_append h g n (omega arith) in rw i

  then_end : (o : Option ℕ) → o ≡ then o (λ p. Some p)
  then_end None = refl
  then_end (Some p) = refl

  then_assoc : (o : Option ℕ) (f g : ℕ → Option ℕ) → then (then o f) g ≡ then o (λ p. then (f p) g)
  then_assoc None f g = refl
  then_assoc (Some p) f g = refl

  -- a word read on from where the last k events lead
  last_read : (w h : Text) (k : ℕ) → last (reverse_aux w h) (length w + k) ≡ then (last h k) (λ p. read δ p w)
  last_read [] h k = rw zero-add (then_end (last h k))
  last_read (a ∷ w) h k =
      let m : suc (length w) + k ≡ length w + suc k = omega arith in
      ap (λ (n : ℕ). last (reverse_aux w (a ∷ h)) n) m ∙ last_read w (a ∷ h) (suc k)
      ∙ then_assoc (last h k) (λ p. δ p a) (λ p. read δ p w)

  last_ending : (s w : Text) → last (reverse (s ++ w)) (length w) ≡ read δ 0 w
  last_ending s w = rw (reverse_aux-append, ← (add-zero (length w))) (last_read w (reverse s) 0)

  pub leads_last : (t : Text) (q n : ℕ) → Leads δ t q n → last (reverse t) n ≡ Some q
  leads_last t q n l =
      ap {B = Option ℕ} (λ (u : Text). last (reverse u) n) (sym l.2)
      ∙ ap (λ (m : ℕ). last (reverse (l.0 ++ l.1)) m) (sym l.3)
      ∙ last_ending l.0 l.1 ∙ l.4

  pub last_leads : (t : Text) (q n : ℕ) → last (reverse t) n ≡ Some q → Leads δ t q n
  last_leads t q n e =
      let k = length t - n in
      let fits : n ≤ length t = rw length-reverse at (last_length (reverse t) n q e) in
      let whole : take k t ++ drop k t ≡ t = take-append-drop k t in
      let len : length (drop k t) ≡ n = omega (arith, length-drop k t) in (
        take k t,
        drop k t,
        whole,
        len,
        sym (last_ending (take k t) (drop k t))
            ∙ ap (λ (m : ℕ). last (reverse (take k t ++ drop k t)) m) len
            ∙ ap (λ (u : Text). last (reverse u) n) whole ∙ e,
      )

-- every text is the events of a log
pub events_all : (t : Text) → events t ≡ t
events_all [] = events_nil
events_all (a ∷ t) = events_cons a t ∙ ap (λ (u : Text). a ∷ u) (events_all t)
