-- The places of a book of form 1: places-number, what the list is; places_over, where there is none; places_sorted,
-- places_low, levels do not fall with the number and are at most it; place_reached, place_level. The number of a chain:
-- number-mem, number_is, number-chain, met-mem, mem-met. places-whole: the numbering by the key `whole` gives this list
-- (opening_meet, loop_opened on the way). bare-number, bare_over: the places by states alone, for books with loops.
-- Assumes nothing.
use mathlib.Core.Path.{◌≡◌, refl, sym, ap, ◌∙◌, subst}
use mathlib.Core.Logic.{inl, inr, ⊎_elim, ◌↔◌}
use mathlib.Core.Bool.{Bool, true, false, ◌||◌}
use Rattle.std.specs.Prelude.{None, Some}
use mathlib.Core.List.{List, [], ◌∷◌, ◌++◌, Memᴰ}
use Prim.Native.Nat.{ℕ, zero, suc, ◌≤◌, ◌<◌}
use native.Mathlib.Omega.{arith}
use lib.ListN.{length, get_or}
use lib.Dec.{ltb}
use borrow.Author.Tests.{ltb-true}
use Rattle.meaning.specs.Choice.{when}
use Rattle.meaning.specs.Text.{Text, Delta}
use Rattle.meaning.specs.Chain.{live, Chain, step, chain, head, level}
use Rattle.meaning.specs.Places.{same_chain, met, number, meet, meet_all, opened, grow, places}
use Rattle.meaning.specs.Places.{Reachable, Distinct, Numbers, MoreThan}
use Rattle.meaning.proofs.Cases.{by_bool, true_false}
use Rattle.meaning.proofs.Chain.{chain_snoc}
use Rattle.meaning.proofs.Book.{Names}
use Rattle.meaning.proofs.Fails.{Stacked, chain_stacked, level-step}
use Rattle.meaning.proofs.Rest.{under, step_new, short_text}
use Rattle.meaning.proofs.Keys.{met_by, number_by, settle, meet_by, meet_all_by, opened_by, grow_by, places_by}
use Rattle.meaning.proofs.Keys.{HasBy, met_has, has-met, has_cast, get_or-has, has_get_d, number_by_mem}
use Rattle.meaning.proofs.Keys.{unique, distinct_of_unique, Extends}
use Rattle.meaning.proofs.Numbering.{Opening, opening_under, opening_met}
use Rattle.meaning.proofs.Numbering.{Loop, loop_opening, loop_start, loop_next}
use Rattle.meaning.proofs.Numbering.{NumbersBy, Levelled, MoreThanBy, numbering, numbering_over}
use Rattle.meaning.proofs.Rules.{whole, whole-rule, bare, bare-rule, LevelOf, level_of}

-- a chain is met where it stands in the list
pub has-mem : (d : Chain) (L : List Chain) → HasBy whole d L → Memᴰ d L
has-mem d [] h = absurd h
has-mem d (c ∷ L) (inl e) = Memᴰ.head (sym e)
has-mem d (c ∷ L) (inr h) = Memᴰ.tail (has-mem d L h)

pub mem-has : (d : Chain) (L : List Chain) → Memᴰ d L → HasBy whole d L
mem-has d L (Memᴰ.head e) = inl (sym e)
mem-has d L (Memᴰ.tail {xs = M} m) = inr (mem-has d M m)

pub met-whole : (d : Chain) (L : List Chain) → met_by whole d L ≡ met d L
met-whole d [] = refl
met-whole d (c ∷ L) = ap (λ (b : Bool). same_chain c d || b) (met-whole d L)

pub number-whole : (L : List Chain) (d : Chain) → number_by whole L d ≡ number L d
number-whole [] d = refl
number-whole (c ∷ L) d = ap (λ (n : ℕ). when (same_chain c d) 0 (suc n)) (number-whole L d)

pub met-mem : (d : Chain) (L : List Chain) → met d L ≡ true → Memᴰ d L
met-mem d L e = has-mem d L (met_has whole d L (met-whole d L ∙ e))

pub mem-met : (d : Chain) (L : List Chain) → Memᴰ d L → met d L ≡ true
mem-met d L m = sym (met-whole d L) ∙ has-met whole d L (mem-has d L m)

pub get_or-mem : (L : List Chain) (i : ℕ) → i < length L → Memᴰ (get_or L i []) L
get_or-mem L i l = has-mem (get_or L i []) L (get_or-has whole L i (get_or L i []) l refl)

pub mem-get_or : (d : Chain) (L : List Chain) → Memᴰ d L → (i : ℕ) × (i < length L) × (get_or L i [] ≡ d)
mem-get_or d L m = has_get_d whole d L (mem-has d L m)

pub number-mem : (L : List Chain) (d : Chain) → Memᴰ d L → (number L d < length L) × (get_or L (number L d) [] ≡ d)
number-mem L d m =
    subst (λ (n : ℕ). (n < length L) × (get_or L n [] ≡ d)) (number-whole L d) (number_by_mem whole L d (mem-has d L m))

-- in a list of distinct chains a place is its chain's number
pub number_is : (L : List Chain) → Distinct L → (i : ℕ) (c : Chain) → i < length L → get_or L i [] ≡ c → number L c ≡ i
number_is L once i c l e =
    let m = number-mem L c (subst (λ (z : Chain). Memᴰ z L) e (get_or-mem L i l)) in
    once (number L c) i m.0 l (m.1 ∙ sym e)

-- by the key `whole` a list numbers the chains of all texts exactly where it does so in document 01's words
pub numbers_of_whole : (δ : Delta) (L : List Chain) → NumbersBy whole δ L → Numbers δ L
numbers_of_whole δ L N =
    record {
      all = λ t. has-mem (chain δ t) L (N.all t);
      only = λ c m. let i = mem-get_or c L m in let r = N.only i.0 i.1 in (r.0, r.1 ∙ i.2);
      once = unique whole L N.distinct;
      first = N.first;
      fallback = N.fallback;
    }

pub whole_of_numbers : (δ : Delta) (L : List Chain) → Numbers δ L → NumbersBy whole δ L
whole_of_numbers δ L N =
    record {
      all = λ t. mem-has (chain δ t) L (N.all t);
      only = λ i l.
          let r = reached i l in
          let u = short_text δ r.0 in
          (u.0, u.2 ∙ r.1, u.1 ∙ ap level r.1);
      distinct = distinct_of_unique whole L N.once;
      first = N.first;
      fallback = N.fallback;
      stacked = λ i l. stacked i l;
      near = λ i a k h b e.
          let s = level-step δ (get_or L i []) a (stacked i h) in
          let u = ap level e in
          omega arith;
      least = λ i t l e. let u = ap level e in omega arith;
    }
  where
    reached : (i : ℕ) → i < length L → Reachable δ (get_or L i [])
    reached i l = N.only (get_or L i []) (get_or-mem L i l)

    stacked : (i : ℕ) → i < length L → Stacked (get_or L i [])
    stacked i l = let r = reached i l in subst (λ (z : Chain). Stacked z) r.1 (chain_stacked δ r.0)

module _ (δ : Delta) (L : List Chain) (N : Numbers δ L) where
  pub place_reached : (i : ℕ) → i < length L → (t : Text) × (chain δ t ≡ get_or L i [])
  place_reached i l = N.only (get_or L i []) (get_or-mem L i l)

  pub place_stacked : (i : ℕ) → i < length L → Stacked (get_or L i [])
  place_stacked i l = let r = place_reached i l in subst (λ (z : Chain). Stacked z) r.1 (chain_stacked δ r.0)

  -- a place's level is its head's least reach over the texts that give its chain, and the length of the shortest of them
  pub place_level : (i : ℕ) → i < length L → LevelOf whole δ (get_or L i []) (level (get_or L i []))
  place_level = level_of whole δ (whole-rule δ) L (whole_of_numbers δ L N)

  -- a text's chain is that of its place
  pub number-chain : (t : Text) → (number L (chain δ t) < length L) × (get_or L (number L (chain δ t)) [] ≡ chain δ t)
  number-chain t = number-mem L (chain δ t) (N.all t)

  pub some_place : 0 < length L
  some_place = let l = (number-chain []).0 in omega arith

  pub number-zero : number L [] ≡ 0
  number-zero = number_is L N.once 0 [] some_place N.first

  -- the chain after an event has a place too
  pub number_step : (i a : ℕ) → i < length L
      → (number L (step δ (get_or L i []) a) < length L)
      × (get_or L (number L (step δ (get_or L i []) a)) [] ≡ step δ (get_or L i []) a)
  number_step i a l =
      let r = place_reached i l in
      let e : chain δ (r.0 ++ (a ∷ [])) ≡ step δ (get_or L i []) a =
      chain_snoc δ r.0 a ∙ ap (λ (z : Chain). step δ z a) r.1 in
      number-mem L (step δ (get_or L i []) a) (subst (λ (z : Chain). Memᴰ z L) e (N.all (r.0 ++ (a ∷ []))))

module _ (δ : Delta) (c : Chain) (p : ℕ) (L : List Chain) (O : Opening whole δ c p L) where
  -- a chain that is new stands on its fallback's own chain
  settled : (b : ℕ) → met (step δ c b) L ≡ false → step δ c b ≡ settle whole (step δ c b) L
  settled b f =
      let u = opening_under whole δ (whole-rule δ) c p L O b in
      ⊎_elim
      (λ g.
      let h = has-met whole (step δ c b) L (has_cast whole (under δ c b) (step δ c b) L (sym g) u) in
      true_false (sym (met-whole (step δ c b) L) ∙ h) f)
      (λ g.
      let j = number_by_mem whole L (under δ c b) u in
      g.1 ∙ ap (λ (z : Chain). live g.0 (suc (level c)) ∷ z) (sym j.1)
      ∙ sym (ap (λ (z : Chain). settle whole z L) g.1))
      (step_new δ c b)

  pub meet-whole : (b : ℕ) → meet (step δ c b) L ≡ meet_by whole (step δ c b) L
  meet-whole b =
      by_bool (met (step δ c b) L) (λ f. rw (met-whole (step δ c b) L, f))
      (λ f. rw (met-whole (step δ c b) L, f) (ap (λ (z : Chain). L ++ (z ∷ [])) (settled b f)))

  -- one event of the place that is being opened
  pub opening_meet : (b : ℕ)
      → Opening whole δ c p (meet (step δ c b) L) × Extends L (meet (step δ c b) L)
      × Memᴰ (step δ c b) (meet (step δ c b) L)
  opening_meet b =
      let m = opening_met whole δ (whole-rule δ) c p L O b in
      subst (λ (M : List Chain). Opening whole δ c p M × Extends L M × Memᴰ (step δ c b) M) (sym (meet-whole b))
      (m.0, m.1, has-mem (step δ c b) (meet_by whole (step δ c b) L) m.2)

meet_all-whole : (δ : Delta) (c : Chain) (p : ℕ) (es : List ℕ) (L : List Chain) → Opening whole δ c p L
    → meet_all δ c es L ≡ meet_all_by whole δ c es L
meet_all-whole δ c p [] L O = refl
meet_all-whole δ c p (b ∷ es) L O =
    ap (λ (z : List Chain). meet_all δ c es z) (meet-whole δ c p L O b)
    ∙ meet_all-whole δ c p es (meet_by whole (step δ c b) L) (opening_met whole δ (whole-rule δ) c p L O b).0

module _ (δ : Delta) (out : ℕ → List ℕ) (names : Names δ out) where
  opened-whole : (p : ℕ) (L : List Chain) → Loop whole δ p L → p < length L → opened δ out p L ≡ opened_by whole δ out p L
  opened-whole p L I l =
      meet_all-whole δ (get_or L p []) p (out (head (get_or L p []))) L (loop_opening whole δ p L I l)

  pub loop_opened : (p : ℕ) (L : List Chain) → Loop whole δ p L → p < length L → Loop whole δ (suc p) (opened δ out p L)
  loop_opened p L I l =
      subst (λ (z : List Chain). Loop whole δ (suc p) z) (sym (opened-whole p L I l))
      (loop_next whole δ (whole-rule δ) out names p L I l)

  grow-whole : (f : ℕ) (t : Bool) (p : ℕ) (L : List Chain) → Loop whole δ p L → ltb p (length L) ≡ t
      → grow δ out f t p L ≡ grow_by whole δ out f t p L
  grow-whole zero false p L I e = refl
  grow-whole zero true p L I e = refl
  grow-whole (suc f) false p L I e = refl
  grow-whole (suc f) true p L I e =
      let l = ltb-true p (length L) e in
      let M = opened_by whole δ out p L in
      ap (λ (z : List Chain). grow δ out f (ltb (suc p) (length z)) (suc p) z) (opened-whole p L I l)
      ∙ grow-whole f (ltb (suc p) (length M)) (suc p) M (loop_next whole δ (whole-rule δ) out names p L I l) refl

  -- THE SAME LIST
  pub places-whole : (N : ℕ) → places δ out N ≡ places_by whole δ out N
  places-whole N = grow-whole N true 0 ([] ∷ []) (loop_start whole δ) refl

  numbered : (N : ℕ) (L : List Chain) → places δ out N ≡ Some L → NumbersBy whole δ L × Levelled L × (length L ≤ N)
  numbered N L e = numbering whole δ (whole-rule δ) out names N L (sym (places-whole N) ∙ e)

  -- THE PLACES
  pub places-number : (N : ℕ) (L : List Chain) → places δ out N ≡ Some L → Numbers δ L × (length L ≤ N)
  places-number N L e = let g = numbered N L e in (numbers_of_whole δ L g.0, g.2)

  pub places_sorted : (N : ℕ) (L : List Chain) → places δ out N ≡ Some L → (i j : ℕ) → i ≤ j → j < length L
      → level (get_or L i []) ≤ level (get_or L j [])
  places_sorted N L e = (numbered N L e).1.sorted

  pub places_low : (N : ℕ) (L : List Chain) → places δ out N ≡ Some L → (i : ℕ) → i < length L → level (get_or L i []) ≤ i
  places_low N L e = (numbered N L e).1.low

  -- refused exactly where there are more than N
  pub places_over : (N : ℕ) → (places δ out N ≡ None) ↔ MoreThan δ N
  places_over N =
      let o = numbering_over whole δ (whole-rule δ) out names N in (
        (λ e. plain (o.0 (sym (places-whole N) ∙ e))),
        λ m. places-whole N ∙ o.1 (by_key m),
      )
    where
      plain : MoreThanBy whole δ N → MoreThan δ N
      plain m = (
        m.0,
        m.1,
        unique whole m.0 m.2,
        λ c k. let i = mem-get_or c m.0 k in let r = m.3 i.0 i.1 in (r.0, r.1 ∙ i.2),
      )

      by_key : MoreThan δ N → MoreThanBy whole δ N
      by_key m = (
        m.0,
        m.1,
        distinct_of_unique whole m.0 m.2,
        λ i l. m.3 (get_or m.0 i []) (get_or-mem m.0 i l),
      )

  -- BOOKS WITH LOOPS: states alone
  pub bare-number : (N : ℕ) (L : List Chain) → places_by bare δ out N ≡ Some L
      → NumbersBy bare δ L × Levelled L × (length L ≤ N)
  bare-number = numbering bare δ (bare-rule δ) out names

  pub bare_over : (N : ℕ) → (places_by bare δ out N ≡ None) ↔ MoreThanBy bare δ N
  bare_over = numbering_over bare δ (bare-rule δ) out names
