-- An image that shows a list of chains place by place (Shows), whatever its form and by whichever key the chains are
-- told apart: its levels are right (shows_levels), and a walk over it follows the chains with exactly their failure
-- steps (shows_next, shows_walk, shows_text). A place and its fallbacks name its chain (named, shows_named); head,
-- level and fallback decide it (same_place_by). image_by: such an image for any key. Assumes nothing.
use mathlib.Core.Path.{◌≡◌, refl, sym, ap, ◌∙◌, subst}
use mathlib.Core.Logic.{◌≢◌, ◌↔◌}
use mathlib.Core.Bool.{false}
use Rattle.std.specs.Prelude.{Option, Some}
use mathlib.Core.List.{List, [], ◌∷◌, ◌++◌}
use Prim.Native.Nat.{ℕ, zero, suc, ◌+◌, ◌≤◌, ◌<◌}
use native.Mathlib.Omega.{arith}
use lib.ListN.{length, get_or}
use borrow.Author.Tests.{eq-eqb, ne_eqb}
use Rattle.meaning.specs.Choice.{then}
use Rattle.meaning.specs.Text.{Text, Delta, Marks}
use Rattle.meaning.specs.Chain.{Live, live, Chain, step, steps, chain, head, level, rest}
use Rattle.meaning.specs.Places.{Reachable}
use Rattle.meaning.specs.Questions.{Image, edge_of, Levels, named_within}
use Rattle.meaning.specs.Walk.{Stand, stand, take-edge, failing, next, walk}
use Rattle.meaning.proofs.Cases.{by_option, none_some}
use Rattle.meaning.proofs.Chain.{chain_snoc}
use Rattle.meaning.proofs.Fails.{Stacked, fails, all_fails}
use Rattle.meaning.proofs.Rest.{Away, step_away}
use Rattle.meaning.proofs.Keys.{Key, Rule, met_by, meet_by, number_by, HasBy, has_cast, get_or-has, number_by_mem}
use Rattle.meaning.proofs.Keys.{number_by_same, unique, Extends}
use Rattle.meaning.proofs.Numbering.{NumbersBy, Ordered, numbers_by_ordered}
use Rattle.meaning.proofs.Walk.{Lower, next-zero, next-step}

pub record Shows (key : Key) (δ : Delta) (mark : Marks) (L : List Chain) (M : Image) : Type 0 where
  pub places : M.count ≡ length L
  pub fallbacks : (p : ℕ) → p < length L → M.fallback p ≡ number_by key L (rest (get_or L p []))
  pub levels : (p : ℕ) → p < length L → M.level p ≡ level (get_or L p [])
  pub marks : (p : ℕ) → p < length L → M.mark p ≡ mark (head (get_or L p []))
  pub edges : (p a : ℕ) → p < length L
      → edge_of M p a ≡ then (δ (head (get_or L p [])) a) (λ q. Some (number_by key L (step δ (get_or L p []) a)))

pub reachable_step : (δ : Delta) (c : Chain) (a : ℕ) → Reachable δ c → Reachable δ (step δ c a)
reachable_step δ c a r = (r.0 ++ (a ∷ []), chain_snoc δ r.0 a ∙ ap (λ (z : Chain). step δ z a) r.1)

-- the image of a list of chains under any key; an edge's number is its target
abbrev pub image_by : Key → Delta → Marks → List Chain → Image
image_by key δ mark L =
    record {
      count = length L;
      fallback = λ p. number_by key L (rest (get_or L p []));
      level = λ p. level (get_or L p []);
      mark = λ p. mark (head (get_or L p []));
      find = λ p a. then (δ (head (get_or L p [])) a) (λ q. Some (number_by key L (step δ (get_or L p []) a)));
      target = λ j. j;
    }

pub image_by_shows : (key : Key) (δ : Delta) (mark : Marks) (L : List Chain) → Shows key δ mark L (image_by key δ mark L)
image_by_shows key δ mark L =
    record {
      places = refl;
      fallbacks = λ p l. refl;
      levels = λ p l. refl;
      marks = λ p l. refl;
      edges = λ p a l. by_option (δ (head (get_or L p [])) a) (λ e. rw e) (λ q e. rw e);
    }

module _ (key : Key) (δ : Delta) (R : Rule key δ) (L : List Chain) (O : Ordered key L) where
  -- in a list of distinct chains a place is its chain's number
  pub number_by_is : (i : ℕ) (c : Chain) → i < length L → key (get_or L i []) ≡ key c → number_by key L c ≡ i
  number_by_is i c l e =
      let m = number_by_mem key L c (get_or-has key L i c l e) in
      unique key L O.distinct (number_by key L c) i m.0 l (m.1 ∙ sym e)

  pub number_by_zero : number_by key L [] ≡ 0
  number_by_zero = number_by_is 0 [] O.some_place (ap key O.first)

  -- the place of the empty chain is place 0, and of no other
  pub empty_zero : (p : ℕ) → p < length L → key (get_or L p []) ≡ key [] → p ≡ 0
  empty_zero p l e = sym (number_by_is p [] l e) ∙ number_by_zero

  pub cons_nonzero : (p : ℕ) (x : Live) (c : Chain) → key (get_or L p []) ≡ key (x ∷ c) → p ≢ 0
  cons_nonzero p x c e z =
      let f : get_or L p [] ≡ [] = ap (λ (n : ℕ). get_or L n []) z ∙ O.first in
      let g : x ∷ c ≡ [] = R.key_none (x ∷ c) (sym e ∙ ap key f) in
      let w : suc (length c) ≡ 0 = ap {B = ℕ} length g in
      omega arith

  -- numbers once given stay
  pub number_by_stays : (K : List Chain) → Extends K L → (d : Chain) → HasBy key d K → number_by key L d ≡ number_by key K d
  number_by_stays K E d m =
      let i = number_by_mem key K d m in
      let l = i.0 in
      let k = E.longer in
      number_by_is (number_by key K d) d (omega arith) (ap key (E.kept (number_by key K d) l) ∙ i.1)

  -- one event of a compile: a chain not met is a row of head, level and the place of its fallback
  pub meet_row : (x : Live) (c : Chain) (f : ℕ) → f < length L → key (get_or L f []) ≡ key c → met_by key (x ∷ c) L ≡ false
      → meet_by key (x ∷ c) L ≡ L ++ ((x ∷ get_or L f []) ∷ [])
  meet_row x c f l e g = rw g (ap (λ (n : ℕ). L ++ ((x ∷ get_or L n []) ∷ [])) (number_by_is f c l e))

  -- the place of a chain's rest, by the chain
  rest_place : (p : ℕ) (x : Live) (c : Chain) → p < length L → key (get_or L p []) ≡ key (x ∷ c)
      → (number_by key L (rest (get_or L p [])) < p) × (key (get_or L (number_by key L (rest (get_or L p []))) []) ≡ key c)
  rest_place p x c l e = go (get_or L p []) refl
    where
      go : (d : Chain) → get_or L p [] ≡ d
          → (number_by key L (rest (get_or L p [])) < p) × (key (get_or L (number_by key L (rest (get_or L p []))) []) ≡ key c)
      go [] f = absurd (cons_nonzero p x c e (empty_zero p l (ap key f)))
      go (y ∷ d) f =
          let j = O.fallback p y d l f in
          let lt = j.1 in
          let fb : number_by key L (rest (get_or L p [])) ≡ j.0 =
          ap (λ (z : Chain). number_by key L (rest z)) f ∙ number_by_is j.0 d (omega arith) (ap key j.2) in
          let t : key d ≡ key c = sym (ap (λ (z : Chain). key (rest z)) f) ∙ R.key_rest (get_or L p []) (x ∷ c) e in
          (omega arith, ap (λ (n : ℕ). key (get_or L n [])) fb ∙ ap key j.2 ∙ t)

  -- head and rest of a place as far as the key tells, and its fallback's place
  abbrev pub SameBy : ℕ → ℕ → Live → Type 0
  SameBy i d x =
      (i ≢ 0) × (key (live (head (get_or L i [])) (level (get_or L i [])) ∷ []) ≡ key (x ∷ []))
      × (number_by key L (rest (get_or L i [])) ≡ d)

  -- the place of a longer chain, by its head and by its fallback
  pub same_place_by : (i d : ℕ) (x : Live) → i < length L → d < length L
      → (key (get_or L i []) ≡ key (x ∷ get_or L d [])) ↔ SameBy i d x
  same_place_by i d x l k = (to_place, of_place (get_or L i []) refl)
    where
      top : (c : Chain) → get_or L i [] ≡ c → key (get_or L i []) ≡ key (x ∷ get_or L d [])
          → key (live (head (get_or L i [])) (level (get_or L i [])) ∷ []) ≡ key (x ∷ [])
      top [] f e = absurd (cons_nonzero i x (get_or L d []) e (empty_zero i l (ap key f)))
      top (y ∷ c) f e =
          ap (λ (z : Chain). key (live (head z) (level z) ∷ [])) f
          ∙ ((R.key_cons y x c (get_or L d [])).0 (sym (ap key f) ∙ e)).0

      to_place : key (get_or L i []) ≡ key (x ∷ get_or L d []) → SameBy i d x
      to_place e = (
        cons_nonzero i x (get_or L d []) e,
        top (get_or L i []) refl e,
        number_by_is d (rest (get_or L i [])) k (sym (R.key_rest (get_or L i []) (x ∷ get_or L d []) e)),
      )

      of_place : (c : Chain) → get_or L i [] ≡ c → SameBy i d x → key (get_or L i []) ≡ key (x ∷ get_or L d [])
      of_place [] e h = absurd (h.0 (empty_zero i l (ap key e)))
      of_place (y ∷ c) e h =
          let j = rest_place i y c l (ap key e) in
          let hd = sym (ap (λ (z : Chain). key (live (head z) (level z) ∷ [])) e) ∙ h.1 in
          ap key e ∙ (R.key_cons y x c (get_or L d [])).1 (hd, sym j.1 ∙ ap (λ (n : ℕ). key (get_or L n [])) h.2)

  module _ (mark : Marks) (M : Image) (S : Shows key δ mark L M) where
    -- a place's fallback, by its chain
    pub fallback_by_at : (p : ℕ) (x : Live) (c : Chain) → p < length L → key (get_or L p []) ≡ key (x ∷ c)
        → (M.fallback p < p) × (key (get_or L (M.fallback p) []) ≡ key c)
    fallback_by_at p x c l e =
        subst (λ (n : ℕ). (n < p) × (key (get_or L n []) ≡ key c)) (sym (S.fallbacks p l)) (rest_place p x c l e)

    pub shows_lower : Lower M
    shows_lower p b nz = go (get_or L p []) refl
      where
        l : p < length L
        l = let k = S.places in omega arith

        go : (d : Chain) → get_or L p [] ≡ d → M.fallback p < p
        go [] f = absurd (nz (empty_zero p l (ap key f)))
        go (x ∷ d) f = (fallback_by_at p x d l (ap key f)).0

    -- A PLACE AND ITS FALLBACKS name its chain: the heads with their levels
    pub shows_named : (heads : ℕ → ℕ) → ((p : ℕ) → p < length L → heads p ≡ head (get_or L p [])) → (c : Chain) (f p : ℕ)
        → p ≤ f → p < length L → get_or L p [] ≡ c → named_within f heads M p ≡ c
    shows_named heads hs [] zero p k l g = refl
    shows_named heads hs [] (suc f) p k l g = let z : p ≡ 0 = empty_zero p l (ap key g) in rw (eq-eqb p 0 z)
    shows_named heads hs (x ∷ c) zero p k l g = absurd (cons_nonzero p x c (ap key g) (omega arith))
    shows_named heads hs (x ∷ c) (suc f) p k l g =
        let j = O.fallback p x c l g in
        let lt = j.1 in
        let fb : M.fallback p ≡ j.0 =
        S.fallbacks p l ∙ ap (λ (z : Chain). number_by key L (rest z)) g
        ∙ number_by_is j.0 c (omega arith) (ap key j.2) in
        let hd : heads p ≡ x.state = hs p l ∙ ap head g in
        let lv : M.level p ≡ x.reach = S.levels p l ∙ ap level g in
        let ih : named_within f heads M (M.fallback p) ≡ c =
        ap (λ (n : ℕ). named_within f heads M n) fb ∙ shows_named heads hs c f j.0 (omega arith) (omega arith) j.2 in
        rw (ne_eqb p 0 (cons_nonzero p x c (ap key g))) (λ i. record { state = hd i; reach = lv i } ∷ ih i)

    -- a place's edge, by its chain
    pub edge_by_at : (p a : ℕ) (c : Chain) → p < length L → key (get_or L p []) ≡ key c
        → edge_of M p a ≡ then (δ (head c) a) (λ q. Some (number_by key L (step δ c a)))
    edge_by_at p a c l e =
        S.edges p a l
        ∙ ap (λ (h : ℕ). then (δ h a) (λ q. Some (number_by key L (step δ (get_or L p []) a))))
        (R.key_head (get_or L p []) c e)
        ∙ ap (λ (n : ℕ). then (δ (head c) a) (λ q. Some n))
        (number_by_same key L (step δ (get_or L p []) a) (step δ c a) (R.key_step (get_or L p []) c a e))

    zero-edge : (a : ℕ)
        → take-edge (then (δ 0 a) (λ q. Some (number_by key L (step δ [] a)))) (stand 0 0)
        ≡ stand (number_by key L (step δ [] a)) 0
    zero-edge a = by_option (δ 0 a) (λ e. rw e (ap (λ (n : ℕ). stand n 0) (sym number_by_zero))) (λ q e. rw e)

    -- one event: the walk follows the chain, and its failure steps are the chain's
    pub shows_next : (a : ℕ) (c : Chain) (p : ℕ) → p < length L → key (get_or L p []) ≡ key c
        → next M p a ≡ stand (number_by key L (step δ c a)) (fails δ c a)
    shows_next a [] p l e =
        let z : p ≡ 0 = empty_zero p l e in
        ap (λ (n : ℕ). next M n a) z ∙ next-zero M a
        ∙ ap (λ (n : ℕ). take-edge (edge_of M n a) (stand 0 0)) (sym z)
        ∙ ap (λ (o : Option ℕ). take-edge o (stand 0 0)) (edge_by_at p a [] l e) ∙ zero-edge a
    shows_next a (x ∷ c) p l e =
        let j = fallback_by_at p x c l e in
        let lt = j.0 in
        let b : p < M.count = let k = S.places in omega arith in
        let d = step δ (x ∷ c) a in
        let s = failing (stand (number_by key L (step δ c a)) (fails δ c a)) in
        next-step M shows_lower p a b (cons_nonzero p x c e)
        ∙ ap (λ (r : Stand). take-edge (edge_of M p a) (failing r)) (shows_next a c (M.fallback p) (omega arith) j.1)
        ∙ ap (λ (o : Option ℕ). take-edge o s) (edge_by_at p a (x ∷ c) l e)
        ∙ by_option (δ x.state a) (λ f. rw f) (λ q f. rw f)

module _ (key : Key) (δ : Delta) (R : Rule key δ) (L : List Chain) (N : NumbersBy key δ L)
    (mark : Marks) (M : Image) (S : Shows key δ mark L M) where
  O : Ordered key L
  O = numbers_by_ordered key δ L N

  pub shows_has : (c : Chain) → Reachable δ c → HasBy key c L
  shows_has c r = subst (λ (z : Chain). HasBy key z L) r.1 (N.all r.0)

  -- a walk from the place of a chain follows the chain
  pub shows_walk : (t : Text) (c : Chain) → Reachable δ c
      → walk M (number_by key L c) t ≡ stand (number_by key L (steps δ c t)) (all_fails δ c t)
  shows_walk [] c r = refl
  shows_walk (a ∷ t) c r =
      let m = number_by_mem key L c (shows_has c r) in
      let h = shows_next key δ R L O mark M S a c (number_by key L c) m.0 m.1 in
      let ih = shows_walk t (step δ c a) (reachable_step δ c a r) in
      ap (λ (s : Stand). stand (walk M s.place t).place (s.failed + (walk M s.place t).failed)) h
      ∙ ap (λ (s : Stand). stand s.place (fails δ c a + s.failed)) ih

  -- from place 0: the place after a text is the place of its chain
  pub shows_text : (t : Text) → walk M 0 t ≡ stand (number_by key L (chain δ t)) (all_fails δ [] t)
  shows_text t =
      subst (λ (p : ℕ). walk M p t ≡ stand (number_by key L (chain δ t)) (all_fails δ [] t)) (number_by_zero key δ R L O)
      (shows_walk t [] ([], refl))

  -- where an edge leads: a place of the list, by its chain
  pub target_place : (p a q : ℕ) → p < length L → edge_of M p a ≡ Some q
      → (r : ℕ) × (δ (head (get_or L p [])) a ≡ Some r) × (q < length L)
      × (key (get_or L q []) ≡ key (step δ (get_or L p []) a))
  target_place p a q b e =
      let c = get_or L p [] in
      let f = sym (S.edges p a b) ∙ e in
      by_option (δ (head c) a) (λ g. none_some refl (sym (rw g) ∙ f))
      (λ r g.
      let w : ◌≡◌ {A = Option ℕ} (Some (number_by key L (step δ c a))) (Some q) = sym (rw g) ∙ f in
      let h : number_by key L (step δ c a) ≡ q = cc in
      let u = N.only p b in
      let v : key (chain δ (u.0 ++ (a ∷ []))) ≡ key (step δ c a) =
      ap key (chain_snoc δ u.0 a) ∙ R.key_step (chain δ u.0) c a u.1 in
      let h' = has_cast key (chain δ (u.0 ++ (a ∷ []))) (step δ c a) L v (N.all (u.0 ++ (a ∷ []))) in
      let m = number_by_mem key L (step δ c a) h' in (
        r,
        g,
        subst (λ (n : ℕ). n < length L) h m.0,
        subst (λ (n : ℕ). key (get_or L n []) ≡ key (step δ c a)) h m.1,
      ))

  pub shows_levels : Levels M
  shows_levels =
      let k = S.places in
      let s = O.some_place in
      record {
        some_place = omega arith;
        zero-level = S.levels 0 s ∙ ap level N.first;
        lower = shows_lower key δ R L O mark M S;
        above = λ p b nz. above p (omega arith) nz (get_or L p []) refl;
        target = λ p a q b e.
            let l : p < length L = omega arith in
            let t = target_place p a q l e in
            let n = N.near p a q l t.2 t.3 in
            let lp = S.levels p l in
            let lq = S.levels q t.2 in
            let tl = t.2 in
            (omega arith, omega arith);
      }
    where
      above : (p : ℕ) → p < length L → p ≢ 0 → (c : Chain) → get_or L p [] ≡ c → M.level (M.fallback p) < M.level p
      above p l nz [] e = absurd (nz (empty_zero key δ R L O p l (ap key e)))
      above p l nz (x ∷ c) e =
          let j = N.fallback p x c l e in
          let lt = j.1 in
          let fb : M.fallback p ≡ j.0 =
          S.fallbacks p l ∙ ap (λ (z : Chain). number_by key L (rest z)) e
          ∙ number_by_is key δ R L O j.0 c (omega arith) (ap key j.2) in
          let lf : M.level (M.fallback p) ≡ level c =
          ap (λ (n : ℕ). M.level n) fb ∙ S.levels j.0 (omega arith) ∙ ap level j.2 in
          let lp : M.level p ≡ x.reach = S.levels p l ∙ ap level e in
          let st : Stacked (x ∷ c) = subst (λ (z : Chain). Stacked z) e (N.stacked p l) in
          let k = st.0 in
          omega arith

  -- where no edge leads to state 0, no target is place 0
  pub target_away : Away δ → (p a q : ℕ) → p < length L → edge_of M p a ≡ Some q → q ≢ 0
  target_away away p a q b e z =
      let t = target_place p a q b e in
      let c = get_or L p [] in
      let w : key (step δ c a) ≡ key [] = sym t.3 ∙ ap (λ (n : ℕ). key (get_or L n [])) z ∙ ap key N.first in
      step_away δ away c a t.0 t.1 (R.key_none (step δ c a) w)
