-- The image of a book walks in step with the book: its levels are right (image_levels), and from place 0 the walk over
-- a text stands at the place of the text's chain with exactly the chain's failure steps (image_text; image_next,
-- image_walk), which names exactly the live states (image_named, image_chain); each place is reached, and no two name
-- one chain (image_reached, image_apart). fallback_at; image_away: no target is place 0 where edges rise. same_place,
-- bare-same: head, level and fallback decide a chain; by states alone head and fallback do. Assumes nothing.
use mathlib.Core.Path.{◌≡◌, refl, sym, ap, ◌∙◌, subst}
use mathlib.Core.Logic.{◌≢◌, ◌↔◌}
use Rattle.std.specs.Prelude.{Some}
use mathlib.Core.List.{List, [], ◌∷◌}
use Prim.Native.Nat.{ℕ, ◌<◌}
use native.Mathlib.Omega.{arith}
use lib.ListN.{length, get_or}
use Rattle.meaning.specs.Choice.{then}
use Rattle.meaning.specs.Text.{Text, Delta, Marks}
use Rattle.meaning.specs.Chain.{Live, live, Chain, IsChain, step, steps, chain, head, level, rest}
use Rattle.meaning.specs.Places.{number, Reachable, Numbers}
use Rattle.meaning.specs.Questions.{edge_of, Levels, image_of, named}
use Rattle.meaning.specs.Walk.{Stand, stand, next, walk}
use Rattle.meaning.proofs.Chain.{chain_is}
use Rattle.meaning.proofs.Book.{Names, Only}
use Rattle.meaning.proofs.Edges.{edge_is}
use Rattle.meaning.proofs.Fails.{fails, all_fails}
use Rattle.meaning.proofs.Keys.{number_by, number_by_mem}
use Rattle.meaning.proofs.Numbering.{NumbersBy, Ordered, numbers_by_ordered}
use Rattle.meaning.proofs.Places.{number-whole, whole_of_numbers, number-chain, number_is, place_reached}
use Rattle.meaning.proofs.Rest.{Away}
use Rattle.meaning.proofs.Rules.{whole, whole-rule, bare, bare-rule}
use Rattle.meaning.proofs.Shows.{Shows, same_place_by, fallback_by_at, target_away, shows_has, shows_levels}
use Rattle.meaning.proofs.Shows.{shows_named, shows_next, shows_walk, shows_text}

module _ (L : List Chain) (i d q r : ℕ) (l : i < length L) (k : d < length L) where
  -- with reaches, head, level and fallback tell a chain met again
  pub same_place : (δ : Delta) → Ordered whole L → (get_or L i [] ≡ live q r ∷ get_or L d [])
      ↔ ((i ≢ 0) × (head (get_or L i []) ≡ q) × (level (get_or L i []) ≡ r) × (number L (rest (get_or L i [])) ≡ d))
  same_place δ O =
      let s = same_place_by whole δ (whole-rule δ) L O i d (live q r) l k in
      let n = number-whole L (rest (get_or L i [])) in (
        (λ e. let h = s.0 e in (h.0, ap head h.1, ap level h.1, sym n ∙ h.2)),
        (λ h. s.1 (h.0, (λ j. record { state = h.1 j; reach = h.2 j } ∷ []), n ∙ h.3)),
      )

  -- without them, head and fallback alone
  pub bare-same : (δ : Delta) → Ordered bare L → (bare (get_or L i []) ≡ bare (live q r ∷ get_or L d []))
      ↔ ((i ≢ 0) × (head (get_or L i []) ≡ q) × (number_by bare L (rest (get_or L i [])) ≡ d))
  bare-same δ O =
      let s = same_place_by bare δ (bare-rule δ) L O i d (live q r) l k in (
        (λ e. let h = s.0 e in (h.0, ap head h.1, h.2)),
        (λ h. s.1 (h.0, (λ j. record { state = h.1 j; reach = 0 } ∷ []), h.2)),
      )

module _ (δ : Delta) (out : ℕ → List ℕ) (mark : Marks) (L : List Chain) (names : Names δ out) (only : Only δ out) where
  pub image_shows : Shows whole δ mark L (image_of δ out mark L)
  image_shows =
      record {
        places = refl;
        fallbacks = λ p l. sym (number-whole L (rest (get_or L p [])));
        levels = λ p l. refl;
        marks = λ p l. refl;
        edges = λ p a l.
            let c = get_or L p [] in
            edge_is δ out mark L names only p a l
            ∙ ap (λ (n : ℕ). then (δ (head c) a) (λ q. Some n)) (sym (number-whole L (step δ c a)));
      }

  module _ (N : Numbers δ L) where
    W : NumbersBy whole δ L
    W = whole_of_numbers δ L N

    O : Ordered whole L
    O = numbers_by_ordered whole δ L W

    pub image_levels : Levels (image_of δ out mark L)
    image_levels = shows_levels whole δ (whole-rule δ) L W mark (image_of δ out mark L) image_shows

    pub fallback_at : (p : ℕ) (x : Live) (c : Chain) → p < length L → get_or L p [] ≡ x ∷ c
        → ((image_of δ out mark L).fallback p < p) × (get_or L ((image_of δ out mark L).fallback p) [] ≡ c)
    fallback_at p x c l e = fallback_by_at whole δ (whole-rule δ) L O mark (image_of δ out mark L) image_shows p x c l e

    -- the chain that a place of the image names by its fallbacks
    abbrev pub chain_at : ℕ → Chain
    chain_at p = named (λ q. head (get_or L q [])) (image_of δ out mark L) p

    -- A PLACE AND ITS FALLBACKS name its chain
    pub image_named : (p : ℕ) → p < length L → chain_at p ≡ get_or L p []
    image_named p l =
        let heads : ℕ → ℕ = λ q. head (get_or L q []) in
        shows_named whole δ (whole-rule δ) L O mark (image_of δ out mark L) image_shows heads (λ q k. refl)
        (get_or L p []) p p (omega arith) l refl

    pub image_away : Away δ → (p a q : ℕ) → p < length L → edge_of (image_of δ out mark L) p a ≡ Some q → q ≢ 0
    image_away = target_away whole δ (whole-rule δ) L W mark (image_of δ out mark L) image_shows

    -- one event: the walk follows the chain, and its failure steps are the chain's
    pub image_next : (c : Chain) (a : ℕ) → Reachable δ c
        → next (image_of δ out mark L) (number L c) a ≡ stand (number L (step δ c a)) (fails δ c a)
    image_next c a r =
        let I = image_of δ out mark L in
        let m = number_by_mem whole L c (shows_has whole δ (whole-rule δ) L W mark I image_shows c r) in
        ap (λ (p : ℕ). next I p a) (sym (number-whole L c))
        ∙ shows_next whole δ (whole-rule δ) L O mark I image_shows a c (number_by whole L c) m.0 m.1
        ∙ ap (λ (p : ℕ). stand p (fails δ c a)) (number-whole L (step δ c a))

    pub image_walk : (c : Chain) (t : Text) → Reachable δ c
        → walk (image_of δ out mark L) (number L c) t ≡ stand (number L (steps δ c t)) (all_fails δ c t)
    image_walk c t r =
        let I = image_of δ out mark L in
        ap (λ (p : ℕ). walk I p t) (sym (number-whole L c))
        ∙ shows_walk whole δ (whole-rule δ) L W mark I image_shows t c r
        ∙ ap (λ (p : ℕ). stand p (all_fails δ c t)) (number-whole L (steps δ c t))

    -- FROM PLACE 0: the place after a text is the place of its chain
    pub image_text : (t : Text) → walk (image_of δ out mark L) 0 t ≡ stand (number L (chain δ t)) (all_fails δ [] t)
    image_text t =
        shows_text whole δ (whole-rule δ) L W mark (image_of δ out mark L) image_shows t
        ∙ ap (λ (p : ℕ). stand p (all_fails δ [] t)) (number-whole L (chain δ t))

    -- so it names exactly the live states, each once with its reach, greatest first
    pub image_chain : (t : Text) → IsChain δ t (chain_at (walk (image_of δ out mark L) 0 t).place)
    image_chain t =
        let I = image_of δ out mark L in
        let n = number-chain δ L N t in
        let at : (walk I 0 t).place ≡ number L (chain δ t) = ap (λ (s : Stand). s.place) (image_text t) in
        let names-it : chain_at (walk I 0 t).place ≡ chain δ t =
        ap (λ (p : ℕ). chain_at p) at ∙ image_named (number L (chain δ t)) n.0 ∙ n.1 in
        subst (λ (c : Chain). IsChain δ t c) (sym names-it) (chain_is δ t)

    -- some log reaches each place, and no two places name the same chain
    pub image_reached : (p : ℕ) → p < length L → (t : Text) × ((walk (image_of δ out mark L) 0 t).place ≡ p)
    image_reached p l =
        let r = place_reached δ L N p l in
        (r.0, ap (λ (s : Stand). s.place) (image_text r.0) ∙ number_is L N.once p (chain δ r.0) l (sym r.1))

    pub image_apart : (p q : ℕ) → p < length L → q < length L
        → chain_at p ≡ chain_at q → p ≡ q
    image_apart p q l k e = N.once p q l k (sym (image_named p l) ∙ e ∙ image_named q k)
