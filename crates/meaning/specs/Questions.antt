-- An image as the questions asked of it, whatever its form. Document 01, "The image".
--   Image               place count; fallback, level and mark of a place; the number of a place's edge; an edge's target
--   edge_of M p a       the target of the place's edge with the event, or none
--   Levels M            what an accepted image's records obey of their levels
--   named heads M p     the chain that a place and its fallbacks name: their heads with their levels
--   image_of δ out mark L  the image of a book whose chains L numbers: a place has exactly the edges of its head state
use Rattle.std.specs.Prelude.{◌≡◌, ◌≢◌, List, [], ◌∷◌, ◌++◌, map, ℕ, zero, suc, ◌+◌, ◌≤◌, ◌<◌, length, get_or, eqb}
use Rattle.std.specs.Prelude.{Option, None, Some}
use Rattle.meaning.specs.Choice.{when, then}
use Rattle.meaning.specs.Text.{Delta, Marks}
use Rattle.meaning.specs.Chain.{Chain, live, step, head, level, rest}
use Rattle.meaning.specs.Places.{number}

pub record Image : Type 0 where
  pub count : ℕ
  pub fallback : ℕ → ℕ
  pub level : ℕ → ℕ
  pub mark : ℕ → ℕ
  pub find : ℕ → ℕ → Option ℕ
  pub target : ℕ → ℕ

abbrev pub edge_of : Image → ℕ → ℕ → Option ℕ
edge_of M p a = then (M.find p a) (λ j. Some (M.target j))

pub record Levels (M : Image) : Type 0 where
  pub some_place : 0 < M.count
  pub zero-level : M.level 0 ≡ 0
  pub lower : (p : ℕ) → p < M.count → p ≢ 0 → M.fallback p < p
  pub above : (p : ℕ) → p < M.count → p ≢ 0 → M.level (M.fallback p) < M.level p
  pub target : (p a q : ℕ) → p < M.count → edge_of M p a ≡ Some q → (q < M.count) × (M.level q ≤ suc (M.level p))

-- with at most f fallbacks
abbrev pub named_within : ℕ → (ℕ → ℕ) → Image → ℕ → Chain
named_within zero heads M p = []
named_within (suc f) heads M p = when (eqb p 0) [] (live (heads p) (M.level p) ∷ named_within f heads M (M.fallback p))

abbrev pub named : (ℕ → ℕ) → Image → ℕ → Chain
named heads M p = named_within p heads M p

-- where the event stands in a list of events, counted on from j
abbrev pub index_from : ℕ → List ℕ → ℕ → Option ℕ
index_from j [] a = None
index_from j (b ∷ es) a = when (eqb b a) (Some j) (index_from (suc j) es a)

module _ (δ : Delta) (out : ℕ → List ℕ) (mark : Marks) (L : List Chain) where
  -- the events of a place's edges, those of its head
  abbrev pub events_at : ℕ → List ℕ
  events_at p = out (head (get_or L p []))

  -- the number of the edges of all lower places
  unfoldable pub first_edge : ℕ → ℕ
  first_edge zero = 0
  first_edge (suc p) = first_edge p + length (events_at p)

  -- the targets of a place's edges, in their order; those of the places below p, one place after the other
  abbrev pub targets_at : ℕ → List ℕ
  targets_at p = map (λ (a : ℕ). number L (step δ (get_or L p []) a)) (events_at p)

  unfoldable pub targets_below : ℕ → List ℕ
  targets_below zero = []
  targets_below (suc p) = targets_below p ++ targets_at p

  abbrev pub image_of : Image
  image_of =
      record {
        count = length L;
        fallback = λ p. number L (rest (get_or L p []));
        level = λ p. level (get_or L p []);
        mark = λ p. mark (head (get_or L p []));
        find = λ p a. index_from (first_edge p) (events_at p) a;
        target = λ j. get_or (targets_below (length L)) j 0;
      }
