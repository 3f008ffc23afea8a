-- The work arrays of a compile: for each place its head, its level and its fallback; for each head its newest place;
-- for each place the earlier place of the same head.
--   Rows, rows          head, level and fallback of each place
--   columns, earlier_of those of the places' rows; for each the earlier place of the same head
--   Down                each entry but the first is below its index
--   chain_of w p        the chain of the place p, by its fallbacks
--   list_of w n         the chains of the places below n
--   Latest              the last place with a head
--   Held                the rows are those of n places
--   Fit                 and the places of each head are linked, newest first
use Rattle.std.specs.Prelude.{◌≡◌, List, [], ◌∷◌, ◌++◌, map, ℕ, zero, suc, ◌≤◌, ◌<◌, length, get_or, eqb}
use Rattle.meaning.specs.Choice.{when}
use Rattle.meaning.specs.Chain.{Chain, live}
use Rattle.compile.specs.declared.work.Row.{Row}

pub record Rows : Type 0 where
  pub heads : List ℕ
  pub levels : List ℕ
  pub fallbacks : List ℕ

abbrev pub rows : List ℕ → List ℕ → List ℕ → Rows
rows h l f = record { heads = h; levels = l; fallbacks = f }

-- of the places' rows
abbrev pub columns : List Row → Rows
columns xs = rows (map (λ (r : Row). r.head) xs) (map (λ (r : Row). r.level) xs) (map (λ (r : Row). r.fallback) xs)

abbrev pub earlier_of : List Row → List ℕ
earlier_of xs = map (λ (r : Row). r.earlier) xs

abbrev pub Down : List ℕ → Type 0
Down xs = (i : ℕ) → 0 < i → get_or xs i 0 < i

-- with at most k fallbacks; a place has fewer than its number, as each is lower
abbrev pub chain_within : ℕ → Rows → ℕ → Chain
chain_within zero w p = []
chain_within (suc k) w p =
    when (eqb p 0) [] (live (get_or w.heads p 0) (get_or w.levels p 0) ∷ chain_within k w (get_or w.fallbacks p 0))

unfoldable pub chain_of : Rows → ℕ → Chain
chain_of w p = chain_within p w p

unfoldable pub list_of : Rows → ℕ → List Chain
list_of w zero = []
list_of w (suc n) = list_of w n ++ (chain_of w n ∷ [])

-- r is the last place below n, other than 0, with the head h; 0 where there is none
pub record Latest (heads : List ℕ) (n h r : ℕ) : Type 0 where
  pub at : 0 < r → (r < n) × (get_or heads r 0 ≡ h)
  pub after : (j : ℕ) → r < j → j < n → get_or heads j 0 ≡ h → ⊥

pub record Held (w : Rows) (n : ℕ) : Type 0 where
  pub some_place : 0 < n
  pub few : n ≤ 1024
  pub heads_length : length w.heads ≡ 1024
  pub levels_length : length w.levels ≡ 1024
  pub fallbacks_length : length w.fallbacks ≡ 1024
  pub head-zero : get_or w.heads 0 0 ≡ 0
  pub level-zero : get_or w.levels 0 0 ≡ 0
  pub fallback_zero : get_or w.fallbacks 0 0 ≡ 0
  pub low : (i : ℕ) → get_or w.levels i 0 ≤ i
  pub small : (i : ℕ) → get_or w.heads i 0 < 512
  pub fallbacks_down : Down w.fallbacks

pub record Fit (newest earlier : List ℕ) (w : Rows) (n : ℕ) : Type 0 where
  pub held : Held w n
  pub newest_length : length newest ≡ 512
  pub earlier_length : length earlier ≡ 1024
  pub earlier_down : Down earlier
  pub newest_is : (h : ℕ) → h < 512 → Latest w.heads n h (get_or newest h 0)
  pub earlier_is : (i : ℕ) → 0 < i → i < n → Latest w.heads i (get_or w.heads i 0) (get_or earlier i 0)
