-- The places: the reachable chains, numbered breadth first. Document 01, "Chains and places".
--   same_chain, met     equal chains, states and reaches both; was a chain met before
--   number L c          the place of the chain c in the list L
--   opened              a place opened: the chains after the events of its head's edges are met, events rising
--   places δ out N      the chains of all texts in the order in which they are first met; none where there are more than N
--   Reachable, MoreThan the chain of some text; more than N chains are reachable
--   Numbers δ L         L numbers the chains of all texts: each once, the empty one 0, each fallback lower
use Rattle.std.specs.Prelude.{◌≡◌, Bool, true, false, ◌&&◌, ◌||◌, ℕ, zero, suc, ◌<◌, length, get_or, eqb, ltb}
use Rattle.std.specs.Prelude.{Option, None, Some}
use mathlib.Core.List.{List, [], ◌∷◌, ◌++◌, Memᴰ}
use Rattle.meaning.specs.Choice.{when}
use Rattle.meaning.specs.Text.{Text, Delta}
use Rattle.meaning.specs.Chain.{Live, Chain, step, chain, head}

abbrev pub same_chain : Chain → Chain → Bool
same_chain [] [] = true
same_chain [] (y ∷ d) = false
same_chain (x ∷ c) [] = false
same_chain (x ∷ c) (y ∷ d) = (eqb x.state y.state && eqb x.reach y.reach) && same_chain c d

abbrev pub met : Chain → List Chain → Bool
met d [] = false
met d (c ∷ L) = same_chain c d || met d L

abbrev pub number : List Chain → Chain → ℕ
number [] d = 0
number (c ∷ L) d = when (same_chain c d) 0 (suc (number L d))

-- a chain is numbered when first met
abbrev pub meet : Chain → List Chain → List Chain
meet d L = when (met d L) L (L ++ (d ∷ []))

abbrev pub meet_all : Delta → Chain → List ℕ → List Chain → List Chain
meet_all δ c [] L = L
meet_all δ c (a ∷ es) L = meet_all δ c es (meet (step δ c a) L)

-- out q: the events of the edges of the state q, rising
abbrev pub opened : Delta → (ℕ → List ℕ) → ℕ → List Chain → List Chain
opened δ out p L = meet_all δ (get_or L p []) (out (head (get_or L p []))) L

-- the places from p on are opened, lowest first, at most f of them; none where more are left
abbrev pub grow : Delta → (ℕ → List ℕ) → ℕ → Bool → ℕ → List Chain → Option (List Chain)
grow δ out zero false p L = Some L
grow δ out zero true p L = None
grow δ out (suc f) false p L = Some L
grow δ out (suc f) true p L = let M = opened δ out p L in grow δ out f (ltb (suc p) (length M)) (suc p) M

abbrev pub places : Delta → (ℕ → List ℕ) → ℕ → Option (List Chain)
places δ out N = grow δ out N true 0 ([] ∷ [])

abbrev pub Reachable : Delta → Chain → Type 0
Reachable δ c = (t : Text) × (chain δ t ≡ c)

abbrev pub Distinct : List Chain → Type 0
Distinct L = (i j : ℕ) → i < length L → j < length L → get_or L i [] ≡ get_or L j [] → i ≡ j

pub record Numbers (δ : Delta) (L : List Chain) : Type 0 where
  pub all : (t : Text) → Memᴰ (chain δ t) L
  pub only : (c : Chain) → Memᴰ c L → Reachable δ c
  pub once : Distinct L
  pub first : get_or L 0 [] ≡ []
  pub fallback : (i : ℕ) (x : Live) (c : Chain) → i < length L → get_or L i [] ≡ x ∷ c → (j : ℕ) × (j < i) × (get_or L j [] ≡ c)

abbrev pub MoreThan : Delta → ℕ → Type 0
MoreThan δ N = (M : List Chain) × (N < length M) × Distinct M × ((c : Chain) → Memᴰ c M → Reachable δ c)
