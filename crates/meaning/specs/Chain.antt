-- The chain of a text: the live states with their reaches, greatest reach first. Document 01, "Chains and places"; document
-- 000, section 5, with the reaches that this paper adds.
--   Live, live q r      a live state with its reach
--   Chain, In q c       a list of live states; the state q stands in c
--   IsChain δ t c       c is the chain of the text t, as document 01 says it
--   has, put            does a state stand in a chain; a state put in front, unless it stands there already
--   step δ c a          the chain after one more event
--   chain δ t           the chain of a text, event by event
--   head, level, rest   the first state and its reach, both 0 for the empty chain; the chain without its head
use Rattle.std.specs.Prelude.{Bool, ◌||◌, ℕ, suc, ◌<◌, eqb}
use Rattle.std.specs.Prelude.{Option, None, Some}
use mathlib.Core.List.{List, [], ◌∷◌, Memᴰ}
use Rattle.meaning.specs.Choice.{when}
use Rattle.meaning.specs.Text.{Text, Delta, Alive, Reach}

pub record Live : Type 0 where
  pub state : ℕ
  pub reach : ℕ

abbrev pub live : ℕ → ℕ → Live
live q r = record { state = q; reach = r }

abbrev pub Chain : Type 0
Chain = List Live

abbrev pub In : ℕ → Chain → Type 0
In q c = (r : ℕ) × Memᴰ (live q r) c

-- each state once
abbrev pub Once : Chain → Type 0
Once [] = Unit {0}
Once (x ∷ c) = (In x.state c → ⊥) × Once c

-- greatest reach first
abbrev pub Below : ℕ → Chain → Type 0
Below b c = (x : Live) → Memᴰ x c → x.reach < b

abbrev pub Falling : Chain → Type 0
Falling [] = Unit {0}
Falling (x ∷ c) = Below x.reach c × Falling c

pub record IsChain (δ : Delta) (t : Text) (c : Chain) : Type 0 where
  pub all : (q : ℕ) → Alive δ t q → In q c
  pub reaches : (q r : ℕ) → Memᴰ (live q r) c → Reach δ t q r
  pub once : Once c
  pub falling : Falling c

-- state 0, the start, stands at the end of every chain: an edge to the start adds nothing
abbrev pub has : ℕ → Chain → Bool
has q [] = eqb q 0
has q (x ∷ c) = eqb x.state q || has q c

-- a state found anywhere in the rest is dropped
abbrev pub put : Option ℕ → ℕ → Chain → Chain
put None r c = c
put (Some q) r c = when (has q c) c (live q r ∷ c)

abbrev pub step : Delta → Chain → ℕ → Chain
step δ [] a = put (δ 0 a) 1 []
step δ (x ∷ c) a = put (δ x.state a) (suc x.reach) (step δ c a)

-- the chain after a text that follows on the chain c
abbrev pub steps : Delta → Chain → Text → Chain
steps δ c [] = c
steps δ c (a ∷ t) = steps δ (step δ c a) t

abbrev pub chain : Delta → Text → Chain
chain δ t = steps δ [] t

abbrev pub head : Chain → ℕ
head [] = 0
head (x ∷ c) = x.state

abbrev pub level : Chain → ℕ
level [] = 0
level (x ∷ c) = x.reach

abbrev pub rest : Chain → Chain
rest [] = []
rest (x ∷ c) = c
