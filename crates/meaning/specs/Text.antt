-- A text and what it leads to: document 01, "Chains and places"; Mohri, section 2.
--   Text, events        a list of events; the events of a log
--   Delta, Marks        where an event leads from a state, if anywhere; a state's mark, 0 for none
--   read δ q w          where the word w leads from the state q
--   Leads δ t q n       the ending of t that is n events long leads from state 0 to q
--   Alive, Reach        a live state; the length of the shortest ending that leads to it
--   Signature           a word that leads from state 0 to a marked state
--   Ends                some ending of the text is a signature
use Rattle.std.specs.Prelude.{◌≡◌, ◌≢◌, List, [], ◌∷◌, ◌++◌, ℕ, ◌≤◌, length}
use Rattle.std.specs.Prelude.{Option, Some}
use Rattle.meaning.specs.Choice.{then}

abbrev pub Text : Type 0
Text = List ℕ

-- every byte of a log is an event
unfoldable pub events : List ℕ → Text
events log = log

abbrev pub Delta : Type 0
Delta = ℕ → ℕ → Option ℕ

abbrev pub Marks : Type 0
Marks = ℕ → ℕ

abbrev pub read : Delta → ℕ → Text → Option ℕ
read δ q [] = Some q
read δ q (a ∷ w) = then (δ q a) (λ p. read δ p w)

abbrev pub Leads : Delta → Text → ℕ → ℕ → Type 0
Leads δ t q n = (s : Text) × (w : Text) × (s ++ w ≡ t) × (length w ≡ n) × (read δ 0 w ≡ Some q)

-- a state other than 0 is alive when some ending leads to it
abbrev pub Alive : Delta → Text → ℕ → Type 0
Alive δ t q = (q ≢ 0) × ((n : ℕ) × Leads δ t q n)

abbrev pub Reach : Delta → Text → ℕ → ℕ → Type 0
Reach δ t q n = (q ≢ 0) × Leads δ t q n × ((m : ℕ) → Leads δ t q m → n ≤ m)

abbrev pub Signature : Delta → Marks → Text → Type 0
Signature δ mark w = (q : ℕ) × (read δ 0 w ≡ Some q) × (mark q ≢ 0)

abbrev pub Ends : Delta → Marks → Text → Type 0
Ends δ mark t = (s : Text) × (w : Text) × (s ++ w ≡ t) × Signature δ mark w
