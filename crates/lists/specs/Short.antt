-- The short list. Document 01, "Runs and lists": it keeps a record if it is the first, or if its end differs from the
-- end just before it.
--   keep before rs         what is kept of the records that follow the end `before`
--   short rs               the short list of a list of records
--   is_kept rs i           whether it keeps the record i
--   short_of, short_bytes  that of a list in bytes, and its own bytes
--   short_told             what an answer says, in the numbers of document 01
--   short_rules            what is refused, in order
--   short_answer           the number of records kept, or the refusal
--   short_memory           the buffer as a call leaves it
use Rattle.std.specs.Prelude.{Bool, not, ◌||◌, List, [], ◌∷◌, ℕ, ◌-◌, ◌%◌, length, get_or, eqb, ltb, Result}
use Rattle.wire.specs.Record.{record_size}
use Rattle.meaning.specs.Choice.{when}
use Rattle.meaning.specs.Answer.{Answer, accepted, Rule, rule, judged, leaving}
use Rattle.meaning.specs.Refusal.{told}
use Rattle.meaning.specs.declared.Refusal.{Refusal}
use Rattle.lists.specs.Whole.{records_of, end_of, joined}

unfoldable pub keep : ℕ → List (List ℕ) → List (List ℕ)
keep before [] = []
keep before (r ∷ rs) = let ks = keep (end_of r) rs in when (eqb (end_of r) before) ks (r ∷ ks)

unfoldable pub short : List (List ℕ) → List (List ℕ)
short [] = []
short (r ∷ rs) = r ∷ keep (end_of r) rs

-- the record i of a list, by the one before it
abbrev pub is_kept : List (List ℕ) → ℕ → Bool
is_kept rs i = eqb i 0 || not (eqb (end_of (get_or rs i [])) (end_of (get_or rs (i - 1) [])))

abbrev pub short_of : List ℕ → List (List ℕ)
short_of list = short (records_of list)

abbrev pub short_bytes : List ℕ → List ℕ
short_bytes list = joined (short_of list)

abbrev pub short_told : Result ℕ Refusal → Answer
short_told r = told (λ n. accepted n 0 0 0) r

-- no whole records; a short list longer than its buffer
abbrev pub short_rules : List ℕ → ℕ → List Rule
short_rules list room =
    rule 22 (not (eqb (length list % record_size) 0)) 0
    ∷ rule 23 (ltb room (length (short_bytes list))) 0
    ∷ []

unfoldable pub short_answer : List ℕ → ℕ → Answer
short_answer list room = judged (short_rules list room) (accepted (length (short_of list)) 0 0 0)

unfoldable pub short_memory : List ℕ → List ℕ → List ℕ
short_memory list out = leaving (short_answer list (length out)) out (short_bytes list)
