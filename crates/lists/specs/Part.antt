-- The part of a log that a record names. Document 01, "Runs and lists": from end minus length up to end, counted from
-- base.
--   start_of log n l      where the ending of the log's first n bytes that holds l events starts
--   part_told             what an answer says, in the numbers of document 01
--   part_rules            what is refused, in order
--   part_answer           offset and length of the part in the log, or the refusal
--   part_of               the part itself; a refusal gives an empty one
use Rattle.std.specs.Prelude.{List, [], ◌∷◌, ℕ, ◌+◌, ◌-◌, length, take, drop, eqb, ltb, Result}
use Rattle.meaning.specs.Answer.{Answer, accepted, refused, Rule, rule, judged}
use Rattle.meaning.specs.Refusal.{told}
use Rattle.meaning.specs.declared.Refusal.{Refusal}
use Rattle.lists.specs.declared.Named.{Named}

-- every byte of a log is an event
abbrev pub start_of : List ℕ → ℕ → ℕ → ℕ
start_of log n l = n - l

abbrev pub part_told : Result Named Refusal → Answer
part_told r = told (λ n. accepted n.offset n.length 0 0) r

-- base plus log length too high; length 0, or over end; the part begins before the log, or ends after it
abbrev pub part_rules : List ℕ → ℕ → ℕ → ℕ → List Rule
part_rules log base end l =
    rule 21 (ltb 4294967295 (base + length log)) 0
    ∷ rule 24 (eqb l 0) 0
    ∷ rule 24 (ltb end l) 0
    ∷ rule 24 (ltb end (base + l)) 0
    ∷ rule 24 (ltb (base + length log) end) 0
    ∷ []

unfoldable pub part_answer : List ℕ → ℕ → ℕ → ℕ → Answer
part_answer log base end l =
    let offset = start_of log (end - base) l in
    judged (part_rules log base end l) (accepted offset (end - base - offset) 0 0)

abbrev pub cut : List ℕ → Answer → List ℕ
cut log (accepted offset n c d) = take n (drop offset log)
cut log (refused n p) = []

unfoldable pub part_of : List ℕ → ℕ → ℕ → ℕ → List ℕ
part_of log base end l = cut log (part_answer log base end l)
