-- What a call answers, and how it is judged. Document 01, "Refusal numbers": checked in this order; the first rule that is
-- broken gives number and place, and every other number of the answer is 0.
--   Answer              accepted with the numbers of the answer in their order, 0 for those that it does not have; or refused,
--                       by number and place
--   Rule                a number, and the place of the first fault, if there is one
--   rule n b p          refused n at p where the test b holds
--   rule_at n o         refused n at the place o, where there is one
--   judged rs x         what the first broken rule refuses; x where none is broken
--   leaving x out bs    the lent memory afterwards: a refusal changes nothing, a success writes bs from the start on and leaves
--                       what is past them
use Rattle.std.specs.Prelude.{Bool, List, [], ◌∷◌, ℕ}
use Rattle.std.specs.Prelude.{Option, None, Some}
use Rattle.std.proofs.lemmas.List.Edits.{sets}
use Rattle.meaning.specs.Choice.{when}

pub data Answer : Type 0 where
  accepted : ℕ → ℕ → ℕ → ℕ → Answer
  refused : ℕ → ℕ → Answer

pub record Rule : Type 0 where
  pub number : ℕ
  pub fault : Option ℕ

abbrev pub rule_at : ℕ → Option ℕ → Rule
rule_at n o = record { number = n; fault = o }

abbrev pub rule : ℕ → Bool → ℕ → Rule
rule n b p = rule_at n (when b (Some p) None)

-- the place of a fault, or what is judged next
abbrev pub faulty : ℕ → Option ℕ → Answer → Answer
faulty n None x = x
faulty n (Some p) x = refused n p

abbrev pub judged : List Rule → Answer → Answer
judged [] x = x
judged (r ∷ rs) x = faulty r.number r.fault (judged rs x)

abbrev pub leaving : Answer → List ℕ → List ℕ → List ℕ
leaving (accepted a b c d) out bs = sets out 0 bs
leaving (refused n p) out bs = out
