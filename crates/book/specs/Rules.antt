-- Refusals 1 to 13 of a book, in their order. Document 01, "Refusal numbers".
--   first_fault, or_else  the place of the first of n records from record k on that is at fault; a search, or else another
--   state_fault           the first state at fault
--   edge_fault            the first edge at fault, lower states first, each edge judged as an edge of its state
--   spare_right           what the zero byte of a record must be
--   not_above, astray, unentered, dead_end  the faults 9, 10, 12 and 13 of one record
--   entered               does some edge lead into a state
--   trailer_rules, table_rules  THE TABLE: number, when, place
--   check_book xs         what the check of the bytes xs answers
--   counted, told         the numbers of the counts; of an answer
use Rattle.std.specs.Prelude.{ℕ, zero, suc, ◌+◌, ◌-◌, List, [], ◌∷◌, ◌++◌, Bool, false, not, ◌&&◌, ◌||◌, length, eqb, leb, ltb}
use Rattle.std.specs.Prelude.{Option, None, Some, Result}
use Rattle.meaning.specs.Choice.{when}
use Rattle.meaning.specs.Answer.{Answer, accepted, Rule, rule, rule_at, judged}
use Rattle.meaning.specs.Refusal.{told as told_by}
use Rattle.meaning.specs.declared.Refusal.{Refusal}
use Rattle.book.specs.Form.{most_states, most_edges, most_bytes, trailer_size, size_of, SB, letters_right}
use Rattle.book.specs.Form.{trailer_of, table_of, state_record_at, edge_record_at, state_place, edge_place}
use Rattle.book.specs.Model.{first_edge}
use Rattle.book.specs.declared.Trailer.{Trailer}
use Rattle.book.specs.declared.StateRecord.{StateRecord}
use Rattle.book.specs.declared.EdgeRecord.{EdgeRecord}
use Rattle.book.specs.declared.Counts.{Counts}

-- ---- searches
unfoldable pub first_fault : (ℕ → Bool) → (ℕ → ℕ) → ℕ → ℕ → Option ℕ
first_fault bad place zero k = None
first_fault bad place (suc n) k = when (bad k) (Some (place k)) (first_fault bad place n (k + 1))

abbrev pub or_else : Option ℕ → Option ℕ → Option ℕ
or_else None o = o
or_else (Some p) o = Some p

-- over the edges of n states from state s on, of the table t of S states
unfoldable pub own_faults : (ℕ → ℕ → Bool) → List ℕ → ℕ → ℕ → ℕ → Option ℕ
own_faults bad t S zero s = None
own_faults bad t S (suc n) s =
    or_else (first_fault (bad s) (edge_place S) (state_record_at t s).count (first_edge t s)) (own_faults bad t S n (s + 1))

abbrev pub state_fault : (ℕ → Bool) → ℕ → Option ℕ
state_fault bad S = first_fault bad state_place S 0

abbrev pub edge_fault : (ℕ → ℕ → Bool) → List ℕ → ℕ → Option ℕ
edge_fault bad t S = own_faults bad t S S 0

abbrev pub spare_right : ℕ → Bool
spare_right b = eqb b 0

-- 7: the zero bytes of the states, then those of all E edges
abbrev pub spare_fault : List ℕ → ℕ → ℕ → Option ℕ
spare_fault t S E =
    or_else (state_fault (λ s. not (spare_right (state_record_at t s).spare)) S)
    (first_fault (λ j. not (spare_right (edge_record_at t S j).spare)) (edge_place S) E 0)

-- ---- the faults of one record
-- edge j of a state whose first edge is given: its event is not above the one before it in the same state
abbrev pub not_above : ℕ → ℕ → EdgeRecord → ℕ → Bool
not_above first j e before = ltb first j && leb e.event before

-- an edge of state s: its target is not above its own state, or not below S
abbrev pub astray : ℕ → ℕ → EdgeRecord → Bool
astray S s e = leb e.target s || leb S e.target

-- one of the edges below edge n leads into state s
unfoldable pub entered : List ℕ → ℕ → ℕ → ℕ → Bool
entered t S zero s = false
entered t S (suc n) s = eqb (edge_record_at t S n).target s || entered t S n s

abbrev pub unentered : ℕ → Bool → Bool
unentered s edge_in = not (eqb s 0) && not edge_in

abbrev pub dead_end : ℕ → StateRecord → Bool
dead_end s x = not (eqb s 0) && (eqb x.mark 0 && eqb x.count 0)

-- ---- the table: number, when, place; n is the length of the file
abbrev pub trailer_rules : ℕ → Bool → Trailer → List Rule
trailer_rules n letters T =
    rule 1 (ltb n trailer_size) 0
    ∷ rule 2 (ltb most_bytes n) 0
    ∷ rule 3 (not letters) 0
    ∷ rule 4 (not (eqb T.form 1)) 0
    ∷ rule 5 (eqb T.states 0 || (ltb most_states T.states || ltb most_edges T.edges)) 0
    ∷ rule 6 (not (eqb T.distance (size_of T.states T.edges)) || ltb n T.distance) 0
    ∷ []

abbrev pub table_rules : List ℕ → ℕ → ℕ → List Rule
table_rules t S E =
    let P = state_record_at t in
    let A = edge_record_at t S in
    rule_at 7 (spare_fault t S E)
    ∷ rule 8 (not (eqb (first_edge t S) E)) 0
    ∷ rule_at 9 (edge_fault (λ s j. not_above (first_edge t s) j (A j) (A (j - 1)).event) t S)
    ∷ rule_at 10 (edge_fault (λ s j. astray S s (A j)) t S)
    ∷ rule 11 (not (eqb (P 0).mark 0)) 0
    ∷ rule_at 12 (state_fault (λ s. unentered s (entered t S E s)) S)
    ∷ rule_at 13 (state_fault (λ s. dead_end s (P s)) S)
    ∷ []

unfoldable pub check_book : List ℕ → Answer
check_book xs =
    let T = trailer_of xs in
    judged
    (trailer_rules (length xs) (letters_right SB xs) T ++ table_rules (table_of xs) T.states T.edges)
    (accepted T.states T.edges 0 0)

-- ---- the answer's numbers
abbrev pub counted : Counts → Answer
counted c = accepted c.states c.edges 0 0

abbrev pub told : Result Counts Refusal → Answer
told r = told_by counted r
