-- The records of a run, and where it stops for room. Document 01, "Runs and lists".
--   Record, recorded    end, length and mark
--   records_at M e p    the records of an event that leads to the place p: one for every place on the chain with a marked
--                       head, in chain order
--   Outcome             what a run comes to: events taken, place, records, failure steps
--   hit, marked         the record of a live state; the marked states of a chain
--   ending_at e rs      the records of a list with the end e
--   run M room e p log  the run from the place p after e events, with room for so many records
use Rattle.std.specs.Prelude.{List, [], ◌∷◌, ◌++◌, ℕ, zero, suc, ◌+◌, ◌-◌, length, eqb, leb}
use Rattle.meaning.specs.Choice.{when}
use Rattle.meaning.specs.Text.{Marks}
use Rattle.meaning.specs.Chain.{Live, Chain}
use Rattle.meaning.specs.Questions.{Image}
use Rattle.meaning.specs.Walk.{next}

pub record Record : Type 0 where
  pub end : ℕ
  pub length : ℕ
  pub mark : ℕ

abbrev pub recorded : ℕ → ℕ → ℕ → Record
recorded e n m = record { end = e; length = n; mark = m }

-- what a record shows of a place's level
abbrev pub shown : ℕ → ℕ
shown n = n

-- a place with a marked head gives a record, any other none
abbrev pub unless_quiet : ℕ → ℕ → ℕ → List Record → List Record
unless_quiet e n m rs = when (eqb m 0) rs (recorded e (shown n) m ∷ rs)

-- with at most f fallbacks
unfoldable pub records_within : ℕ → Image → ℕ → ℕ → List Record
records_within zero M e p = []
records_within (suc f) M e p = when (eqb p 0) [] (unless_quiet e (M.level p) (M.mark p) (records_within f M e (M.fallback p)))

unfoldable pub records_at : Image → ℕ → ℕ → List Record
records_at M e p = records_within p M e p

abbrev pub hit : Marks → ℕ → Live → Record
hit mark e x = recorded e (shown x.reach) (mark x.state)

abbrev pub marked : Marks → Chain → Chain
marked mark [] = []
marked mark (x ∷ c) = when (eqb (mark x.state) 0) (marked mark c) (x ∷ marked mark c)

abbrev pub ending_at : ℕ → List Record → List Record
ending_at e [] = []
ending_at e (r ∷ rs) = when (eqb r.end e) (r ∷ ending_at e rs) (ending_at e rs)

pub record Outcome : Type 0 where
  pub taken : ℕ
  pub place : ℕ
  pub records : List Record
  pub steps : ℕ

abbrev pub stopped : ℕ → Outcome
stopped p = record { taken = 0; place = p; records = []; steps = 0 }

-- what a run comes to after n events with these records and failure steps
abbrev pub after : ℕ → List Record → ℕ → Outcome → Outcome
after n rs s o = record { taken = n + o.taken; place = o.place; records = rs ++ o.records; steps = s + o.steps }

-- the run stops before the first event whose records do not all fit; otherwise it takes the whole log
unfoldable pub run : Image → ℕ → ℕ → ℕ → List ℕ → Outcome
run M room e p [] = stopped p
run M room e p (a ∷ log) =
    let s = next M p a in
    let rs = records_at M (suc e) s.place in
    let o = run M (room - length rs) (suc e) s.place log in
    when (leb (length rs) room) (after 1 rs s.failed o) (stopped p)
