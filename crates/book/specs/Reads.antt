-- What the readers answer, and the functions below the check.
--   StateIs, EdgeIs            a record, with its numbers small
--   state_breaks, edge_breaks  the rule of a reason; not_after, prior: the event of the edge before it
--   state_broken, edge_broken  does a record of a table break a rule; own_broken, of an edge as one of its state
--   own_fault                  the first of one state's edges at fault
--   HoldsStates, HoldsEdges    the records of n states, of the edges below edge n, are among the bytes
--   StatesRight, OwnRight      no rule is broken by the states; by one state's edges, and the array has these too
--   EnteredAre                 an array that says of each state whether an edge leads into it
--   refused_or                 what a refusal says, or what is judged next
use Rattle.std.specs.Prelude.{ℕ, ◌+◌, ◌-◌, ◌≤◌, ◌<◌, List, Bool, false, not, ◌≡◌, length, get_or, leb, ltb}
use Rattle.std.specs.Prelude.{Option, None, Some, Result, Ok, Err}
use Rattle.meaning.specs.Choice.{when}
use Rattle.meaning.specs.Answer.{Answer}
use Rattle.meaning.specs.Refusal.{refusing}
use Rattle.meaning.specs.declared.Reason.{Reason}
use Rattle.meaning.specs.declared.Reason.TheVariants.{Spare, Order, Entry}
use Rattle.meaning.specs.declared.Refusal.{Refusal}
use Rattle.book.specs.Form.{most_states, state_place, edge_place, state_record_at, edge_record_at}
use Rattle.book.specs.Model.{first_edge}
use Rattle.book.specs.Rules.{first_fault, state_fault, spare_right, astray, entered, unentered, dead_end}
use Rattle.book.specs.declared.StateRecord.{StateRecord}
use Rattle.book.specs.declared.EdgeRecord.{EdgeRecord}

pub record StateIs (x r : StateRecord) : Type 0 where
  pub is : r ≡ x
  pub mark : r.mark < 256
  pub count : r.count < 65536

pub record EdgeIs (x r : EdgeRecord) : Type 0 where
  pub is : r ≡ x
  pub event : r.event < 256
  pub target : r.target < 65536

-- of state s with the record x; of an edge of state s, after the event of the edge before it in the same state
abbrev pub state_breaks : Reason → ℕ → StateRecord → Bool → Bool
state_breaks Spare s x edge_in = not (spare_right x.spare)
state_breaks Entry s x edge_in = unentered s edge_in
state_breaks _ s x edge_in = dead_end s x

abbrev pub not_after : EdgeRecord → Option ℕ → Bool
not_after e None = false
not_after e (Some event) = leb e.event event

abbrev pub edge_breaks : Reason → ℕ → ℕ → EdgeRecord → Option ℕ → Bool
edge_breaks Spare S s e before = not (spare_right e.spare)
edge_breaks Order S s e before = not_after e before
edge_breaks _ S s e before = astray S s e

-- the event of the edge before edge j, where edge j is not its state's first one
abbrev pub prior : List ℕ → ℕ → ℕ → ℕ → Option ℕ
prior t S first j = when (ltb first j) (Some (edge_record_at t S (j - 1)).event) None

-- does a record of a table break a rule
abbrev pub state_broken : (ℕ → StateRecord → Bool → Bool) → List ℕ → ℕ → ℕ → ℕ → Bool
state_broken rule t S E s = rule s (state_record_at t s) (entered t S E s)

abbrev pub edge_broken : (ℕ → EdgeRecord → Option ℕ → Bool) → List ℕ → ℕ → ℕ → ℕ → ℕ → Bool
edge_broken rule t S first s j = rule s (edge_record_at t S j) (prior t S first j)

abbrev pub own_broken : (ℕ → EdgeRecord → Option ℕ → Bool) → List ℕ → ℕ → ℕ → ℕ → Bool
own_broken rule t S s = edge_broken rule t S (first_edge t s) s

-- the first of `count` edges from edge `first` on that breaks a rule, as edges of state s
abbrev pub own_fault : (ℕ → EdgeRecord → Option ℕ → Bool) → List ℕ → ℕ → ℕ → ℕ → ℕ → Option ℕ
own_fault rule t S s first count = first_fault (edge_broken rule t S first s) (edge_place S) count first

pub record EnteredAre (t : List ℕ) (S n : ℕ) (r : List Bool) : Type 0 where
  pub size : length r ≡ most_states
  pub is : (s : ℕ) → s < most_states → get_or r s false ≡ entered t S n s

abbrev pub HoldsStates : List ℕ → ℕ → Type 0
HoldsStates t n = state_place n ≤ length t

abbrev pub HoldsEdges : List ℕ → ℕ → ℕ → Type 0
HoldsEdges t S n = edge_place S n ≤ length t

abbrev pub StatesRight : List ℕ → ℕ → ℕ → Type 0
StatesRight t S E = (reason : Reason) → state_fault (state_broken (state_breaks reason) t S E) S ≡ None

pub record OwnRight (t : List ℕ) (S s first count : ℕ) (r : List Bool) : Type 0 where
  pub none_at : (reason : Reason) → own_fault (edge_breaks reason S) t S s first count ≡ None
  pub entered : EnteredAre t S (first + count) r

-- what a refusal says, or what is judged next
abbrev pub refused_or : {A : Type 0} → Result A Refusal → Answer → Answer
refused_or (Ok a) x = x
refused_or (Err e) x = refusing e
