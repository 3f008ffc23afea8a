-- A book: a list of states, each with its mark and its edges. Document 01, "The book".
--   Edge, edge a q      an event and the state it leads to
--   State, Book         a mark and edges; the states in their order
--   delta, outs, marks  where an event leads from a state; the events of a state's edges; its mark
use Rattle.std.specs.Prelude.{List, [], ◌∷◌, map, ℕ, get_or, eqb}
use Rattle.std.specs.Prelude.{Option, None, Some}
use Rattle.meaning.specs.Choice.{when}
use Rattle.meaning.specs.Text.{Delta, Marks}

pub record Edge : Type 0 where
  pub event : ℕ
  pub target : ℕ

abbrev pub edge : ℕ → ℕ → Edge
edge a q = record { event = a; target = q }

pub record State : Type 0 where
  pub mark : ℕ
  pub edges : List Edge

abbrev pub state : ℕ → List Edge → State
state m es = record { mark = m; edges = es }

abbrev pub Book : Type 0
Book = List State

-- a state that the book does not have: no mark, no edges
abbrev pub state_at : Book → ℕ → State
state_at B q = get_or B q (state 0 [])

abbrev pub look : List Edge → ℕ → Option ℕ
look [] a = None
look (e ∷ es) a = when (eqb e.event a) (Some e.target) (look es a)

abbrev pub delta : Book → Delta
delta B q a = look (state_at B q).edges a

abbrev pub outs : Book → ℕ → List ℕ
outs B q = map (λ (e : Edge). e.event) (state_at B q).edges

abbrev pub marks : Book → Marks
marks B q = (state_at B q).mark
