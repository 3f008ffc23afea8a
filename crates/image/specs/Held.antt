-- What the private functions require and answer, so that they read without tests.
--   HoldsEdges          the records of n edges from j on are among the bytes
--   Sized               an image as long as its counts say, within the limits
--   below_at, reached_at, places_fault_at, events_fault_at, edges_fault_at  records and scans of form 1
--   FaultIs             the number of a record at fault, at most m, or none
--   there_in            a place, where there is one of that number; else refused by 20
--   SaysOf              what is said of a place, as answers
--   Accepted            an image that the check accepts, with q places
--   Rising              events that rise
--   IsRoot, Idle        a table of where each event leads from place 0; the walk stays there
--   PackedAt, IsPacked  a table of what is written of a place that reports, and of the next one
--   MovedIs             one event of the walk
--   ran_over, reports   the run; how many records a place has
--   left_at             what is left of a run where it stands
--   told_at, memory_at  what it answers from there, and the buffer that it leaves
--   Stands, Ready       where a run can stand; what a walk on from there asks for
--   Carried, CarriedTo  from one stand to the next, what the run comes to is the same
use Rattle.std.specs.Prelude.{◌≡◌, List, true, false, ℕ, ◌+◌, ◌*◌, ◌-◌, ◌/◌, ◌%◌, ◌≤◌, ◌<◌, length, get_or, drop, eqb, leb}
use Rattle.std.specs.Prelude.{Option, IfSome, Result, Ok, Err}
use Rattle.std.proofs.lemmas.List.Edits.{sets}
use Rattle.meaning.specs.Choice.{when}
use Rattle.meaning.specs.Answer.{Answer, accepted}
use Rattle.meaning.specs.declared.Reason.TheVariants.{Place as no_place}
use Rattle.meaning.specs.declared.Refusal.{Refusal}
use Rattle.meaning.specs.Refusal.{told}
use Rattle.meaning.specs.Questions.{Image}
use Rattle.meaning.specs.Walk.{Stand, next}
use Rattle.wire.specs.Record.{record_size}
use Rattle.meaning.specs.Records.{Outcome, stopped, records_at, run}
use Rattle.image.specs.Questions.{questions_at}
use Rattle.image.specs.Form.{PlaceRecord, EdgeRecord, Trailer, form1, size_of, place_at, edge_at, trailer_of}
use Rattle.image.specs.Rules.{places_fault, events_fault, edges_fault, check_image}
use Rattle.image.specs.Calls.{list_bytes}
use Rattle.image.specs.declared.Going.{Going}
use Rattle.image.specs.declared.Moved.{Moved}
use Rattle.image.specs.declared.Place.{Place}

abbrev pub HoldsEdges : List ℕ → ℕ → ℕ → ℕ → Type 0
HoldsEdges xs q j n = form1.place_size * q + form1.edge_size * (j + n) ≤ length xs

pub record Sized (xs : List ℕ) (q t : ℕ) : Type 0 where
  pub size : length xs ≡ size_of form1 q t
  pub few_places : q ≤ form1.most_places
  pub few_edges : t ≤ form1.most_edges

abbrev pub trailer_with : ℕ → ℕ → ℕ → ℕ → Trailer
trailer_with d q t f = record { distance = d; places = q; edges = t; form = f }

abbrev pub link_for : ℕ → ℕ → ℕ → ℕ
link_for p mark below = when (eqb mark 0) below p

-- the record of a place's fallback, and the level of an edge's target
abbrev pub below_at : List ℕ → ℕ → PlaceRecord
below_at xs p = place_at form1 xs (place_at form1 xs p).fallback

abbrev pub reached_at : List ℕ → ℕ → ℕ → ℕ
reached_at xs q j = (place_at form1 xs (edge_at form1 xs q j).target).level

-- the scans over the records of an image
abbrev pub places_fault_at : List ℕ → ℕ → ℕ → ℕ → ℕ → Option ℕ
places_fault_at xs t left p sum = places_fault (place_at form1 xs) t left p sum

abbrev pub events_fault_at : List ℕ → ℕ → ℕ → ℕ → ℕ → ℕ → Option ℕ
events_fault_at xs q level left j floor = events_fault (place_at form1 xs) (edge_at form1 xs q) q level left j floor

abbrev pub edges_fault_at : List ℕ → ℕ → ℕ → ℕ → ℕ → Option ℕ
edges_fault_at xs q left p j = edges_fault (place_at form1 xs) (edge_at form1 xs q) q left p j

pub record FaultIs (o : Option ℕ) (m : ℕ) (r : Option ℕ) : Type 0 where
  pub is : r ≡ o
  pub within : IfSome r (λ i. i ≤ m)

-- ---- a question
abbrev pub there_in : ℕ → ℕ → Result ℕ Refusal
there_in q p = when (leb q p) (Err (record { reason = no_place; place = 0 })) (Ok p)

-- the answers to which what is said of a place comes, for each number of its record
pub record SaysOf (r : Result Place Refusal) (f l m : Answer) : Type 0 where
  pub fallback : told (λ x. accepted x.fallback 0 0 0) r ≡ f
  pub level : told (λ x. accepted x.level 0 0 0) r ≡ l
  pub mark : told (λ x. accepted x.mark 0 0 0) r ≡ m

-- ---- an accepted image
abbrev pub edges_of : List ℕ → ℕ
edges_of xs = (trailer_of form1 xs).edges

pub record Accepted (xs : List ℕ) (q : ℕ) : Type 0 where
  pub size : length xs ≡ size_of form1 q (edges_of xs)
  pub some_place : 0 < q
  pub few_places : q ≤ form1.most_places
  pub few_edges : edges_of xs ≤ form1.most_edges
  pub is : check_image xs ≡ accepted q (edges_of xs) 0 0

-- the events of n edges from j on
abbrev pub Rising : (ℕ → EdgeRecord) → ℕ → ℕ → Type 0
Rising E j n = (i k : ℕ) → i < k → k < n → (E (j + i)).event < (E (j + k)).event

abbrev pub IsRoot : Image → List ℕ → Type 0
IsRoot M root = (a : ℕ) → a < 256 → get_or root a 0 ≡ (next M 0 a).place

pub record Idle (root : List ℕ) (p a : ℕ) : Type 0 where
  pub here : p ≡ 0
  pub stays : get_or root a 0 ≡ 0

-- less the next link, the entry is the record but for its end
pub record PackedAt (xs : List ℕ) (l r : ℕ) : Type 0 where
  pub next : r % 65536 ≡ (place_at form1 xs (place_at form1 xs l).fallback).link
  pub gap : r / 65536 % 65536 ≡ 0
  pub level : r / 4294967296 % 65536 ≡ (place_at form1 xs l).level
  pub mark : r / 281474976710656 ≡ (place_at form1 xs l).mark
  pub small : (place_at form1 xs l).mark < 256

abbrev pub IsPacked : List ℕ → ℕ → List ℕ → Type 0
IsPacked xs q table = (l : ℕ) → l < q → PackedAt xs l (get_or table l 0)

pub record MovedIs (s : Stand) (q p : ℕ) (r : Moved) : Type 0 where
  pub place : r.place ≡ s.place
  pub steps : r.steps ≡ s.failed
  pub below : r.place < q
  pub few : r.steps ≤ p

-- the run over an accepted image, with room for what fits into the buffer
abbrev pub ran_over : List ℕ → ℕ → ℕ → ℕ → List ℕ → List ℕ → Outcome
ran_over xs q base p log out = run (questions_at form1 xs q) (length out / record_size) base p log

-- the end of a record does not matter to their number
abbrev pub reports : Image → ℕ → ℕ
reports M p = length (records_at M 0 p)

-- ---- a run on its way
abbrev pub left_at : Image → ℕ → ℕ → List ℕ → Going → Outcome
left_at M room base log g = run M (room - g.records) (base + g.taken) g.place (drop g.taken log)

abbrev pub told_at : Image → ℕ → ℕ → List ℕ → Going → Answer
told_at M room base log g =
    let o = left_at M room base log g in
    accepted (g.taken + o.taken) o.place (g.records + length o.records) (g.steps + o.steps)

abbrev pub memory_at : Image → ℕ → ℕ → List ℕ → List ℕ → Going → List ℕ
memory_at M room base log out g = sets out (record_size * g.records) (list_bytes (left_at M room base log g).records)

pub record Stands (M : Image) (room base : ℕ) (log : List ℕ) (g : Going) : Type 0 where
  pub taken : g.taken ≤ length log
  pub below : g.place < M.count
  pub fits : g.records ≤ room
  pub few : g.steps ≤ 1024 * g.taken
  pub over : g.full ≡ true → left_at M room base log g ≡ stopped g.place

pub record Ready (M : Image) (room base : ℕ) (log out : List ℕ) (g : Going) : Type 0 where
  pub held : record_size * room ≤ length out
  pub stands : Stands M room base log g

pub record Carried (M : Image) (room base : ℕ) (log out : List ℕ) (g : Going) (out' : List ℕ) (g' : Going) : Type 0 where
  pub kept : length out' ≡ length out
  pub stands : Stands M room base log g'
  pub told : told_at M room base log g' ≡ told_at M room base log g
  pub memory : memory_at M room base log out' g' ≡ memory_at M room base log out g

-- up to a number of events, or to where there is no room
abbrev pub CarriedTo : Image → ℕ → ℕ → List ℕ → ℕ → List ℕ → Going → List ℕ → Going → Type 0
CarriedTo M room base log until out g out' g' =
    Carried M room base log out g out' g' × (g'.full ≡ false → until ≤ g'.taken)
