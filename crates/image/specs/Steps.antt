-- A table of every step of a walk, made once in a run: a row for each place, an entry for each class of events.
--   StepAt      one entry: the place where the event leads, and in the upper half its failure steps
--   IsSteps     the table for n classes, where a table of 256 gives each event its class
--   IsClasses   the classes of the events of t edges
--   Copied      a row copied, with one failure step more in each entry
--   led_by, Owned  a place's own edges written over its row
use Rattle.std.specs.Prelude.{◌≡◌, ◌≢◌, List, ℕ, ◌+◌, ◌*◌, ◌/◌, ◌%◌, ◌≤◌, ◌<◌, length, get_or}
use Rattle.std.specs.Prelude.{Option, None, Some}
use Rattle.meaning.specs.Questions.{Image}
use Rattle.meaning.specs.Walk.{Stand, next}
use Rattle.image.specs.Form.{EdgeRecord}
use Rattle.image.specs.Questions.{seek}

pub record StepAt (s : Stand) (r : ℕ) : Type 0 where
  pub place : r % 65536 ≡ s.place
  pub steps : r / 65536 ≡ s.failed

pub record IsSteps (M : Image) (n : ℕ) (classes table : List ℕ) : Type 0 where
  pub fits : n * M.count ≤ 32768
  pub classed : (a : ℕ) → a < 256 → get_or classes a 0 < n
  pub at : (p a : ℕ) → p < M.count → a < 256 → StepAt (next M p a) (get_or table (n * p + get_or classes a 0) 0)

-- an event that one of the edges has is alone in its class, which is not 0
pub record IsClasses (E : ℕ → EdgeRecord) (t n : ℕ) (classes : List ℕ) : Type 0 where
  pub few : n ≤ t + 1
  pub classed : (a : ℕ) → a < 256 → get_or classes a 0 < n
  pub met : (j : ℕ) → j < t → get_or classes (E j).event 0 ≢ 0
  pub alone : (a b : ℕ) → a < 256 → b < 256 → get_or classes a 0 ≡ get_or classes b 0 → get_or classes a 0 ≢ 0 → a ≡ b

-- n entries from `from` on are copied to where `to` starts: what stands below is kept
pub record Copied (n from to : ℕ) (old new : List ℕ) : Type 0 where
  pub kept : length new ≡ length old
  pub below : (k : ℕ) → k < to → get_or new k 0 ≡ get_or old k 0
  pub row : (i : ℕ) → i < n → get_or new (to + i) 0 ≡ get_or old (from + i) 0 + 65536

-- the edge found leads to its target, without a failure step
abbrev pub led_by : (ℕ → EdgeRecord) → Option ℕ → ℕ → ℕ
led_by E None r = r
led_by E (Some j) r = (E j).target

-- n edges from j on, written over the row that starts at `row`
pub record Owned (E : ℕ → EdgeRecord) (n j row : ℕ) (classes old new : List ℕ) : Type 0 where
  pub kept : length new ≡ length old
  pub below : (k : ℕ) → k < row → get_or new k 0 ≡ get_or old k 0
  pub small : (k m : ℕ) → 65536 ≤ m → get_or old k 0 < m → get_or new k 0 < m
  pub at : (a : ℕ) → a < 256
      → get_or new (row + get_or classes a 0) 0 ≡ led_by E (seek E a n j) (get_or old (row + get_or classes a 0) 0)
