-- The walk over an image, one event at a time or over a text. Document 01, "Chains and places".
--   Stand, stand        a place, and the failure steps taken to it
--   next M p a          one event: with an edge the walk takes it; with none it goes to the fallback and tries again, one
--                       failure step each time; at place 0 with no edge it stays there, without a step
--   walk M p t          the events of a text one after the other, failure steps added up
use Rattle.std.specs.Prelude.{[], ◌∷◌, ℕ, zero, suc, ◌+◌, eqb}
use Rattle.std.specs.Prelude.{Option, None, Some}
use Rattle.meaning.specs.Choice.{when}
use Rattle.meaning.specs.Text.{Text}
use Rattle.meaning.specs.Questions.{Image, edge_of}

pub record Stand : Type 0 where
  pub place : ℕ
  pub failed : ℕ

abbrev pub stand : ℕ → ℕ → Stand
stand p n = record { place = p; failed = n }

-- the edge taken, or what is left to do without one
abbrev pub take-edge : Option ℕ → Stand → Stand
take-edge None s = s
take-edge (Some q) s = stand q 0

-- one failure step more
abbrev pub failing : Stand → Stand
failing s = stand s.place (suc s.failed)

-- one event, with at most f fallbacks
abbrev pub next_within : ℕ → Image → ℕ → ℕ → Stand
next_within zero M p a = take-edge (edge_of M p a) (stand 0 0)
next_within (suc f) M p a = take-edge (edge_of M p a) (when (eqb p 0) (stand 0 0) (failing (next_within f M (M.fallback p) a)))

-- a place has fewer fallbacks than its number, as each is lower
unfoldable pub next : Image → ℕ → ℕ → Stand
next M p a = next_within p M p a

abbrev pub walk : Image → ℕ → Text → Stand
walk M p [] = stand p 0
walk M p (a ∷ t) =
    let s = next M p a in
    let r = walk M s.place t in
    stand r.place (s.failed + r.failed)
