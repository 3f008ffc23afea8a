-- Laws of every accepted image: what the walk and the run over it obey. The mathematics is `meaning`'s; here it
-- meets the check.
--   accepted_counts, accepted_heads, accepted_edges  its counts, heads and edges
--   accepted_steps      failure steps plus final level is at most starting level plus events taken
--   accepted_fewer      from place 0, with one event or more, at most one step fewer than the events
--   accepted_parts      a run in parts is the run of the whole
--   accepted_moves      room for 1,023 records takes at least one event
--   run-keeps           of any image: a run leaves the buffer's length, and every byte past its records
-- Assumes nothing.
use mathlib.Core.Path.{◌≡◌, refl, ap}
use mathlib.Core.Logic.{◌≢◌}
use mathlib.Core.List.{List, ◌∷◌, ◌++◌}
use Prim.Native.Nat.{ℕ, ◌+◌, ◌*◌, ◌-◌, ◌/◌, ◌≤◌, ◌<◌}
use native.Mathlib.Omega.{arith}
use lib.ListN.{length, get_or}
use lib.Seq.{length-sets}
use Rattle.meaning.specs.Answer.{Answer, accepted, refused, leaving}
use Rattle.meaning.specs.Questions.{Image}
use Rattle.meaning.specs.Records.{after, run}
use Rattle.meaning.proofs.Run.{run_parts, run-level, run_fewer, run_moves_count}
use Rattle.image.specs.Form.{form1, place_at, edge_at}
use Rattle.image.specs.Rules.{check_image}
use Rattle.image.specs.Questions.{questions}
use Rattle.image.specs.Calls.{run_answer, list_bytes, run_memory}
use Rattle.image.specs.Held.{Rising}
use Rattle.image.proofs.Accepted.{Facts, facts, accepted_levels}
use Rattle.image.proofs.Writing.{length-list_bytes, sets-past}

module _ (xs : List ℕ) (q t a b : ℕ) (fine : check_image xs ≡ accepted q t a b) where
  F : Facts xs q t
  F = facts xs q t a b fine

  count_is : (questions xs).count ≡ q
  count_is = ap (λ (M : Image). M.count) F.counts

  pub accepted_counts : (1 ≤ q) × (q ≤ 1024) × (t ≤ 4096) × (length xs ≡ 14 * q + 4 * t + 12)
  accepted_counts = (F.some_place, F.few_places, F.few_edges, F.size)

  pub accepted_heads : (p : ℕ) → p < q → p ≢ 0 → (1 ≤ (place_at form1 xs p).head) × ((place_at form1 xs p).head ≤ 511)
  accepted_heads p l nz = let o = (F.place p l).other nz in (o.some_head, o.head)

  -- the edges of a place stand in the table, and their events rise
  pub accepted_edges : (p : ℕ) → p < q
      → ((place_at form1 xs p).first + (place_at form1 xs p).count ≤ t)
      × Rising (edge_at form1 xs q) (place_at form1 xs p).first (place_at form1 xs p).count
  accepted_edges p l = (F.inside p l, F.rising p l)

  pub accepted_steps : (room e p : ℕ) (log : List ℕ) → p < q
      → (run (questions xs) room e p log).steps + (questions xs).level (run (questions xs) room e p log).place
      ≤ (questions xs).level p + (run (questions xs) room e p log).taken
  accepted_steps room e p log l =
      run-level (questions xs) (accepted_levels xs q t a b fine) room e p log (let c = count_is in omega arith)

  pub accepted_fewer : (room e : ℕ) (log : List ℕ) → 0 < (run (questions xs) room e 0 log).taken
      → (run (questions xs) room e 0 log).steps < (run (questions xs) room e 0 log).taken
  accepted_fewer room e log = run_fewer (questions xs) (accepted_levels xs q t a b fine) room e log

  pub accepted_moves : (room e p c : ℕ) (log : List ℕ) → p < q → 1023 ≤ room
      → 0 < (run (questions xs) room e p (c ∷ log)).taken
  accepted_moves room e p c log l h =
      let n = count_is in
      let m = F.few_places in
      run_moves_count (questions xs) (accepted_levels xs q t a b fine) room e p c log (omega arith) (omega arith)

-- of any image
pub accepted_parts : (xs : List ℕ) (room e p : ℕ) (s u : List ℕ) → (run (questions xs) room e p s).taken ≡ length s
    → run (questions xs) room e p (s ++ u)
    ≡ after (length s) (run (questions xs) room e p s).records (run (questions xs) room e p s).steps
    (run (questions xs) (room - length (run (questions xs) room e p s).records) (e + length s)
    (run (questions xs) room e p s).place u)
accepted_parts xs = run_parts (questions xs)

-- a run leaves the buffer's length, and every byte past its records
keeps : (x : Answer) (out bs : List ℕ) (k : ℕ) → length bs ≤ k
    → (length (leaving x out bs) ≡ length out) × (get_or (leaving x out bs) k 0 ≡ get_or out k 0)
keeps (accepted a b c d) out bs k l = (length-sets out 0 bs, sets-past out 0 bs k (omega arith))
keeps (refused n p) out bs k l = (refl, refl)

pub run-keeps : (xs : List ℕ) (p base : ℕ) (log out : List ℕ) (k : ℕ)
    → 8 * length (run (questions xs) (length out / 8) base p log).records ≤ k
    → (length (run_memory xs p base log out) ≡ length out) × (get_or (run_memory xs p base log out) k 0 ≡ get_or out k 0)
unfolding run_memory
run-keeps xs p base log out k l =
    let e = length-list_bytes (run (questions xs) (length out / 8) base p log).records in
    keeps (run_answer xs p base log out) out (list_bytes (run (questions xs) (length out / 8) base p log).records) k (omega arith)
