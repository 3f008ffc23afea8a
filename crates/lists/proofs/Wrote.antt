-- Bytes written one after the other are written as one run, whether they fit or not. `wrote_then`: two runs are one.
-- `wrote_none`: where nothing is written. `wrote_fits`, `wrote_start`: where all bytes fit. `wrote_unique`:
-- no second outcome. Assumes nothing.
use mathlib.Core.Path.{◌≡◌, refl, sym, ap, ◌∙◌}
use mathlib.Core.List.{List, [], ◌∷◌, ◌++◌}
use Prim.Native.Nat.{ℕ, ◌+◌, ◌-◌, ◌≤◌, ◌<◌, min}
use native.Mathlib.Omega.{arith}
use lib.ListN.{length, take, drop, length-append}
use lib.Dec.{ltb}
use borrow.Author.Tests.{ltb-true, ltb-false}
use lib.Seq.{sets, set_out, sets-eq, length-sets, take_at}
use Rattle.wire.proofs.Sets.{sets-append, sets_then, sets_out}
use Rattle.lists.specs.Wrote.{Wrote}
use Rattle.meaning.proofs.Cases.{by_bool}

-- where the first bytes did not all fit, those after them change nothing
sets_fitting : (out : List ℕ) (at : ℕ) (a : List ℕ) (next : ℕ) (b : List ℕ)
    → next ≡ at + min (length a) (length out - at)
    → sets (sets out at a) next b ≡ sets out at (a ++ b)
sets_fitting out at a next b e =
    by_bool (ltb (length out - at) (length a))
    (λ t.
    let over : length out - at < length a = ltb-true (length out - at) (length a) t in
    sets_out (sets out at a) next b (rw length-sets (omega arith))
    ∙ sym (sets_out (sets out at a) (at + length a) b (rw length-sets (omega arith)))
    ∙ sym (sets-append out at a b))
    (λ t.
    let fits : length a ≤ length out - at = ltb-false (length out - at) (length a) t in
    sym (sets_then out at next a b (omega arith)))

pub wrote_none : (out : List ℕ) (at : ℕ) → Wrote out at [] out at
wrote_none out at = record { memory = refl; next = omega arith }

pub wrote-length : {out : List ℕ} {at : ℕ} {bytes out' : List ℕ} {r : ℕ} → Wrote out at bytes out' r
    → length out' ≡ length out
wrote-length {out} {at} {bytes} w = ap length w.memory ∙ length-sets out at bytes

pub wrote_then : {out : List ℕ} {at : ℕ} {a out₁ : List ℕ} {next : ℕ} {b out₂ : List ℕ} {r : ℕ}
    → Wrote out at a out₁ next → Wrote out₁ next b out₂ r → Wrote out at (a ++ b) out₂ r
wrote_then {out} {at} {a} {out₁} {next} {b} v w =
    record {
      memory = w.memory ∙ ap (λ (m : List ℕ). sets m next b) v.memory ∙ sets_fitting out at a next b v.next;
      next = let l = wrote-length v in omega (arith, w.next, v.next, length-append a b);
    }

-- where all bytes fit: they stand in the buffer, and nothing else has changed
pub wrote_fits : {out : List ℕ} {at : ℕ} {bytes out' : List ℕ} {r : ℕ} → Wrote out at bytes out' r
    → at + length bytes ≤ length out
    → (r ≡ at + length bytes) × (out' ≡ take at out ++ bytes ++ drop (at + length bytes) out)
wrote_fits {out} {at} {bytes} w h = (omega (arith, w.next), w.memory ∙ sets-eq bytes out at h)

-- and from the start of the buffer up to the answer there is nothing else
pub wrote_start : {out bytes out' : List ℕ} {r : ℕ} → Wrote out 0 bytes out' r → length bytes ≤ length out
    → take r out' ≡ bytes
wrote_start {out} {bytes} {out'} {r} w h =
    let f = wrote_fits w (omega arith) in
    let e : length bytes ≡ r = omega (arith, f.0) in
    ap (take r) f.1 ∙ take_at bytes (drop (0 + length bytes) out) r e

-- what a writer leaves and answers is fixed
pub wrote_unique : {out : List ℕ} {at : ℕ} {bytes out₁ out₂ : List ℕ} {r s : ℕ} → Wrote out at bytes out₁ r
    → Wrote out at bytes out₂ s → (out₁ ≡ out₂) × (r ≡ s)
wrote_unique v w = (v.memory ∙ sym w.memory, v.next ∙ sym w.next)
