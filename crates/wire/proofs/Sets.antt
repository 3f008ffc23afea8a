-- Bytes written one after the other, as the kit's `sets`. `sets-append`, `sets_then`: two runs of bytes, one after the other,
-- are one run. `put16-sets`, `put32-sets`: a written number is a run of its bytes. `sets16_then`, `sets32_then`: and more after it.
-- `sets_out`: past the end nothing is written. Assumes nothing.
use mathlib.Core.Path.{◌≡◌, refl, sym, ap, ◌∙◌}
use mathlib.Core.List.{List, [], ◌∷◌, ◌++◌}
use Prim.Native.Nat.{ℕ, suc, ◌+◌, ◌/◌, ◌%◌, ◌≤◌}
use native.Mathlib.Omega.{arith}
use lib.ListN.{length, set}
use lib.Seq.{sets, set_out}
use Rattle.wire.specs.Little.{bytes16, bytes32, put16_at, put32_at}

pub sets-append : (d : List ℕ) (at : ℕ) (bs cs : List ℕ) → sets d at (bs ++ cs) ≡ sets (sets d at bs) (at + length bs) cs
sets-append d at [] cs = let e : at + 0 ≡ at = omega arith in rw e
sets-append d at (b ∷ bs) cs =
    let e : at + suc (length bs) ≡ suc at + length bs = omega arith in
    rw e (sets-append (set d at b) (suc at) bs cs)

pub sets_then : (d : List ℕ) (at to : ℕ) (bs cs : List ℕ) → to ≡ at + length bs → sets d at (bs ++ cs) ≡ sets (sets d at bs) to cs
sets_then d at to bs cs e = sets-append d at bs cs ∙ ap (λ (z : ℕ). sets (sets d at bs) z cs) (sym e)

pub sets_out : (d : List ℕ) (at : ℕ) (bs : List ℕ) → length d ≤ at → sets d at bs ≡ d
sets_out d at [] h = refl
sets_out d at (b ∷ bs) h =
    let e : set d at b ≡ d = set_out d at b h in
    rw e (sets_out d (suc at) bs (omega arith))

pub put16-sets : (d : List ℕ) (at v : ℕ) → put16_at d at v ≡ sets d at (bytes16 v)
put16-sets d at v = let e : at + 1 ≡ suc at = omega arith in rw e

pub sets16_then : (d : List ℕ) (at to v : ℕ) (cs : List ℕ) → to ≡ at + 2 → sets d at (bytes16 v ++ cs) ≡ sets (put16_at d at v) to cs
sets16_then d at to v cs e =
    sets_then d at to (bytes16 v) cs e ∙ ap (λ (z : List ℕ). sets z to cs) (sym (put16-sets d at v))

pub put32-sets : (d : List ℕ) (at v : ℕ) → put32_at d at v ≡ sets d at (bytes32 v)
put32-sets d at v =
    put16-sets (put16_at d at (v % 65536)) (at + 2) (v / 65536 % 65536)
    ∙ sym (sets16_then d at (at + 2) (v % 65536) (bytes16 (v / 65536 % 65536)) refl)

pub sets32_then : (d : List ℕ) (at to v : ℕ) (cs : List ℕ) → to ≡ at + 4 → sets d at (bytes32 v ++ cs) ≡ sets (put32_at d at v) to cs
sets32_then d at to v cs e =
    sets_then d at to (bytes32 v) cs e ∙ ap (λ (z : List ℕ). sets z to cs) (sym (put32-sets d at v))

-- two bytes, one after the other
pub sets_two : (d : List ℕ) (at to a b : ℕ) → to ≡ at + 1 → set (set d at a) to b ≡ sets d at (a ∷ b ∷ [])
sets_two d at to a b e = let f : to ≡ suc at = omega arith in rw f
