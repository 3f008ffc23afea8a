-- Laws of little-endian numbers. `le16_out`, `le16_last`, `le32_out`, `put16_out`, `put32_out`: past the end. `le16_put16`,
-- `le32_put32`: what was written is read back. `get_or-put16`, `get_or-put32`, `le16_put16_other`: what stands elsewhere stays. `length-put16`, `length-put32`: so
-- does the length. Assumes nothing.
use Prim.Native.Nat.{ℕ, ◌+◌, ◌/◌, ◌%◌, ◌<◌, ◌≤◌}
use mathlib.Core.List.{List}
use mathlib.Core.Path.{◌≡◌, ◌∙◌}
use mathlib.Core.Logic.{◌≢◌, ◌⊎◌, inl, inr}
use native.Mathlib.Omega.{arith}
use lib.ListN.{length, get_or, set, length-set, get_or-eq_default}
use lib.Seq.{get_or-set_same, get_or-set_other, set_out}
use Rattle.wire.specs.Little.{le16_at, le32_at, put16_at, put32_at, ByteIs, NumberIs}

pub le16_out : (xs : List ℕ) (at : ℕ) → length xs ≤ at → le16_at xs at ≡ 0
le16_out xs at h =
    let h₁ : length xs ≤ at + 1 = omega arith in
    omega (arith, get_or-eq_default xs 0 h, get_or-eq_default xs 0 h₁)

-- of two bytes only the first is there
pub le16_last : (xs : List ℕ) (at r : ℕ) → length xs ≤ at + 1 → ByteIs xs at r → NumberIs (le16_at xs at) 65536 r
le16_last xs at r h B =
    let e = B.is in
    let s = B.small in
    let z = get_or-eq_default xs 0 h in
    record { is = omega arith; small = omega arith }

pub le32_out : (xs : List ℕ) (at : ℕ) → length xs ≤ at → le32_at xs at ≡ 0
le32_out xs at h = omega (arith, le16_out xs at h, le16_out xs (at + 2) (omega arith))

pub put16_out : (xs : List ℕ) (at v : ℕ) → length xs ≤ at → put16_at xs at v ≡ xs
put16_out xs at v h =
    let h₁ : length xs ≤ at + 1 = omega arith in
    rw (set_out xs at (v % 256) h, set_out xs (at + 1) (v / 256 % 256) h₁)

pub put32_out : (xs : List ℕ) (at v : ℕ) → length xs ≤ at → put32_at xs at v ≡ xs
put32_out xs at v h =
    rw (put16_out xs at (v % 65536) h) (put16_out xs (at + 2) (v / 65536 % 65536) (omega arith))

pub length-put16 : (xs : List ℕ) (at v : ℕ) → length (put16_at xs at v) ≡ length xs
length-put16 xs at v = simp length-set

pub length-put32 : (xs : List ℕ) (at v : ℕ) → length (put32_at xs at v) ≡ length xs
length-put32 xs at v = simp length-set

-- a byte elsewhere is kept
pub get_or-put16 : (xs : List ℕ) (at v k : ℕ) → k ≢ at → k ≢ at + 1 → get_or (put16_at xs at v) k 0 ≡ get_or xs k 0
get_or-put16 xs at v k p q = rw (get_or-set_other (set xs at (v % 256)) (at + 1) k (v / 256 % 256) 0 q) (get_or-set_other xs at k (v % 256) 0 p)

pub get_or-put32 : (xs : List ℕ) (at v k : ℕ) → (k < at) ⊎ (at + 3 < k) → get_or (put32_at xs at v) k 0 ≡ get_or xs k 0
get_or-put32 xs at v k h =
    get_or-put16 (put16_at xs at (v % 65536)) (at + 2) (v / 65536 % 65536) k (apart h (omega arith) (omega arith)) (apart h (omega arith) (omega arith))
    ∙ get_or-put16 xs at (v % 65536) k (apart h (omega arith) (omega arith)) (apart h (omega arith) (omega arith))
  where
    apart : {n : ℕ} → (k < at) ⊎ (at + 3 < k) → at ≤ n → n ≤ at + 3 → k ≢ n
    apart (inl l) a b e = omega arith
    apart (inr l) a b e = omega arith

-- what was written is read
pub le16_put16 : (xs : List ℕ) (at v : ℕ) → v < 65536 → at + 1 < length xs → le16_at (put16_at xs at v) at ≡ v
le16_put16 xs at v small fits =
    let low : get_or (put16_at xs at v) at 0 ≡ v % 256 =
    get_or-set_other (set xs at (v % 256)) (at + 1) at (v / 256 % 256) 0 (omega arith) ∙ get_or-set_same xs at (v % 256) 0 (omega arith) in
    let high : get_or (put16_at xs at v) (at + 1) 0 ≡ v / 256 % 256 =
    get_or-set_same (set xs at (v % 256)) (at + 1) (v / 256 % 256) 0 (simp length-set fits) in
    omega (arith, low, high)

-- a number elsewhere is kept
pub le16_put16_other : (xs : List ℕ) (at v k : ℕ) → k ≢ at → k + 1 ≢ at → k ≢ at + 1 → le16_at (put16_at xs at v) k ≡ le16_at xs k
le16_put16_other xs at v k p q r =
    omega (arith, get_or-put16 xs at v k p r, get_or-put16 xs at v (k + 1) q (omega arith))

pub le32_put32 : (xs : List ℕ) (at v : ℕ) → v < 4294967296 → at + 3 < length xs → le32_at (put32_at xs at v) at ≡ v
le32_put32 xs at v small fits =
    let ys = put16_at xs at (v % 65536) in
    let low : le16_at (put16_at ys (at + 2) (v / 65536 % 65536)) at ≡ v % 65536 =
    le16_put16_other ys (at + 2) _ at (omega arith) (omega arith) (omega arith)
    ∙ le16_put16 xs at (v % 65536) (omega arith) (omega arith) in
    let high : le16_at (put16_at ys (at + 2) (v / 65536 % 65536)) (at + 2) ≡ v / 65536 % 65536 =
    le16_put16 ys (at + 2) (v / 65536 % 65536) (omega arith) (simp length-set (omega arith)) in
    omega (arith, low, high)
