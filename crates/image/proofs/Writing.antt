-- The bytes of records, one after the other.
--   sets_eight          eight bytes stored one by one
--   record_bytes_lem    the eight bytes of a number are a record's
--   length-list_bytes   eight bytes a record
--   list_bytes_cons, list_bytes-append  a record, a list, and more after it
--   sets-past           what stands past the bytes written is as it was
-- Assumes nothing.
use mathlib.Core.Path.{◌≡◌, refl, ap, ◌∙◌}
use mathlib.Core.List.{List, [], ◌∷◌, ◌++◌}
use Prim.Native.Nat.{ℕ, suc, ◌+◌, ◌*◌, ◌/◌, ◌%◌, ◌≤◌, ◌<◌}
use native.Mathlib.Omega.{arith}
use lib.ListN.{length, get_or, set}
use lib.Seq.{sets, get_or-set_other}
use Rattle.wire.specs.Record.{record_bytes}
use Rattle.meaning.specs.Records.{Record}
use Rattle.image.specs.Calls.{list_bytes}

pub sets_eight : (d : List ℕ) (at a b c e f g h i : ℕ)
    → set (set (set (set (set (set (set (set d at a) (at + 1) b) (at + 2) c) (at + 3) e) (at + 4) f) (at + 5) g)
    (at + 6) h) (at + 7) i
    ≡ sets d at (a ∷ b ∷ c ∷ e ∷ f ∷ g ∷ h ∷ i ∷ [])
sets_eight d at a b c e f g h i =
    let e1 : at + 1 ≡ suc at = omega arith in
    let e2 : at + 2 ≡ suc (suc at) = omega arith in
    let e3 : at + 3 ≡ suc (suc (suc at)) = omega arith in
    let e4 : at + 4 ≡ suc (suc (suc (suc at))) = omega arith in
    let e5 : at + 5 ≡ suc (suc (suc (suc (suc at)))) = omega arith in
    let e6 : at + 6 ≡ suc (suc (suc (suc (suc (suc at))))) = omega arith in
    let e7 : at + 7 ≡ suc (suc (suc (suc (suc (suc (suc at)))))) = omega arith in
    rw (e1, e2, e3, e4, e5, e6, e7)

-- the lowest byte of a number, and the next, are those of its lower half
lowest : (m : ℕ) → m % 256 ≡ m % 65536 % 256
lowest m = omega arith

second : (m : ℕ) → m / 256 % 256 ≡ m % 65536 / 256 % 256
second m =
    let e : m / 256 ≡ 256 * (m / 65536) + m % 65536 / 256 = omega arith in
    omega arith

lower : (n : ℕ) → n % 4294967296 % 65536 ≡ n % 65536
lower n = omega arith

upper : (n : ℕ) → n % 4294967296 / 65536 % 65536 ≡ n / 65536 % 65536
upper n =
    let q : n / 65536 / 65536 ≡ n / 4294967296 = omega arith in
    let s : n % 4294967296 ≡ 65536 * (n / 65536 % 65536) + n % 65536 = omega arith in
    let h : n % 4294967296 / 65536 ≡ n / 65536 % 65536 = omega arith in
    omega arith

fourth : (n : ℕ) → n / 16777216 ≡ n / 65536 / 256
fourth n = omega arith

sixth : (n : ℕ) → n / 1099511627776 ≡ n / 4294967296 / 256
sixth n = omega arith

-- a record as one number
pub record_bytes_lem : (n : ℕ) → n < 72057594037927936
    → n % 256 ∷ n / 256 % 256 ∷ n / 65536 % 256 ∷ n / 16777216 % 256 ∷ n / 4294967296 % 256 ∷ n / 1099511627776 % 256
    ∷ n / 281474976710656 % 256 ∷ n / 72057594037927936 ∷ []
    ≡ record_bytes (n % 4294967296) (n / 4294967296 % 65536) (n / 281474976710656)
record_bytes_lem n b =
    let m : n / 281474976710656 % 256 ≡ n / 281474976710656 = omega arith in
    let z : n / 72057594037927936 ≡ 0 = omega arith in
    rw (
      lower n,
      upper n,
      fourth n,
      sixth n,
      m,
      z,
      lowest n,
      second n,
      lowest (n / 65536),
      second (n / 65536),
      lowest (n / 4294967296),
      second (n / 4294967296),
    )

pub list_bytes_cons : (r : Record) (rs : List Record)
    → list_bytes (r ∷ rs) ≡ record_bytes r.end r.length r.mark ++ list_bytes rs
unfolding list_bytes
list_bytes_cons r rs = refl

pub length-list_bytes : (rs : List Record) → length (list_bytes rs) ≡ 8 * length rs
unfolding list_bytes
length-list_bytes [] = refl
length-list_bytes (r ∷ rs) = let i = length-list_bytes rs in omega arith

pub list_bytes-append : (rs ss : List Record) → list_bytes (rs ++ ss) ≡ list_bytes rs ++ list_bytes ss
unfolding list_bytes
list_bytes-append [] ss = refl
list_bytes-append (r ∷ rs) ss =
    ap (λ (bs : List ℕ). record_bytes r.end r.length r.mark ++ bs) (list_bytes-append rs ss)

-- what stands past the bytes written is as it was
pub sets-past : (d : List ℕ) (at : ℕ) (bs : List ℕ) (k : ℕ) → at + length bs ≤ k → get_or (sets d at bs) k 0 ≡ get_or d k 0
sets-past d at [] k l = refl
sets-past d at (b ∷ bs) k l =
    sets-past (set d at b) (suc at) bs k (omega arith) ∙ get_or-set_other d at k b 0 (λ e. let w : ⊥ = omega arith in w)
