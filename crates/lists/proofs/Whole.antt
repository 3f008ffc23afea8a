-- Laws of records in bytes. `records_from-step`: one record more. `end_of_at`, `record_of_at`: a record is read in its
-- place. `chunks_are`: the records as the code has them. `records_of-joined`, `decoded_bytes`: whole records, and those of
-- a run, are read back. Assumes nothing.
use mathlib.Core.Path.{◌≡◌, refl, sym, ap, ◌∙◌}
use mathlib.Core.List.{List, [], ◌∷◌, ◌++◌, map, append_assoc}
use Prim.Native.Nat.{ℕ, zero, suc, ◌+◌, ◌*◌, ◌-◌, ◌/◌, ◌≤◌, ◌<◌}
use native.Mathlib.Omega.{arith}
use lib.ListN.{length, take, drop, get_or, length-append, length-take, length-drop}
use lib.Seq.{get_or-take, get_or-drop, take_at, drop_at, drop-drop}
use Rattle.std.specs.Simd.{first_chunks}
use lib.Dec.{lit<}
use Rattle.wire.specs.Little.{le16_at, le32_at}
use Rattle.wire.specs.Record.{record_bytes}
use Rattle.meaning.specs.Records.{Record, recorded}
use Rattle.lists.specs.Whole.{record_at, records_from, records_of, end_of, joined, record_of, decoded}

pub records_from-step : (n : ℕ) (xs : List ℕ) (at : ℕ) → 0 < n
    → records_from n xs at ≡ record_at xs at ∷ records_from (n - 1) xs (at + 8)
unfolding records_from
records_from-step zero xs at h = absurd (omega arith)
records_from-step (suc n) xs at h = let e : suc n - 1 ≡ n = omega arith in rw e

pub length-records_from : (n : ℕ) (xs : List ℕ) (at : ℕ) → length (records_from n xs at) ≡ n
unfolding records_from
length-records_from zero xs at = refl
length-records_from (suc n) xs at = ap suc (length-records_from n xs (at + 8))

pub length-record_at : (xs : List ℕ) (at : ℕ) → at + 8 ≤ length xs → length (record_at xs at) ≡ 8
length-record_at xs at h = simp (length-take, length-drop) (omega arith)

-- byte k of a record
record_at-byte : (xs : List ℕ) (at k to : ℕ) → k < 8 → at + k ≡ to → get_or (record_at xs at) k 0 ≡ get_or xs to 0
record_at-byte xs at k to h e = get_or-take 8 (drop at xs) k 0 h ∙ get_or-drop at xs k 0 ∙ ap (λ (j : ℕ). get_or xs j 0) e

record_at_le16 : (xs : List ℕ) (at k to : ℕ) → k + 1 < 8 → at + k ≡ to → le16_at (record_at xs at) k ≡ le16_at xs to
record_at_le16 xs at k to h e =
    omega (arith, record_at-byte xs at k to (omega arith) e, record_at-byte xs at (k + 1) (to + 1) h (omega arith))

pub end_of_at : (xs : List ℕ) (at : ℕ) → end_of (record_at xs at) ≡ le32_at xs at
end_of_at xs at =
    omega (arith, record_at_le16 xs at 0 at (lit< tt) (omega arith), record_at_le16 xs at 2 (at + 2) (lit< tt) refl)

pub record_of_at : (xs : List ℕ) (at : ℕ)
    → record_of (record_at xs at) ≡ recorded (le32_at xs at) (le16_at xs (at + 4)) (get_or xs (at + 6) 0)
record_of_at xs at =
    let e = end_of_at xs at in
    let l = record_at_le16 xs at 4 (at + 4) (lit< tt) refl in
    let m = record_at-byte xs at 6 (at + 6) (lit< tt) refl in
    λ i. recorded (e i) (l i) (m i)

-- the records of a list, as the code has them
chunks_from : (n : ℕ) (xs : List ℕ) (at : ℕ) → first_chunks 8 n (drop at xs) ≡ records_from n xs at
unfolding records_from
chunks_from zero xs at = refl
chunks_from (suc n) xs at =
    ap (λ (rs : List (List ℕ)). record_at xs at ∷ rs)
    (ap (first_chunks 8 n) (drop-drop 8 at xs) ∙ chunks_from n xs (at + 8))

pub chunks_are : (xs : List ℕ) → first_chunks 8 (length xs / 8) xs ≡ records_of xs
chunks_are xs = chunks_from (length xs / 8) xs 0

-- a list of whole records
abbrev pub Eights : List (List ℕ) → Type 0
Eights [] = Unit {0}
Eights (r ∷ rs) = (length r ≡ 8) × Eights rs

pub length_eights : (rs : List (List ℕ)) → Eights rs → length (joined rs) ≡ 8 * length rs
length_eights [] w = refl
length_eights (r ∷ rs) w = omega (arith, length-append r (joined rs), w.0, length_eights rs w.1)

records_after : (front : List ℕ) (rs : List (List ℕ)) (at : ℕ) → length front ≡ at → Eights rs
    → records_from (length rs) (front ++ joined rs) at ≡ rs
unfolding records_from
records_after front [] at e w = refl
records_after front (r ∷ rs) at e w =
    let here : record_at (front ++ (r ++ joined rs)) at ≡ r =
    ap (take 8) (drop_at front (r ++ joined rs) at e) ∙ take_at r (joined rs) 8 w.0 in
    let long : length (front ++ r) ≡ at + 8 = length-append front r ∙ omega (arith, w.0) in
    let rest : records_from (length rs) (front ++ (r ++ joined rs)) (at + 8) ≡ rs =
    ap (λ (xs : List ℕ). records_from (length rs) xs (at + 8)) (sym (append_assoc front r (joined rs)))
    ∙ records_after (front ++ r) rs (at + 8) long w.1 in
    λ i. here i ∷ rest i

pub records_eights : (n : ℕ) (xs : List ℕ) (at : ℕ) → at + 8 * n ≤ length xs → Eights (records_from n xs at)
unfolding records_from
records_eights zero xs at h = tt
records_eights (suc n) xs at h = (length-record_at xs at (omega arith), records_eights n xs (at + 8) (omega arith))

-- whole records are read back one by one
pub records_of-joined : (rs : List (List ℕ)) → Eights rs → records_of (joined rs) ≡ rs
records_of-joined rs w =
    let n : length (joined rs) / 8 ≡ length rs = omega (arith, length_eights rs w) in
    ap (λ (k : ℕ). records_from k (joined rs) 0) n ∙ records_after [] rs 0 refl w

-- a record as a run writes it
abbrev pub bytes_of : Record → List ℕ
bytes_of r = record_bytes r.end r.length r.mark

abbrev pub Fitting : List Record → Type 0
Fitting [] = Unit {0}
Fitting (r ∷ rs) = (r.end < 4294967296) × (r.length < 65536) × Fitting rs

record_of_bytes : (e n m : ℕ) → e < 4294967296 → n < 65536 → record_of (record_bytes e n m) ≡ recorded e n m
record_of_bytes e n m he hn =
    let p : le32_at (record_bytes e n m) 0 ≡ e = omega arith in
    let q : le16_at (record_bytes e n m) 4 ≡ n = omega arith in
    λ i. recorded (p i) (q i) m

eights_bytes : (rs : List Record) → Eights (map bytes_of rs)
eights_bytes [] = tt
eights_bytes (r ∷ rs) = (refl, eights_bytes rs)

record_of_all : (rs : List Record) → Fitting rs → map record_of (map bytes_of rs) ≡ rs
record_of_all [] f = refl
record_of_all (r ∷ rs) f =
    let here = record_of_bytes r.end r.length r.mark f.0 f.1 in
    let rest = record_of_all rs f.2 in
    λ i. here i ∷ rest i

-- and so are the records of a run
pub decoded_bytes : (rs : List Record) → Fitting rs → decoded (joined (map bytes_of rs)) ≡ rs
decoded_bytes rs f = ap (map record_of) (records_of-joined (map bytes_of rs) (eights_bytes rs)) ∙ record_of_all rs f
