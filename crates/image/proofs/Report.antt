-- One turn of the loops that count and write the records of a place by its links, on plain values.
--   Counting, Writing           the invariants: what is left from a link on
--   count_start, write_start    before the first link
--   count_turn, write_turn, next_less  one place that reports, and the next link is lower
--   count_end, write_end        after the last
--   write_room, few_reports     room for what is left; fewer records than places
-- Assumes nothing.
use mathlib.Core.Path.{◌≡◌, refl, sym, ap, ◌∙◌}
use mathlib.Core.Logic.{◌≢◌}
use mathlib.Core.List.{List, []}
use Prim.Native.Nat.{ℕ, ◌+◌, ◌*◌, ◌-◌, ◌/◌, ◌%◌, ◌≤◌, ◌<◌}
use native.Mathlib.Omega.{arith}
use lib.ListN.{length}
use lib.Seq.{sets}
use Rattle.wire.specs.Record.{record_bytes}
use Rattle.wire.proofs.Sets.{sets_then}
use Rattle.meaning.specs.Questions.{Image}
use Rattle.meaning.specs.Records.{Record, recorded, records_at}
use Rattle.meaning.proofs.Records.{records_zero, records_few}
use Rattle.image.specs.Form.{form1}
use Rattle.image.specs.Questions.{questions_at}
use Rattle.image.specs.Calls.{list_bytes}
use Rattle.image.specs.Held.{reports, PackedAt}
use Rattle.image.proofs.Accepted.{Facts}
use Rattle.image.proofs.Links.{link, next_link, link_low, next_low, link_marked, next-marked, link_records}
use Rattle.image.proofs.Links.{linked_records, link_count, linked_count}
use Rattle.image.proofs.Writing.{list_bytes_cons}

module _ (xs : List ℕ) (q : ℕ) where
  abbrev M : Image
  M = questions_at form1 xs q

  -- n are counted of those of the place p, and the link l is next
  pub record Counting (p n l : ℕ) : Type 0 where
    pub below : l < q
    pub marked : l ≢ 0 → M.mark l ≢ 0
    pub left : n + reports M l ≡ reports M p

  -- records are written up to the k-th, and the link l is next; what is left stands in out
  pub record Writing (e p : ℕ) (out₀ : List ℕ) (k₀ : ℕ) (out : List ℕ) (k l : ℕ) : Type 0 where
    pub kept : length out ≡ length out₀
    pub counting : Counting p (k - k₀) l
    pub before : k₀ ≤ k
    pub left : sets out₀ (8 * k₀) (list_bytes (records_at M e p)) ≡ sets out (8 * k) (list_bytes (records_at M e l))

module _ (xs : List ℕ) (q t : ℕ) (F : Facts xs q t) where
  abbrev N : Image
  N = questions_at form1 xs q

  pub count_start : (p l : ℕ) → p < q → l ≡ link xs q t F p → Counting xs q p 0 l
  count_start p l b e =
      rw e
      (record {
        below = let k = link_low xs q t F p b in omega arith;
        marked = link_marked xs q t F p b;
        left = let k = link_count xs q t F p b in omega arith;
      })

  pub next_less : (p n l r : ℕ) → Counting xs q p n l → l ≢ 0 → PackedAt xs l r → r % 65536 < l
  next_less p n l r C nz K = let d = next_low xs q t F l C.below nz in let e = K.next in omega arith

  pub count_turn : (p n l r : ℕ) → Counting xs q p n l → l ≢ 0 → PackedAt xs l r → Counting xs q p (n + 1) (r % 65536)
  count_turn p n l r C nz K =
      let e : r % 65536 ≡ next_link xs q t F l = K.next in
      let d = next_low xs q t F l C.below nz in
      let k = linked_count xs q t F l C.below nz (C.marked nz) in
      let s = C.left in
      let b = C.below in
      rw e (record { below = omega arith; marked = next-marked xs q t F l b nz; left = omega arith })

  pub write_start : (e p k l : ℕ) (out : List ℕ) → p < q → l ≡ link xs q t F p → Writing xs q e p out k out k l
  write_start e p k l out b h =
      let z : k - k ≡ 0 = omega arith in
      record {
        kept = refl;
        counting = rw z (count_start p l b h);
        before = omega arith;
        left = ap (λ (rs : List Record). sets out (8 * k) (list_bytes rs))
            (link_records xs q t F e p b ∙ ap (λ (n : ℕ). records_at N e n) (sym h));
      }

  -- one record more
  written : (e k l : ℕ) (out : List ℕ) → l < q → l ≢ 0 → N.mark l ≢ 0
      → sets out (8 * k) (list_bytes (records_at N e l))
      ≡ sets (sets out (8 * k) (record_bytes e (N.level l) (N.mark l))) (8 * (k + 1))
      (list_bytes (records_at N e (next_link xs q t F l)))
  written e k l out b nz mz =
      ap (λ (rs : List Record). sets out (8 * k) (list_bytes rs)) (linked_records xs q t F e l b nz mz)
      ∙ ap (λ (bs : List ℕ). sets out (8 * k) bs)
      (list_bytes_cons (recorded e (N.level l) (N.mark l)) (records_at N e (next_link xs q t F l)))
      ∙ sets_then out (8 * k) (8 * (k + 1)) (record_bytes e (N.level l) (N.mark l))
      (list_bytes (records_at N e (next_link xs q t F l)))
      (let w : 8 * (k + 1) ≡ 8 * k + 8 = omega arith in w)

  -- the entry of a place with an end in the place of its link is its record
  pub record_small : (l r e : ℕ) → PackedAt xs l r → e < 4294967296 → r - r % 65536 + e < 72057594037927936
  record_small l r e K b = let m = K.mark in let s = K.small in let g = K.gap in omega arith

  record_parts : (l r e : ℕ) → PackedAt xs l r → e < 4294967296
      → ((r - r % 65536 + e) % 4294967296 ≡ e) × ((r - r % 65536 + e) / 4294967296 % 65536 ≡ N.level l)
      × ((r - r % 65536 + e) / 281474976710656 ≡ N.mark l)
  record_parts l r e K b =
      let g = K.gap in
      let n = K.level in
      let m = K.mark in
      (omega arith, omega arith, omega arith)

  pub write_turn : (e p k₀ k l r : ℕ) (out₀ out out' : List ℕ) → Writing xs q e p out₀ k₀ out k l → l ≢ 0
      → PackedAt xs l r → e < 4294967296 → length out' ≡ length out
      → out' ≡ sets out (8 * k)
      (record_bytes ((r - r % 65536 + e) % 4294967296) ((r - r % 65536 + e) / 4294967296 % 65536)
      ((r - r % 65536 + e) / 281474976710656))
      → Writing xs q e p out₀ k₀ out' (k + 1) (r % 65536)
  write_turn e p k₀ k l r out₀ out out' W nz K small len put =
      let C = W.counting in
      let b = W.before in
      let z : k + 1 - k₀ ≡ k - k₀ + 1 = omega arith in
      let s = record_parts l r e K small in
      let here : out' ≡ sets out (8 * k) (record_bytes e (N.level l) (N.mark l)) =
      put ∙ (rw (s.0, s.1, s.2)) in
      record {
        kept = len ∙ W.kept;
        counting = rw z (count_turn p (k - k₀) l r C nz K);
        before = omega arith;
        left = rw (W.left, here, K.next) (written e k l out C.below nz (C.marked nz));
      }

  -- room for what is left
  pub write_room : (e p k₀ k l : ℕ) (out₀ out : List ℕ) → Writing xs q e p out₀ k₀ out k l → l ≢ 0
      → 8 * (k₀ + reports N p) ≤ length out₀ → 8 * k + 8 ≤ length out
  write_room e p k₀ k l out₀ out W nz fits =
      let C = W.counting in
      let n = linked_count xs q t F l C.below nz (C.marked nz) in
      let s = C.left in
      let b = W.before in
      let h = W.kept in
      omega arith

  -- place 0 has none
  none_left : (e l : ℕ) → l ≡ 0 → records_at N e l ≡ []
  none_left e l z = ap (λ (n : ℕ). records_at N e n) z ∙ records_zero N e

  pub count_end : (p n l : ℕ) → Counting xs q p n l → l ≡ 0 → n ≡ reports N p
  count_end p n l C z = let s = C.left in let h : reports N l ≡ 0 = ap {B = ℕ} length (none_left 0 l z) in omega arith

  pub write_end : (e p k₀ k l : ℕ) (out₀ out : List ℕ) → Writing xs q e p out₀ k₀ out k l → l ≡ 0
      → (k ≡ k₀ + reports N p) × (out ≡ sets out₀ (8 * k₀) (list_bytes (records_at N e p)))
  unfolding list_bytes
  write_end e p k₀ k l out₀ out W z =
      let n = count_end p (k - k₀) l W.counting z in
      let b = W.before in
      (omega arith, sym (W.left ∙ ap (λ (rs : List Record). sets out (8 * k) (list_bytes rs)) (none_left e l z)))

  -- fewer records than places
  pub few_reports : (p : ℕ) → p < q → reports N p < q
  few_reports p b = let f = records_few N 0 p in omega arith
