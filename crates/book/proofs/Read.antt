-- What the readers read, on plain values: a record from where it starts, which past the end of the bytes is zeros; the
-- trailer's numbers. Assumes nothing.
use mathlib.Core.Path.{◌≡◌, refl, sym, ap, ◌∙◌}
use mathlib.Core.List.{List}
use Prim.Native.Nat.{ℕ, ◌+◌, ◌≤◌}
use native.Mathlib.Omega.{arith}
use lib.ListN.{length, get_or-eq_default}
use Rattle.wire.specs.Little.{ByteIs, NumberIs, le16_at, le32_at}
use Rattle.wire.proofs.Little.{le16_out}
use Rattle.book.specs.Form.{trailer_at, trailer_of}
use Rattle.book.specs.Form.{state_place, edge_place, state_record_at, edge_record_at}
use Rattle.book.specs.Reads.{StateIs, EdgeIs}
use Rattle.book.specs.declared.Trailer.{Trailer}
use Rattle.book.specs.declared.StateRecord.{StateRecord}
use Rattle.book.specs.declared.EdgeRecord.{EdgeRecord}

byte-past : (t : List ℕ) (at : ℕ) {b : ℕ} → b ≡ 0 → length t ≤ at → ByteIs t at b
byte-past t at e h = record { is = e ∙ sym (get_or-eq_default t 0 h); small = omega arith }

number-past : (t : List ℕ) (at : ℕ) {n : ℕ} → n ≡ 0 → length t ≤ at → NumberIs (le16_at t at) 65536 n
number-past t at e h = record { is = e ∙ sym (le16_out t at h); small = omega arith }

-- ---- a record from its bytes, and one past the end of the bytes
module _ (t : List ℕ) (s : ℕ) {r : StateRecord} where
  pub state_read : (at : ℕ) → at ≡ state_place s → ByteIs t at r.mark → ByteIs t (at + 1) r.spare
      → NumberIs (le16_at t (at + 2)) 65536 r.count → StateIs (state_record_at t s) r
  unfolding state_record_at
  state_read at e m p n =
      record {
        is = λ i. record { mark = (rw e at m.is) i; spare = (rw e at p.is) i; count = (rw e at n.is) i };
        mark = m.small;
        count = n.small;
      }

  pub state-past : (r.mark ≡ 0) × ((r.spare ≡ 0) × (r.count ≡ 0)) → length t ≤ state_place s → StateIs (state_record_at t s) r
  state-past (m, (p, n)) h =
      let at = state_place s in
      state_read at refl (byte-past t at m h) (byte-past t (at + 1) p (omega arith)) (number-past t (at + 2) n (omega arith))

module _ (t : List ℕ) (S j : ℕ) {r : EdgeRecord} where
  pub edge_read : (at : ℕ) → at ≡ edge_place S j → ByteIs t at r.event → ByteIs t (at + 1) r.spare
      → NumberIs (le16_at t (at + 2)) 65536 r.target → EdgeIs (edge_record_at t S j) r
  unfolding edge_record_at
  edge_read at e m p n =
      record {
        is = λ i. record { event = (rw e at m.is) i; spare = (rw e at p.is) i; target = (rw e at n.is) i };
        event = m.small;
        target = n.small;
      }

  pub edge-past : (r.event ≡ 0) × ((r.spare ≡ 0) × (r.target ≡ 0)) → length t ≤ edge_place S j → EdgeIs (edge_record_at t S j) r
  edge-past (m, (p, n)) h =
      let at = edge_place S j in
      edge_read at refl (byte-past t at m h) (byte-past t (at + 1) p (omega arith)) (number-past t (at + 2) n (omega arith))

pub trailer_read : (xs : List ℕ) (at d s e f : ℕ) → at ≡ trailer_at xs
    → d ≡ le32_at xs at → s ≡ le16_at xs (at + 4) → e ≡ le16_at xs (at + 6) → f ≡ le16_at xs (at + 8)
    → ◌≡◌ {A = Trailer} (record { distance = d; states = s; edges = e; form = f }) (trailer_of xs)
unfolding trailer_of
trailer_read xs at d s e f h p q r u =
    λ i. record {
      distance = (p ∙ ap (λ (k : ℕ). le32_at xs k) h) i;
      states = (q ∙ ap (λ (k : ℕ). le16_at xs (k + 4)) h) i;
      edges = (r ∙ ap (λ (k : ℕ). le16_at xs (k + 6)) h) i;
      form = (u ∙ ap (λ (k : ℕ). le16_at xs (k + 8)) h) i;
    }
