-- Records written one after the other. `spread_snoc`, `spread-append`: their bytes. `wrote_none`, `wrote_then`: what was
-- written so far. `sets_below`, `sets_at`: a byte below what was written stays, and one of it is what was written. Assumes
-- nothing.
use mathlib.Core.Path.{◌≡◌, refl, sym, ap, ◌∙◌}
use mathlib.Core.List.{List, [], ◌∷◌, ◌++◌, append_assoc, append-nil}
use Prim.Native.Nat.{ℕ, suc, ◌+◌, ◌*◌, ◌≤◌, ◌<◌}
use native.Mathlib.Omega.{arith}
use native.Mathlib.Nat.{mul-suc, mul-zero}
use lib.ListN.{length, get_or, set, take, drop, length-append}
use lib.Seq.{sets, sets-eq, length-take-le, get_or-set_other, get_or-append-add}
use Rattle.wire.proofs.Sets.{sets_then}
use Rattle.compile.specs.Bytes.{spread}
use Rattle.compile.specs.Write.{Wrote}

-- records one after the other
module _ {A : Type 0} (g : A → List ℕ) where
  pub spread-append : (rs ss : List A) → spread g (rs ++ ss) ≡ spread g rs ++ spread g ss
  spread-append [] ss = refl
  spread-append (r ∷ rs) ss = rw (spread-append rs ss) (sym (append_assoc (g r) (spread g rs) (spread g ss)))

  pub spread_snoc : (rs : List A) (r : A) → spread g (rs ++ (r ∷ [])) ≡ spread g rs ++ g r
  spread_snoc rs r = spread-append rs (r ∷ []) ∙ rw append-nil

  pub length-spread : (k : ℕ) → ((r : A) → length (g r) ≡ k) → (rs : List A) → length (spread g rs) ≡ k * length rs
  length-spread k h [] = sym (mul-zero k)
  length-spread k h (r ∷ rs) =
      let a = length-append (g r) (spread g rs) in
      let b = h r in
      let i = length-spread k h rs in
      let e = mul-suc k (length rs) in
      omega arith

pub wrote_none : (d : List ℕ) (at : ℕ) → Wrote d at [] d at
wrote_none d at = record { is = refl; next = omega arith }

pub wrote_then : {d d' d'' bs cs : List ℕ} {at m r : ℕ} → Wrote d at bs d' m → Wrote d' m cs d'' r
    → Wrote d at (bs ++ cs) d'' r
wrote_then {d} {bs = bs} {cs = cs} {at = at} {m = m} X Y =
    let l = length-append bs cs in
    let a = X.next in
    let b = Y.next in
    record {
      is = Y.is ∙ ap (λ (z : List ℕ). sets z m cs) X.is ∙ sym (sets_then d at m bs cs X.next);
      next = omega arith;
    }

-- what was written, byte by byte, where there is room for it
pub sets_below : (d : List ℕ) (at : ℕ) (bs : List ℕ) (i : ℕ) → i < at → get_or (sets d at bs) i 0 ≡ get_or d i 0
sets_below d at [] i l = refl
sets_below d at (b ∷ bs) i l =
    sets_below (set d at b) (suc at) bs i (omega arith) ∙ get_or-set_other d at i b 0 (omega arith)

pub sets_at : (d : List ℕ) (at : ℕ) (bs : List ℕ) → at + length bs ≤ length d → (i : ℕ)
    → get_or (sets d at bs) (at + i) 0 ≡ get_or (bs ++ drop (at + length bs) d) i 0
sets_at d at bs l i =
    let n = length-take-le at d (omega arith) in
    let e : at + i ≡ length (take at d) + i = omega arith in
    ap (λ (z : List ℕ). get_or z (at + i) 0)
    (sets-eq bs d at l ∙ append_assoc (take at d) bs (drop (at + length bs) d))
    ∙ ap (λ (k : ℕ). get_or (take at d ++ (bs ++ drop (at + length bs) d)) k 0) e
    ∙ get_or-append-add (take at d) (bs ++ drop (at + length bs) d) i 0
