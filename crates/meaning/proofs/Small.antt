-- Where a book's edges rise a reach is at most its state (reach_state). So with targets below n the states and reaches
-- of a chain are below n (member_small, level_small), and it has fewer than n members (chain-short), being no longer
-- than its level (chain_length); place_small: the same of every place. With 512 states that is at most 511. Assumes
-- nothing.
use mathlib.Core.Path.{◌≡◌, refl, sym, subst}
use mathlib.Core.List.{List, [], ◌∷◌, Memᴰ}
use Prim.Native.Nat.{ℕ, ◌≤◌, ◌<◌}
use native.Mathlib.Omega.{arith}
use lib.ListN.{length, get_or}
use Rattle.meaning.specs.Text.{Text, Delta, Reach}
use Rattle.meaning.specs.Chain.{Live, Chain, chain, level}
use Rattle.meaning.specs.Places.{Numbers}
use Rattle.meaning.proofs.Book.{Rising, Under, read_length, read_under}
use Rattle.meaning.proofs.Chain.{chain_is}
use Rattle.meaning.proofs.Fails.{Stacked, chain_stacked}
use Rattle.meaning.proofs.Places.{place_reached}

pub reach_state : (δ : Delta) → Rising δ → (t : Text) (q n : ℕ) → Reach δ t q n → n ≤ q
reach_state δ up t q n R = let i = read_length δ up R.1.1 0 q R.1.4 in let l = R.1.3 in omega arith

-- reaches fall strictly to 1 or more
pub chain_length : (c : Chain) → Stacked c → length c ≤ level c
chain_length [] s = omega arith
chain_length (x ∷ c) s = let i = chain_length c s.1 in let l = s.0 in omega arith

module _ (δ : Delta) (n : ℕ) (pos : 0 < n) (up : Rising δ) (un : Under n δ) where
  pub member_small : (t : Text) (x : Live) → Memᴰ x (chain δ t) → (x.reach ≤ x.state) × (x.state < n)
  member_small t x m =
      let R = (chain_is δ t).reaches x.state x.reach m in
      (reach_state δ up t x.state x.reach R, read_under δ n un R.1.1 0 x.state pos R.1.4)

  pub level_small : (t : Text) → level (chain δ t) < n
  level_small t = go (chain δ t) refl
    where
      go : (c : Chain) → chain δ t ≡ c → level c < n
      go [] e = pos
      go (x ∷ c) e =
          let m = member_small t x (subst (λ (z : Chain). Memᴰ x z) (sym e) (Memᴰ.head refl)) in
          let u = m.0 in
          let v = m.1 in
          omega arith

  pub chain-short : (t : Text) → length (chain δ t) < n
  chain-short t = let l = chain_length (chain δ t) (chain_stacked δ t) in let k = level_small t in omega arith

  -- the same of every place
  pub place_small : (L : List Chain) → Numbers δ L → (i : ℕ) → i < length L
      → (level (get_or L i []) < n) × (length (get_or L i []) < n)
  place_small L N i l =
      let r = place_reached δ L N i l in
      subst (λ (c : Chain). (level c < n) × (length c < n)) r.1 (level_small r.0, chain-short r.0)
