-- Laws of decimal numbers. `decimal_digit`, `decimal_more`: a number of one digit, and of more. `decimal_value`: the
-- digits are the number's. `decimal_front`: no zero stands in front. `decimal-length`: how many there are.
-- Assumes nothing.
use mathlib.Core.Path.{◌≡◌, refl, ap, ◌∙◌}
use mathlib.Core.List.{List, [], ◌∷◌, ◌++◌}
use Prim.Native.Nat.{ℕ, zero, suc, ◌+◌, ◌*◌, ◌-◌, ◌/◌, ◌%◌, ◌^◌, ◌≤◌, ◌<◌}
use native.Mathlib.Nat.{pow-suc}
use native.Mathlib.Omega.{arith}
use lib.ListN.{length, length-append}
use lib.Dec.{ltb}
use borrow.Author.Tests.{lt-ltb, le-ltb, ltb-true, ltb-false}
use Rattle.lists.specs.Letters.{letter}
use Rattle.lists.specs.Decimal.{digit, decimal_within, decimal}
use Rattle.meaning.proofs.Cases.{by_bool}

-- more digits than enough change nothing
decimal_within_enough : (f g n : ℕ) → n < f → n < g → decimal_within f n ≡ decimal_within g n
decimal_within_enough zero g n h k = absurd (omega arith)
decimal_within_enough (suc f) zero n h k = absurd (omega arith)
decimal_within_enough (suc f) (suc g) n h k =
    by_bool (ltb n 10)
    (λ t. rw t)
    (λ t. let large : 10 ≤ n = ltb-false n 10 t in rw t
    (ap (λ (ds : List ℕ). ds ++ (digit (n % 10) ∷ []))
    (decimal_within_enough f g (n / 10) (omega arith) (omega arith))))

pub decimal_digit : (n : ℕ) → n < 10 → decimal n ≡ digit n ∷ []
unfolding decimal
decimal_digit n small = rw (lt-ltb n 10 small)

pub decimal_more : (n : ℕ) → 10 ≤ n → decimal n ≡ decimal (n / 10) ++ (digit (n % 10) ∷ [])
unfolding decimal
decimal_more n large =
    rw (le-ltb n 10 large)
    (ap (λ (ds : List ℕ). ds ++ (digit (n % 10) ∷ []))
    (decimal_within_enough n (suc (n / 10)) (n / 10) (omega arith) (omega arith)))

-- the number that digits stand for, after those that stand for n
abbrev pub valued : ℕ → List ℕ → ℕ
valued n [] = n
valued n (d ∷ ds) = valued (10 * n + (d - letter "0")) ds

valued-append : (n : ℕ) (ds es : List ℕ) → valued n (ds ++ es) ≡ valued (valued n ds) es
valued-append n [] es = refl
valued-append n (d ∷ ds) es = valued-append (10 * n + (d - letter "0")) ds es

valued-within : (f n : ℕ) → n < f → valued 0 (decimal_within f n) ≡ n
valued-within zero n h = absurd (omega arith)
valued-within (suc f) n h =
    by_bool (ltb n 10)
    (λ t. let small : n < 10 = ltb-true n 10 t in rw t (omega arith))
    (λ t. let large : 10 ≤ n = ltb-false n 10 t in rw t
    (valued-append 0 (decimal_within f (n / 10)) (digit (n % 10) ∷ [])
    ∙ rw (valued-within f (n / 10) (omega arith)) (omega arith)))

-- the digits are the number's
pub decimal_value : (n : ℕ) → valued 0 (decimal n) ≡ n
unfolding decimal
decimal_value n = valued-within (suc n) n (omega arith)

-- a first digit that is not 0
abbrev pub Fronted : List ℕ → Type 0
Fronted ds = (d : ℕ) × (rest : List ℕ) × (ds ≡ digit d ∷ rest) × (1 ≤ d) × (d ≤ 9)

fronted_append : (ds es : List ℕ) → Fronted ds → Fronted (ds ++ es)
fronted_append ds es f = (f.0, f.1 ++ es, ap (λ (z : List ℕ). z ++ es) f.2, f.3, f.4)

fronted_within : (f n : ℕ) → 0 < n → n < f → Fronted (decimal_within f n)
fronted_within zero n g h = absurd (omega arith)
fronted_within (suc f) n g h =
    by_bool (ltb n 10)
    (λ t. let small : n < 10 = ltb-true n 10 t in rw t (n, [], refl, omega arith, omega arith))
    (λ t. let large : 10 ≤ n = ltb-false n 10 t in rw t
    (fronted_append (decimal_within f (n / 10)) (digit (n % 10) ∷ [])
    (fronted_within f (n / 10) (omega arith) (omega arith))))

pub decimal_front : (n : ℕ) → 0 < n → Fronted (decimal n)
unfolding decimal
decimal_front n g = fronted_within (suc n) n g (omega arith)

length-within : (f n k : ℕ) → n < 10 ^ k → 1 ≤ k → length (decimal_within f n) ≤ k
length-within zero n k h g = omega arith
length-within (suc f) n zero h g = absurd (omega arith)
length-within (suc f) n (suc zero) h g = rw (lt-ltb n 10 h) (omega arith)
length-within (suc f) n (suc (suc k)) h g =
    let p : n < 10 ^ suc k * 10 = rw pow-suc at h in
    by_bool (ltb n 10)
    (λ t. let small : n < 10 = ltb-true n 10 t in rw t (omega arith))
    (λ t. let large : 10 ≤ n = ltb-false n 10 t in rw (t, length-append)
    (omega (arith, length-within f (n / 10) (suc k) (omega arith) (omega arith))))

-- a number below 10 ^ k has at most k digits
pub decimal-length : (n k : ℕ) → n < 10 ^ k → 1 ≤ k → length (decimal n) ≤ k
unfolding decimal
decimal-length n k h g = length-within (suc n) n k h g
