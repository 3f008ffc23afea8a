-- The two rules by which chains are told apart: whole, states and reaches (whole-rule), and bare, the states alone, for
-- books with loops (bare-rule); both are `told f`, each reach r told as f r (told-rule). level_of: a place's level is
-- its head's least reach over the texts that give its chain, and the length of the shortest of them (LevelOf). Assumes
-- nothing.
use mathlib.Core.Path.{◌≡◌, refl, sym, ap, ◌∙◌, subst, subst₂}
use mathlib.Core.Logic.{◌≢◌, ◌↔◌}
use mathlib.Core.Bool.{Bool, ◌||◌}
use Rattle.std.specs.Prelude.{Option, None, Some}
use mathlib.Core.List.{List, [], ◌∷◌, Memᴰ}
use Prim.Native.Nat.{ℕ, suc, ◌≤◌, ◌<◌}
use native.Mathlib.Omega.{arith}
use lib.ListN.{length, get_or}
use lib.Dec.{eqb}
use Rattle.meaning.specs.Text.{Text, Delta, Reach}
use Rattle.meaning.specs.Chain.{Live, live, Chain, has, put, step, chain, head, level, rest}
use Rattle.meaning.proofs.Cases.{by_bool}
use Rattle.meaning.proofs.Chain.{chain_is}
use Rattle.meaning.proofs.Fails.{level_text}
use Rattle.meaning.proofs.Keys.{Key, Rule}
use Rattle.meaning.proofs.Numbering.{NumbersBy}

abbrev pub told : (ℕ → ℕ) → Key
told f [] = []
told f (x ∷ c) = live x.state (f x.reach) ∷ told f c

abbrev pub whole : Key
whole c = c

abbrev pub bare : Key
bare = told (λ r. 0)

-- what is told of a reach tells what is told of the next
abbrev pub Steady : (ℕ → ℕ) → Type 0
Steady f = (m n : ℕ) → f m ≡ f n → f (suc m) ≡ f (suc n)

first : Chain → Chain
first [] = []
first (x ∷ c) = x ∷ []

glue : Chain → Chain → Chain
glue [] d = d
glue (x ∷ c) d = x ∷ d

cons_eq : (x y : Live) (c d : Chain) → (x ∷ c ≡ y ∷ d) ↔ ((◌≡◌ {A = Chain} (x ∷ []) (y ∷ [])) × (c ≡ d))
unfolding first glue
cons_eq x y c d = (
  (λ e. (ap first e, ap rest e)),
  λ e. ap (λ (z : Chain). glue z c) e.0 ∙ ap (λ (z : Chain). y ∷ z) e.1,
)

pub whole-rule : (δ : Delta) → Rule whole δ
whole-rule δ =
    record {
      key_none = λ c e. e;
      key_head = λ c d e. ap head e;
      key_rest = λ c d e. ap rest e;
      key_cons = cons_eq;
      key_step = λ c d a e. ap (λ (z : Chain). step δ z a) e;
    }

module _ (f : ℕ → ℕ) where
  pub told-has : (q : ℕ) (c : Chain) → has q (told f c) ≡ has q c
  told-has q [] = refl
  told-has q (x ∷ c) = ap (λ (b : Bool). eqb x.state q || b) (told-has q c)

  same-has : (q : ℕ) (c d : Chain) → told f c ≡ told f d → has q c ≡ has q d
  same-has q c d e = sym (told-has q c) ∙ ap (λ (z : Chain). has q z) e ∙ told-has q d

  told-put : (o : Option ℕ) (r s : ℕ) (c d : Chain) → f r ≡ f s → told f c ≡ told f d
      → told f (put o r c) ≡ told f (put o s d)
  told-put None r s c d g e = e
  told-put (Some q) r s c d g e =
      by_bool (has q d) (λ h. rw (same-has q c d e, h) e)
      (λ h. rw (same-has q c d e, h) (λ i. record { state = q; reach = g i } ∷ e i))

  told-head : (c : Chain) → head (told f c) ≡ head c
  told-head [] = refl
  told-head (x ∷ c) = refl

  told-rest : (c : Chain) → rest (told f c) ≡ told f (rest c)
  told-rest [] = refl
  told-rest (x ∷ c) = refl

  differ : {A : Type 0} (x : Live) (c : Chain) → told f (x ∷ c) ≡ [] → A
  differ x c e =
      let w : suc (length (told f c)) ≡ 0 = ap {B = ℕ} length e in
      absurd (let v : ⊥ = omega arith in v)

  told_none : (c : Chain) → told f c ≡ [] → c ≡ []
  told_none [] e = refl
  told_none (x ∷ c) e = differ x c e

  told-step : (δ : Delta) → Steady f → (c d : Chain) (a : ℕ) → told f c ≡ told f d
      → told f (step δ c a) ≡ told f (step δ d a)
  told-step δ st [] [] a e = refl
  told-step δ st [] (y ∷ d) a e = differ y d (sym e)
  told-step δ st (x ∷ c) [] a e = differ x c e
  told-step δ st (x ∷ c) (y ∷ d) a e =
      let s : x.state ≡ y.state = ap head e in
      let r : f x.reach ≡ f y.reach = ap level e in
      let m = suc x.reach in
      let n = suc y.reach in
      let ih = told-step δ st c d a (ap rest e) in
      ap (λ (q : ℕ). told f (put (δ q a) m (step δ c a))) s
      ∙ told-put (δ y.state a) m n (step δ c a) (step δ d a) (st x.reach y.reach r) ih

  pub told-rule : (δ : Delta) → Steady f → Rule (told f) δ
  told-rule δ st =
      record {
        key_none = told_none;
        key_head = λ c d e. sym (told-head c) ∙ ap head e ∙ told-head d;
        key_rest = λ c d e. sym (told-rest c) ∙ ap rest e ∙ told-rest d;
        key_cons = λ x y c d.
            cons_eq (live x.state (f x.reach)) (live y.state (f y.reach)) (told f c) (told f d);
        key_step = told-step δ st;
      }

pub bare-rule : (δ : Delta) → Rule bare δ
bare-rule δ = told-rule (λ r. 0) δ (λ m n e. refl)

pub told-whole : (c : Chain) → told (λ r. r) c ≡ c
told-whole [] = refl
told-whole (x ∷ c) = ap (λ (z : Chain). x ∷ z) (told-whole c)

-- THE LEVEL of a place, by a key: also the length of the shortest text that gives its chain
pub record LevelOf (key : Key) (δ : Delta) (c : Chain) (n : ℕ) : Type 0 where
  pub text : Text
  pub gives : key (chain δ text) ≡ key c
  pub as_long : length text ≡ n
  pub its_reach : head c ≢ 0 → Reach δ text (head c) n
  pub shortest : (t : Text) → key (chain δ t) ≡ key c → n ≤ length t
  pub least : (t : Text) (r : ℕ) → key (chain δ t) ≡ key c → Reach δ t (head c) r → n ≤ r

-- the level of a text's chain is its head's reach
pub head_reach : (δ : Delta) (t : Text) (c : Chain) → chain δ t ≡ c → head c ≢ 0 → Reach δ t (head c) (level c)
head_reach δ t [] e nz = absurd (nz refl)
head_reach δ t (x ∷ c) e nz =
    (chain_is δ t).reaches x.state x.reach (subst (λ (z : Chain). Memᴰ x z) (sym e) (Memᴰ.head refl))

module _ (key : Key) (δ : Delta) (R : Rule key δ) (L : List Chain) (N : NumbersBy key δ L) where
  pub level_of : (i : ℕ) → i < length L → LevelOf key δ (get_or L i []) (level (get_or L i []))
  level_of i l =
      let c = get_or L i [] in
      let r = N.only i l in
      let m = N.least i r.0 l r.1 in
      let k = level_text δ r.0 in
      let z = r.2 in
      let lv : level (chain δ r.0) ≡ level c = omega arith in
      let hd : head (chain δ r.0) ≡ head c = R.key_head (chain δ r.0) c r.1 in
      record {
        text = r.0;
        gives = r.1;
        as_long = r.2;
        its_reach = λ nz.
            let H = head_reach δ r.0 (chain δ r.0) refl (λ y. nz (sym hd ∙ y)) in
            subst₂ (λ (q n : ℕ). Reach δ r.0 q n) hd lv H;
        shortest = λ t e. let k = N.least i t l e in let m = level_text δ t in omega arith;
        least = λ t q e S.
            let k = N.least i t l e in
            let h : head (chain δ t) ≡ head c = R.key_head (chain δ t) c e in
            let T = head_reach δ t (chain δ t) refl (λ z. S.0 (sym h ∙ z)) in
            let m = T.2 q (subst (λ (n : ℕ). Reach δ t n q) (sym h) S).1 in
            omega arith;
      }
