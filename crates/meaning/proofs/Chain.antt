-- The chain of a text is what document 01 says, and nothing else is: chain_is, chain_unique. Live states have reaches,
-- all different, and stand in the chain: alive_reach, chain-has, in_alive, reaches_differ; alive_snoc: after one more
-- event. forget: long texts that end alike have one chain. `Lists at b c` is a chain in general, of what `at` has below
-- b: step_lists, lists_unique. Assumes nothing.
use mathlib.Core.Path.{◌≡◌, refl, sym, ap, ◌∙◌}
use mathlib.Core.Logic.{◌≢◌, ◌⊎◌, inl, inr, ◌↔◌, ⊎_elim}
use mathlib.Core.Bool.{Bool, true, false}
use Rattle.std.specs.Prelude.{Option, None, Some}
use mathlib.Core.List.{[], ◌∷◌, ◌++◌, reverse, reverse_aux, reverse-append}
use mathlib.Core.List.{Memᴰ}
use Prim.Native.Nat.{ℕ, zero, suc, ◌+◌, ◌≤◌, ◌<◌}
use native.Mathlib.Omega.{arith}
use lib.ListN.{length, length-reverse, length-append}
use lib.Dec.{eqb}
use borrow.Author.Tests.{eqb-true, eq-eqb}
use Rattle.meaning.specs.Choice.{when}
use Rattle.meaning.specs.Text.{Text, Delta, read, Leads, Alive, Reach}
use Rattle.meaning.specs.Chain.{Live, live, Chain, In, Once, Below, Falling, IsChain, has, put, step, steps, chain}
use Rattle.meaning.proofs.Cases.{by_bool, by_eq, by_order, none_some, true_false}
use Rattle.meaning.proofs.Text.{last, then_some, some_then, last_length, last_append, leads_last, last_leads}

module _ (δ : Delta) where
  pub steps_snoc : (c : Chain) (t : Text) (a : ℕ) → steps δ c (t ++ (a ∷ [])) ≡ step δ (steps δ c t) a
  steps_snoc c [] a = refl
  steps_snoc c (b ∷ t) a = steps_snoc (step δ c b) t a

  pub chain_snoc : (t : Text) (a : ℕ) → chain δ (t ++ (a ∷ [])) ≡ step δ (chain δ t) a
  chain_snoc t a = steps_snoc [] t a

  pub steps-append : (c : Chain) (s t : Text) → steps δ c (s ++ t) ≡ steps δ (steps δ c s) t
  steps-append c [] t = refl
  steps-append c (a ∷ s) t = steps-append (step δ c a) s t

  -- the same with the newest event first
  abbrev pub chain_r : Text → Chain
  chain_r [] = []
  chain_r (a ∷ h) = step δ (chain_r h) a

  steps_chain_r : (h t : Text) → steps δ (chain_r h) t ≡ chain_r (reverse_aux t h)
  steps_chain_r h [] = refl
  steps_chain_r h (a ∷ t) = steps_chain_r (a ∷ h) t

  pub chain-reverse : (t : Text) → chain δ t ≡ chain_r (reverse t)
  chain-reverse t = steps_chain_r [] t

pub has-zero : (q : ℕ) (c : Chain) → q ≡ 0 → has q c ≡ true
has-zero q [] z = eq-eqb q 0 z
has-zero q (x ∷ c) z = by_bool (eqb x.state q) (λ f. rw f) (λ f. rw (f, has-zero q c z))

pub has-In : (q : ℕ) (c : Chain) → q ≢ 0 → has q c ≡ true → In q c
has-In q [] nz e = absurd (nz (eqb-true q 0 e))
has-In q (x ∷ c) nz e =
    by_bool (eqb x.state q)
    (λ f.
    let g : q ≡ x.state = sym (eqb-true x.state q f) in
    (x.reach, mathlib.Core.List.Memᴰ.head (ap (λ (k : ℕ). live k x.reach) g)))
    (λ f. let i = has-In q c nz (sym (rw f) ∙ e) in (i.0, mathlib.Core.List.Memᴰ.tail i.1))

pub In-has : (q r : ℕ) (c : Chain) → Memᴰ (live q r) c → has q c ≡ true
In-has q r [] x' = elim x' [ ]
In-has q r (x ∷ c) (mathlib.Core.List.Memᴰ.head e) = let f : x.state ≡ q = cc in rw (eq-eqb x.state q f)
In-has q r (x ∷ c) (mathlib.Core.List.Memᴰ.tail m) = by_bool (eqb x.state q) (λ f. rw f) (λ f. rw (f, In-has q r c m))

-- c lists the states other than 0 that `at` has at a number below b, each with the least such number
pub record Lists (at : ℕ → Option ℕ) (b : ℕ) (c : Chain) : Type 0 where
  pub nonzero : (x : Live) → Memᴰ x c → x.state ≢ 0
  pub stands : (x : Live) → Memᴰ x c → at x.reach ≡ Some x.state
  pub least : (x : Live) → Memᴰ x c → (m : ℕ) → at m ≡ Some x.state → x.reach ≤ m
  pub below : Below b c
  pub full : (q n : ℕ) → q ≢ 0 → n < b → at n ≡ Some q → In q c
  pub falling : Falling c

-- what stands in a chain after a state is put in front
abbrev Put : Option ℕ → ℕ → Chain → Live → Type 0
Put o r d x = (o ≡ Some x.state) × (x.reach ≡ r) × (has x.state d ≡ false)

mem-put : (o : Option ℕ) (r : ℕ) (d : Chain) (x : Live) → Memᴰ x (put o r d) → Memᴰ x d ⊎ Put o r d x
mem-put None r d x m = inl m
mem-put (Some p) r d x m = by (has p d) refl m
  where
    new : has p d ≡ false → (x ≡ live p r) ⊎ Memᴰ x d → Memᴰ x d ⊎ Put (Some p) r d x
    new e (inl f) =
        let g : x.state ≡ p = ap (λ (y : Live). y.state) f in
        inr (ap {B = Option ℕ} Some (sym g), ap (λ (y : Live). y.reach) f, rw g e)
    new e (inr h) = inl h

    by : (b : Bool) → has p d ≡ b → Memᴰ x (when b d (live p r ∷ d)) → Memᴰ x d ⊎ Put (Some p) r d x
    by true e m = inl m
    by false e m = new e (mathlib.Core.List.Memᴰ.cases_cons m)

put_in : (o : Option ℕ) (r : ℕ) (d : Chain) (q : ℕ) → q ≢ 0 → (o ≡ Some q) ⊎ In q d → In q (put o r d)
put_in None r d q nz (inl e) = none_some refl e
put_in None r d q nz (inr i) = i
put_in (Some p) r d q nz w = by_bool (has p d) (λ e. rw e (old e w)) (λ e. rw e (new w))
  where
    old : has p d ≡ true → (◌≡◌ {A = Option ℕ} (Some p) (Some q)) ⊎ In q d → In q d
    old e (inl f) = let g : p ≡ q = cc in has-In q d nz (rw g at e)
    old e (inr i) = i

    new : (◌≡◌ {A = Option ℕ} (Some p) (Some q)) ⊎ In q d → In q (live p r ∷ d)
    new (inl f) = let g : q ≡ p = cc in (r, mathlib.Core.List.Memᴰ.head (ap (λ (k : ℕ). live k r) g))
    new (inr i) = (i.0, mathlib.Core.List.Memᴰ.tail i.1)

put-falling : (o : Option ℕ) (r : ℕ) (d : Chain) → Below r d → Falling d → Falling (put o r d)
put-falling None r d l f = f
put-falling (Some p) r d l f = by_bool (has p d) (λ e. rw e f) (λ e. rw e (l, f))

-- the state that `at` has at r put in front of what it has below: all below b, where nothing new stands between
module _ (at : ℕ → Option ℕ) (r b : ℕ) (d : Chain) (L : Lists at r d) (o : Option ℕ) (here : at r ≡ o) (more : r < b)
    (between : (q n : ℕ) → q ≢ 0 → r < n → n < b → at n ≡ Some q → (o ≡ Some q) ⊎ In q d) where
  put_lists : Lists at b (put o r d)
  put_lists =
      record {
        nonzero = λ x m. old_new x m (λ h. L.nonzero x h) (λ e f g z. true_false (has-zero x.state d z) g);
        stands = λ x m. old_new x m (λ h. L.stands x h) (λ e f g. rw f (here ∙ e));
        least = λ x m k a. old_new x m (λ h. L.least x h k a)
            (λ e f g. by_order k r (λ h. not_before x k g h a) (λ h. omega arith) (λ h. omega arith));
        below = λ x m. old_new x m (λ h. let l = L.below x h in omega arith) (λ e f g. omega arith);
        full = λ q n nz l a.
            put_in o r d q nz
            (by_order n r (λ h. inr (L.full q n nz h a)) (λ h. inl (sym here ∙ (rw h at a)))
            (λ h. between q n nz h l a));
        falling = put-falling o r d L.below L.falling;
      }
    where
      old_new : {A : Type 0} (x : Live) → Memᴰ x (put o r d) → (Memᴰ x d → A)
          → ((o ≡ Some x.state) → (x.reach ≡ r) → (has x.state d ≡ false) → A) → A
      old_new x m f g = ⊎_elim (λ h. f h) (λ h. g h.0 h.1 h.2) (mem-put o r d x m)

      not_before : {A : Type 0} (x : Live) (k : ℕ) → has x.state d ≡ false → k < r → at k ≡ Some x.state → A
      not_before x k g h a =
          let i = L.full x.state k (λ z. true_false (has-zero x.state d z) g) h a in
          true_false (In-has x.state i.0 d i.1) g

-- a chain without its head lists what is below the head's reach
pub rest_lists : (at : ℕ → Option ℕ) (b : ℕ) (x : Live) (c : Chain) → Lists at b (x ∷ c) → Lists at x.reach c
rest_lists at b x c L =
    record {
      nonzero = λ y m. L.nonzero y (mathlib.Core.List.Memᴰ.tail m);
      stands = λ y m. L.stands y (mathlib.Core.List.Memᴰ.tail m);
      least = λ y m. L.least y (mathlib.Core.List.Memᴰ.tail m);
      below = L.falling.0;
      full = λ q n nz l a. go q n a l (L.full q n nz (let k = L.below x (mathlib.Core.List.Memᴰ.head refl) in omega arith) a);
      falling = L.falling.1;
    }
  where
    go : (q n : ℕ) → at n ≡ Some q → n < x.reach → In q (x ∷ c) → In q c
    go q n a l i = by (mathlib.Core.List.Memᴰ.cases_cons i.1)
      where
        by : (live q i.0 ≡ x) ⊎ Memᴰ (live q i.0) c → In q c
        by (inl e) =
            let f : q ≡ x.state = cc in
            let g : x.reach ≤ n = L.least x (mathlib.Core.List.Memᴰ.head refl) n (rw f at a) in
            absurd (let w : ⊥ = omega arith in w)
        by (inr m) = (i.0, m)

none_lists : (at : ℕ → Option ℕ) → at 0 ≡ Some 0 → Lists at 1 []
none_lists at z =
    record {
      nonzero = λ x m. absurd (mathlib.Core.List.Memᴰ.not-nil m);
      stands = λ x m. absurd (mathlib.Core.List.Memᴰ.not-nil m);
      least = λ x m. absurd (mathlib.Core.List.Memᴰ.not-nil m);
      below = λ x m. absurd (mathlib.Core.List.Memᴰ.not-nil m);
      full = λ q n nz l a.
          let e : n ≡ 0 = omega arith in
          let f : at 0 ≡ Some q = rw e at a in
          let g : q ≡ 0 = cc in
          absurd (nz g);
      falling = tt;
    }

module _ (δ : Delta) where
  module _ (h : Text) (a : ℕ) where
    -- what is alive after the event comes from state 0 or from a state of the chain
    from : (c : Chain) (b : ℕ) → Lists (last δ h) b c → (q n : ℕ) → 1 ≤ n → n < suc b → last δ (a ∷ h) n ≡ Some q
        → (δ 0 a ≡ Some q) ⊎ ((p : ℕ) × In p c × (δ p a ≡ Some q))
    from c b L q zero l k e = absurd (let w : ⊥ = omega arith in w)
    from c b L q (suc n) l k e =
        let t = then_some δ h a n q e in
        by_eq t.0 0 (λ z. inl (rw z at t.2)) (λ nz. inr (t.0, L.full t.0 n nz (omega arith) t.1, t.2))

    pub step_lists : (c : Chain) (b : ℕ) → 1 ≤ b → Lists (last δ h) b c → Lists (last δ (a ∷ h)) (suc b) (step δ c a)
    step_lists [] b l L =
        put_lists (last δ (a ∷ h)) 1 (suc b) [] (none_lists (last δ (a ∷ h)) refl) (δ 0 a) refl (omega arith)
        (λ q n nz m k e.
        ⊎_elim (λ f. inl f) (λ f. absurd (mathlib.Core.List.Memᴰ.not-nil f.1.1)) (from [] b L q n (omega arith) k e))
    step_lists (x ∷ c) b l L =
        let top : Memᴰ x (x ∷ c) = mathlib.Core.List.Memᴰ.head refl in
        let pos : 1 ≤ x.reach = one_le x.reach (λ z. L.nonzero x top (state-zero x z (L.stands x top))) in
        let T : Lists (last δ h) x.reach c = rest_lists (last δ h) b x c L in
        let I : Lists (last δ (a ∷ h)) (suc x.reach) (step δ c a) = step_lists c x.reach pos T in
        let lt : x.reach < b = L.below x top in
        put_lists (last δ (a ∷ h)) (suc x.reach) (suc b) (step δ c a) I (δ x.state a)
        (some_then δ h a x.reach x.state (L.stands x top)) (omega arith)
        (λ q n nz m k e.
        ⊎_elim (λ f. inr (I.full q 1 nz (omega arith) f))
        (λ f.
        ⊎_elim
        (λ g. let s : f.0 ≡ x.state = ap (λ (y : Live). y.state) g in inl (rw s at f.2))
        (λ g.
        let y = live f.0 f.1.0 in
        let u = T.below y g in
        inr (I.full q (suc f.1.0) nz (omega arith) (some_then δ h a f.1.0 f.0 (T.stands y g) ∙ f.2)))
        (mathlib.Core.List.Memᴰ.cases_cons f.1.1))
        (from (x ∷ c) b L q n (omega arith) k e))
      where
        one_le : (n : ℕ) → (n ≡ 0 → ⊥) → 1 ≤ n
        one_le n f = omega arith

        state-zero : (y : Live) → y.reach ≡ 0 → last δ h y.reach ≡ Some y.state → y.state ≡ 0
        state-zero y z e = let f : last δ h 0 ≡ Some y.state = rw z at e in cc

  -- the chain of a history lists what its endings lead to
  pub chain_r_lists : (h : Text) → Lists (last δ h) (suc (length h)) (chain_r δ h)
  chain_r_lists [] = none_lists (last δ []) refl
  chain_r_lists (a ∷ h) = step_lists h a (chain_r δ h) (suc (length h)) (omega arith) (chain_r_lists h)

  chain_lists : (t : Text) → Lists (last δ (reverse t)) (suc (length (reverse t))) (chain δ t)
  chain_lists t = rw chain-reverse (chain_r_lists (reverse t))

-- every member of c is one of d
abbrev Within : Chain → Chain → Type 0
Within c d = (x : Live) → Memᴰ x c → Memᴰ x d

-- two falling chains with the same members are equal: the heads first
same_head : (x y : Live) (c d : Chain) → Below x.reach c → Below y.reach d
    → Memᴰ x (y ∷ d) → Memᴰ y (x ∷ c) → x ≡ y
same_head x y c d f g m k =
    ⊎_elim (λ e. e)
    (λ u.
    ⊎_elim (λ e. sym e)
    (λ v. let l = g x u in let r = f y v in absurd (let w : ⊥ = omega arith in w))
    (mathlib.Core.List.Memᴰ.cases_cons k))
    (mathlib.Core.List.Memᴰ.cases_cons m)

-- then the rest
same_rest : (x y : Live) (c d : Chain) → x.reach ≡ y.reach → Below x.reach c → Within (x ∷ c) (y ∷ d) → Within c d
same_rest x y c d r f to z m =
    ⊎_elim
    (λ h.
    let l = f z m in
    let k : z.reach ≡ y.reach = ap (λ (z : Live). z.reach) h in
    absurd (let w : ⊥ = omega arith in w))
    (λ h. h) (mathlib.Core.List.Memᴰ.cases_cons (to z (mathlib.Core.List.Memᴰ.tail m)))

same : (c d : Chain) → Falling c → Falling d → Within c d → Within d c → c ≡ d
same [] [] f g to fro = refl
same [] (y ∷ d) f g to fro = absurd (mathlib.Core.List.Memᴰ.not-nil (fro y (mathlib.Core.List.Memᴰ.head refl)))
same (x ∷ c) [] f g to fro = absurd (mathlib.Core.List.Memᴰ.not-nil (to x (mathlib.Core.List.Memᴰ.head refl)))
same (x ∷ c) (y ∷ d) f g to fro =
    let e : x ≡ y = same_head x y c d f.0 g.0 (to x (mathlib.Core.List.Memᴰ.head refl)) (fro y (mathlib.Core.List.Memᴰ.head refl)) in
    let r : x.reach ≡ y.reach = ap (λ (z : Live). z.reach) e in
    let t : c ≡ d = same c d f.1 g.1 (same_rest x y c d r f.0 to) (same_rest y x d c (sym r) g.0 fro) in
    cc

-- what lists the same is the same
lists_mem : (at : ℕ → Option ℕ) (b : ℕ) (c d : Chain) → Lists at b c → Lists at b d → Within c d
lists_mem at b c d L M x m =
    let i = M.full x.state x.reach (L.nonzero x m) (L.below x m) (L.stands x m) in
    let y = live x.state i.0 in
    let l = L.least x m i.0 (M.stands y i.1) in
    let u = M.least y i.1 x.reach (L.stands x m) in
    let e : x.reach ≡ i.0 = omega arith in
    mathlib.Core.List.Memᴰ.cast (ap (λ (r : ℕ). live x.state r) e) i.1

pub lists_unique : (at : ℕ → Option ℕ) (b : ℕ) (c d : Chain) → Lists at b c → Lists at b d → c ≡ d
lists_unique at b c d L M = same c d L.falling M.falling (lists_mem at b c d L M) (lists_mem at b d c M L)

lists_once : (at : ℕ → Option ℕ) (b : ℕ) (c : Chain) → Lists at b c → Once c
lists_once at b [] L = tt
lists_once at b (x ∷ c) L =
    let top : Memᴰ x (x ∷ c) = mathlib.Core.List.Memᴰ.head refl in (
      (λ i.
          let y = live x.state i.0 in
          let l = L.falling.0 y i.1 in
          let g = L.least x top i.0 (L.stands y (mathlib.Core.List.Memᴰ.tail i.1)) in
          omega arith),
      lists_once at x.reach c (rest_lists at b x c L),
    )

-- a list is as good of what agrees below its bound, and, where nothing stands above it, of any bound
lists_agree : (at to : ℕ → Option ℕ) (b d : ℕ) (c : Chain) → ((n : ℕ) → n < b → at n ≡ to n)
    → ((n q : ℕ) → to n ≡ Some q → n < b) → b ≤ d → Lists at b c → Lists to d c
lists_agree at to b d c same none_above l L =
    record {
      nonzero = L.nonzero;
      stands = λ x m. sym (same x.reach (L.below x m)) ∙ L.stands x m;
      least = λ x m k e. L.least x m k (same k (none_above k x.state e) ∙ e);
      below = λ x m. let k = L.below x m in omega arith;
      full = λ q n nz k e. let u = none_above n q e in L.full q n nz u (same n u ∙ e);
      falling = L.falling;
    }

module _ (δ : Delta) where
  -- THE CHAIN: what the steps come to is the chain of the text
  pub chain_is : (t : Text) → IsChain δ t (chain δ t)
  chain_is t =
      let L = chain_lists δ t in
      let h = reverse t in
      record {
        all = λ q a.
            let e = leads_last δ t q a.1.0 a.1.1 in
            let l = last_length δ h a.1.0 q e in
            L.full q a.1.0 a.0 (omega arith) e;
        reaches = λ q r m.
            let x = live q r in
            (L.nonzero x m, last_leads δ t q r (L.stands x m), λ n k. L.least x m n (leads_last δ t q n k));
        once = lists_once (last δ h) (suc (length h)) (chain δ t) L;
        falling = L.falling;
      }

  -- and no other list is
  pub chain_unique : (t : Text) (c d : Chain) → IsChain δ t c → IsChain δ t d → c ≡ d
  chain_unique t c d A B = same c d A.falling B.falling (go c d A B) (go d c B A)
    where
      go : (c d : Chain) → IsChain δ t c → IsChain δ t d → Within c d
      go c d A B x m =
          let R = A.reaches x.state x.reach m in
          let i = B.all x.state (R.0, (x.reach, R.1)) in
          let S = B.reaches x.state i.0 i.1 in
          let l = R.2 i.0 S.1 in
          let u = S.2 x.reach R.1 in
          let e : x.reach ≡ i.0 = omega arith in
          mathlib.Core.List.Memᴰ.cast (ap (λ (r : ℕ). live x.state r) e) i.1

  -- a live state has a reach
  pub alive_reach : (t : Text) (q : ℕ) → Alive δ t q → (r : ℕ) × Reach δ t q r
  alive_reach t q a = let i = (chain_is t).all q a in (i.0, (chain_is t).reaches q i.0 i.1)

  -- the chain has each live state with its reach
  pub chain-has : (t : Text) (q r : ℕ) → Reach δ t q r → Memᴰ (live q r) (chain δ t)
  chain-has t q r R =
      let i = (chain_is t).all q (R.0, (r, R.1)) in
      let S = (chain_is t).reaches q i.0 i.1 in
      let l = R.2 i.0 S.1 in
      let u = S.2 r R.1 in
      let e : r ≡ i.0 = omega arith in
      mathlib.Core.List.Memᴰ.cast (ap (λ (n : ℕ). live q n) e) i.1

  -- the members of the chain are the live states
  pub in_alive : (t : Text) (q : ℕ) → In q (chain δ t) ↔ Alive δ t q
  in_alive t q = (
    (λ i. let R = (chain_is t).reaches q i.0 i.1 in (R.0, (i.0, R.1))),
    λ a. (chain_is t).all q a,
  )

  -- two live states never have equal reach
  pub reaches_differ : (t : Text) (p q n : ℕ) → Reach δ t p n → Reach δ t q n → p ≡ q
  reaches_differ t p q n R S = let e = leads_last δ t p n R.1 in let f = leads_last δ t q n S.1 in cc

  -- where a live state after one more event can come from
  abbrev pub Fed : Text → ℕ → ℕ → Type 0
  Fed t a q = (δ 0 a ≡ Some q) ⊎ ((p : ℕ) × Alive δ t p × (δ p a ≡ Some q))

  -- the live states after one more event: those that the event leads to from state 0 and from the live ones
  pub alive_snoc : (t : Text) (a q : ℕ) → Alive δ (t ++ (a ∷ [])) q ↔ ((q ≢ 0) × Fed t a q)
  alive_snoc t a q = (down, up)
    where
      back : reverse (t ++ (a ∷ [])) ≡ a ∷ reverse t
      back = reverse-append t (a ∷ [])

      at : (n : ℕ) → Leads δ (t ++ (a ∷ [])) q n → last δ (a ∷ reverse t) n ≡ Some q
      at n l = rw back at (leads_last δ (t ++ (a ∷ [])) q n l)

      go : (n : ℕ) → q ≢ 0 → last δ (a ∷ reverse t) n ≡ Some q → Fed t a q
      go zero nz e = let z : q ≡ 0 = cc in absurd (nz z)
      go (suc n) nz e =
          let i = then_some δ (reverse t) a n q e in
          by_eq i.0 0 (λ z. inl (rw z at i.2))
          (λ pz. inr (i.0, (pz, (n, last_leads δ t i.0 n i.1)), i.2))

      down : Alive δ (t ++ (a ∷ [])) q → (q ≢ 0) × Fed t a q
      down v = (v.0, go v.1.0 v.0 (at v.1.0 v.1.1))

      up : (q ≢ 0) × Fed t a q → Alive δ (t ++ (a ∷ [])) q
      up (nz, inl e) = (nz, (1, last_leads δ (t ++ (a ∷ [])) q 1 (rw back e)))
      up (nz, inr v) =
          let m = v.1.1.0 in
          let e = some_then δ (reverse t) a m v.0 (leads_last δ t v.0 m v.1.1.1) ∙ v.2 in
          (nz, (suc m, last_leads δ (t ++ (a ∷ [])) q (suc m) (rw back e)))

  -- FORGETTING: where no word that leads anywhere is longer than m, the chain is that of the last m events or more
  pub forget : (m : ℕ) → ((w : Text) (q : ℕ) → read δ 0 w ≡ Some q → length w ≤ m) → (s w : Text) → m ≤ length w
      → chain δ (s ++ w) ≡ chain δ w
  forget m short s w l =
      let h = reverse w in
      let g = reverse s in
      let lh : length h ≡ length w = length-reverse w in
      let lg : length (h ++ g) ≡ length h + length g = length-append h g in
      let b = suc (length (h ++ g)) in
      let big : Lists (last δ (h ++ g)) b (chain_r δ (h ++ g)) = chain_r_lists δ (h ++ g) in
      let small : Lists (last δ (h ++ g)) b (chain_r δ h) =
      lists_agree (last δ h) (last δ (h ++ g)) (suc (length h)) b (chain_r δ h)
      (λ n k. sym (last_append δ h g n (omega arith)))
      (λ n q e.
      let v = last_leads δ (s ++ w) q n (ap (λ (z : Text). last δ z n) (reverse-append s w) ∙ e) in
      let u = short v.1 q v.4 in
      let k = v.3 in
      omega arith)
      (omega arith) (chain_r_lists δ h) in
      chain-reverse δ (s ++ w) ∙ ap (λ (z : Text). chain_r δ z) (reverse-append s w)
      ∙ lists_unique (last δ (h ++ g)) b (chain_r δ (h ++ g)) (chain_r δ h) big small ∙ sym (chain-reverse δ w)
