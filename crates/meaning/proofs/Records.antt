-- The records of an event. At a place of every image, without fuel: records_zero, records_step (records_quiet,
-- records_marked), records_few, records_same. Of a chain: hits, one for each of its marked members in order (hits-map,
-- marked-mem, marked_once), and a record is among them exactly when it is Right of the text (hits_right, no_miss);
-- there is one exactly where a signature ends (ends_iff). The records at a place are those of its chain: shows_records,
-- shows_hits, image_records, image_ends. one_state: without edges there is none. Assumes nothing.
use mathlib.Core.Path.{◌≡◌, refl, sym, ap, ◌∙◌, subst}
use mathlib.Core.Logic.{◌≢◌, ⊎_elim, ◌↔◌}
use mathlib.Core.Bool.{Bool}
use Rattle.std.specs.Prelude.{None, Some}
use mathlib.Core.List.Memᴰ
use mathlib.Core.List.{List, [], ◌∷◌, ◌++◌, map}
use mathlib.Core.List.{Memᴰ}
use Prim.Native.Nat.{ℕ, zero, suc, ◌≤◌, ◌<◌}
use native.Mathlib.Omega.{arith}
use lib.ListN.{length, get_or}
use lib.Dec.{eqb}
use borrow.Author.Tests.{eqb-false, eq-eqb, ne_eqb}
use Rattle.meaning.specs.Choice.{when}
use Rattle.meaning.specs.Text.{Text, Delta, Marks, read, Leads, Reach, Ends}
use Rattle.meaning.specs.Chain.{Live, live, Chain, Once, step, steps, chain, head, level, rest}
use Rattle.meaning.specs.Places.{number, Reachable, Numbers}
use Rattle.meaning.specs.Book.{state, delta}
use Rattle.meaning.specs.Questions.{Image, image_of}
use Rattle.meaning.specs.Records.{Record, recorded, shown, unless_quiet, records_within, records_at, marked, hit}
use Rattle.meaning.proofs.Cases.{by_bool, by_eq}
use Rattle.meaning.proofs.Book.{Names, Only}
use Rattle.meaning.proofs.Chain.{chain_is, chain-has, alive_reach}
use Rattle.meaning.proofs.Image.{image_shows}
use Rattle.meaning.proofs.Keys.{Key, Rule, number_by, number_by_mem}
use Rattle.meaning.proofs.Numbering.{NumbersBy, Ordered, numbers_by_ordered}
use Rattle.meaning.proofs.Places.{number-whole, whole_of_numbers}
use Rattle.meaning.proofs.Rules.{whole, whole-rule, told}
use Rattle.meaning.proofs.Shows.{Shows, number_by_is, empty_zero, cons_nonzero, shows_lower, shows_has}
use Rattle.meaning.proofs.Walk.{Lower}

quiet_length : (e n m f : ℕ) (rs : List Record) → length rs ≤ f → length (unless_quiet e n m rs) ≤ suc f
quiet_length e n m f rs l = by_bool (eqb m 0) (λ q. rw q (omega arith)) (λ q. rw q (omega arith))

module _ (M : Image) (e : ℕ) where
  within-zero : (f p : ℕ) → p ≡ 0 → records_within f M e p ≡ []
  unfolding records_within
  within-zero zero p z = refl
  within-zero (suc f) p z = rw (eq-eqb p 0 z)

  within-suc : (f p : ℕ) → p ≢ 0
      → records_within (suc f) M e p ≡ unless_quiet e (M.level p) (M.mark p) (records_within f M e (M.fallback p))
  unfolding records_within
  within-suc f p nz = rw (ne_eqb p 0 nz)

  within_few : (f p : ℕ) → length (records_within f M e p) ≤ f
  unfolding records_within
  within_few zero p = omega arith
  within_few (suc f) p =
      by_eq p 0 (λ z. let u = ap {B = ℕ} length (within-zero (suc f) p z) in omega arith)
      (λ nz.
      let rs = records_within f M e (M.fallback p) in
      let i = quiet_length e (M.level p) (M.mark p) f rs (within_few f (M.fallback p)) in
      let u = ap {B = ℕ} length (within-suc f p nz) in
      omega arith)

  within-fuel : Lower M → (f g p : ℕ) → p ≤ f → p ≤ g → p < M.count → records_within f M e p ≡ records_within g M e p
  within-fuel low zero g p l k b =
      let z : p ≡ 0 = omega arith in
      within-zero zero p z ∙ sym (within-zero g p z)
  within-fuel low (suc f) zero p l k b =
      let z : p ≡ 0 = omega arith in
      within-zero (suc f) p z ∙ sym (within-zero zero p z)
  within-fuel low (suc f) (suc g) p l k b =
      by_eq p 0 (λ z. within-zero (suc f) p z ∙ sym (within-zero (suc g) p z))
      (λ nz.
      let d = low p b nz in
      let i = within-fuel low f g (M.fallback p) (omega arith) (omega arith) (omega arith) in
      within-suc f p nz ∙ ap (λ (rs : List Record). unless_quiet e (M.level p) (M.mark p) rs) i
      ∙ sym (within-suc g p nz))

  pub records_zero : records_at M e 0 ≡ []
  unfolding records_at
  records_zero = within-zero 0 0 refl

  pub records_step : Lower M → (p : ℕ) → p < M.count → p ≢ 0
      → records_at M e p ≡ unless_quiet e (M.level p) (M.mark p) (records_at M e (M.fallback p))
  unfolding records_at
  records_step low zero b nz = absurd (nz refl)
  records_step low (suc n) b nz =
      let p = suc n in
      let q = M.fallback (suc n) in
      let d = low (suc n) b nz in
      within-suc n p nz
      ∙ ap (λ (rs : List Record). unless_quiet e (M.level p) (M.mark p) rs)
      (within-fuel low n q q (omega arith) (omega arith) (omega arith))

  -- a place has at most as many records as its number: fewer than there are places
  pub records_few : (p : ℕ) → length (records_at M e p) ≤ p
  unfolding records_at
  records_few p = within_few p p

  -- its two cases: a head that is not marked, and one that is
  pub records_quiet : Lower M → (p : ℕ) → p < M.count → p ≢ 0 → M.mark p ≡ 0
      → records_at M e p ≡ records_at M e (M.fallback p)
  records_quiet low p b nz z =
      let below = records_at M e (M.fallback p) in
      records_step low p b nz
      ∙ ap (λ (t : Bool). when t below (recorded e (shown (M.level p)) (M.mark p) ∷ below))
      (eq-eqb (M.mark p) 0 z)

  pub records_marked : Lower M → (p : ℕ) → p < M.count → p ≢ 0 → M.mark p ≢ 0
      → records_at M e p ≡ recorded e (shown (M.level p)) (M.mark p) ∷ records_at M e (M.fallback p)
  records_marked low p b nz z =
      let below = records_at M e (M.fallback p) in
      records_step low p b nz
      ∙ ap (λ (t : Bool). when t below (recorded e (shown (M.level p)) (M.mark p) ∷ below))
      (ne_eqb (M.mark p) 0 z)

-- how many records a place has does not depend on the event's number
quiet_same : (e d n m : ℕ) (rs ss : List Record) → length rs ≡ length ss
    → length (unless_quiet e n m rs) ≡ length (unless_quiet d n m ss)
quiet_same e d n m rs ss l = by_bool (eqb m 0) (λ q. rw q l) (λ q. rw q (ap suc l))

within_same : (M : Image) (e d f p : ℕ) → length (records_within f M e p) ≡ length (records_within f M d p)
unfolding records_within
within_same M e d zero p = refl
within_same M e d (suc f) p =
    by_eq p 0 (λ z. ap {B = ℕ} length (within-zero M e (suc f) p z ∙ sym (within-zero M d (suc f) p z)))
    (λ nz.
    let q = M.fallback p in
    ap {B = ℕ} length (within-suc M e f p nz)
    ∙ quiet_same e d (M.level p) (M.mark p) (records_within f M e q) (records_within f M d q) (within_same M e d f q)
    ∙ sym (ap {B = ℕ} length (within-suc M d f p nz)))

pub records_same : (M : Image) (e d p : ℕ) → length (records_at M e p) ≡ length (records_at M d p)
unfolding records_at
records_same M e d p = within_same M e d p p

abbrev pub hits : Marks → ℕ → Chain → List Record
hits mark e [] = []
hits mark e (x ∷ c) = unless_quiet e x.reach (mark x.state) (hits mark e c)

module _ (mark : Marks) where
  -- ONE RECORD EACH, in the chain's order
  pub hits-map : (e : ℕ) (c : Chain) → hits mark e c ≡ map (λ (x : Live). hit mark e x) (marked mark c)
  hits-map e [] = refl
  hits-map e (x ∷ c) =
      let i = hits-map e c in
      by_bool (eqb (mark x.state) 0) (λ q. rw q i) (λ q. rw q (ap (λ (rs : List Record). hit mark e x ∷ rs) i))

  pub marked-mem : (c : Chain) (x : Live) → Memᴰ x (marked mark c) ↔ (Memᴰ x c × (mark x.state ≢ 0))
  marked-mem c x = (to c, λ h. fro c h.0 h.1)
    where
      to : (c : Chain) → Memᴰ x (marked mark c) → Memᴰ x c × (mark x.state ≢ 0)
      to [] m = absurd (Memᴰ.not-nil m)
      to (y ∷ c) m =
          by_bool (eqb (mark y.state) 0) (λ q. let i = to c (rw q at m) in (Memᴰ.tail i.0, i.1))
          (λ q.
          ⊎_elim
          (λ f.
          let nz = eqb-false (mark y.state) 0 q in
          (Memᴰ.head f, λ z. nz (ap (λ (w : Live). mark w.state) (sym f) ∙ z)))
          (λ k. let i = to c k in (Memᴰ.tail i.0, i.1))
          (Memᴰ.cases_cons (rw q at m)))

      fro : (c : Chain) → Memᴰ x c → mark x.state ≢ 0 → Memᴰ x (marked mark c)
      fro c (Memᴰ.head {x = y} f) nz =
          let g : mark y.state ≢ 0 = λ z. nz (ap (λ (w : Live). mark w.state) f ∙ z) in
          rw (ne_eqb (mark y.state) 0 g) (Memᴰ.head f)
      fro c (Memᴰ.tail {x = y} {xs = d} m) nz =
          by_bool (eqb (mark y.state) 0) (λ q. rw q (fro d m nz)) (λ q. rw q (Memᴰ.tail (fro d m nz)))

  -- each state of them once
  pub marked_once : (c : Chain) → Once c → Once (marked mark c)
  marked_once [] o = tt
  marked_once (x ∷ c) o =
      by_bool (eqb (mark x.state) 0) (λ q. rw q (marked_once c o.1))
      (λ q. rw q ((λ i. o.0 (i.0, ((marked-mem c (live x.state i.0)).0 i.1).0)), marked_once c o.1))

  pub hits-length : (e : ℕ) (c : Chain) → length (hits mark e c) ≤ length c
  hits-length e [] = omega arith
  hits-length e (x ∷ c) = quiet_length e x.reach (mark x.state) (length c) (hits mark e c) (hits-length e c)

  pub hits-mem : (e : ℕ) (c : Chain) (h : Record) → Memᴰ h (hits mark e c)
      → (x : Live) × Memᴰ x c × (mark x.state ≢ 0) × (h ≡ hit mark e x)
  hits-mem e [] h m = absurd (Memᴰ.not-nil m)
  hits-mem e (x ∷ c) h m =
      by_bool (eqb (mark x.state) 0)
      (λ q. let i = hits-mem e c h (rw q at m) in (i.0, Memᴰ.tail i.1, i.2, i.3))
      (λ q.
      ⊎_elim (λ f. (x, Memᴰ.head refl, eqb-false (mark x.state) 0 q, f))
      (λ k. let i = hits-mem e c h k in (i.0, Memᴰ.tail i.1, i.2, i.3))
      (Memᴰ.cases_cons (rw q at m)))

  pub mem-hits : (e : ℕ) (x : Live) (c : Chain) → Memᴰ x c → mark x.state ≢ 0
      → Memᴰ (hit mark e x) (hits mark e c)
  mem-hits e x c (Memᴰ.head {x = y} f) nz =
      let g : mark y.state ≢ 0 = subst (λ (z : Live). mark z.state ≢ 0) f nz in
      rw (ne_eqb (mark y.state) 0 g) (Memᴰ.head (ap (λ (z : Live). hit mark e z) f))
  mem-hits e x c (Memᴰ.tail {x = y} {xs = d} m) nz =
      let i = mem-hits e x d m nz in
      by_bool (eqb (mark y.state) 0) (λ q. rw q i) (λ q. rw q (Memᴰ.tail i))

  -- chains told alike have the same records, where what is told of a reach decides what is shown of it
  pub hits-told : (f : ℕ → ℕ) → ((r s : ℕ) → f r ≡ f s → shown r ≡ shown s) → (e : ℕ) (c d : Chain)
      → told f c ≡ told f d → hits mark e c ≡ hits mark e d
  hits-told f sh e [] [] g = refl
  hits-told f sh e [] (y ∷ d) g =
      let w : 0 ≡ suc (length (told f d)) = ap {B = ℕ} length g in
      absurd (let v : ⊥ = omega arith in v)
  hits-told f sh e (x ∷ c) [] g =
      let w : suc (length (told f c)) ≡ 0 = ap {B = ℕ} length g in
      absurd (let v : ⊥ = omega arith in v)
  hits-told f sh e (x ∷ c) (y ∷ d) g =
      let s : x.state ≡ y.state = ap head g in
      let r : shown x.reach ≡ shown y.reach = sh x.reach y.reach (ap level g) in
      let i : hits mark e c ≡ hits mark e d = hits-told f sh e c d (ap rest g) in
      λ j. when (eqb (mark (s j)) 0) (i j) (recorded e (r j) (mark (s j)) ∷ i j)

-- a record is right of a text that ends at the event e: it is the shortest ending that leads to some state with its mark
pub record Right (δ : Delta) (mark : Marks) (t : Text) (e : ℕ) (h : Record) : Type 0 where
  pub at_end : h.end ≡ e
  pub marked : h.mark ≢ 0
  pub state : ℕ
  pub its_mark : mark state ≡ h.mark
  pub reach : ℕ
  pub its_reach : Reach δ t state reach
  pub its_length : h.length ≡ shown reach

module _ (δ : Delta) (mark : Marks) (e : ℕ) where
  -- NO OTHER AND NONE LEFT OUT
  pub hits_right : (t : Text) (h : Record) → Memᴰ h (hits mark e (chain δ t)) ↔ Right δ mark t e h
  hits_right t h = (to, fro)
    where
      to : Memᴰ h (hits mark e (chain δ t)) → Right δ mark t e h
      to m =
          let i = hits-mem mark e (chain δ t) h m in
          let f = i.3 in
          record {
            at_end = ap (λ (k : Record). k.end) f;
            marked = λ z. i.2 (sym (ap (λ (k : Record). k.mark) f) ∙ z);
            state = i.0.state;
            its_mark = sym (ap (λ (k : Record). k.mark) f);
            reach = i.0.reach;
            its_reach = (chain_is δ t).reaches i.0.state i.0.reach i.1;
            its_length = ap (λ (k : Record). k.length) f;
          }

      fro : Right δ mark t e h → Memᴰ h (hits mark e (chain δ t))
      fro r =
          let q = r.state in
          let z : mark q ≢ 0 = λ k. r.marked (sym r.its_mark ∙ k) in
          let m = mem-hits mark e (live q r.reach) (chain δ t) (chain-has δ t q r.reach r.its_reach) z in
          Memᴰ.cast (λ i. record { end = r.at_end i; length = r.its_length i; mark = sym r.its_mark i }) m

  -- a word that leads to a marked state, as an ending of the text, is recorded with its mark
  pub no_miss : (s w : Text) (q : ℕ) → read δ 0 w ≡ Some q → q ≢ 0 → mark q ≢ 0
      → (n : ℕ) × (n ≤ length w) × Memᴰ (recorded e (shown n) (mark q)) (hits mark e (chain δ (s ++ w)))
  no_miss s w q f nz mz =
      let l : Leads δ (s ++ w) q (length w) = (s, w, refl, refl, f) in
      let R = alive_reach δ (s ++ w) q (nz, (length w, l)) in
      let m = mem-hits mark e (live q R.0) (chain δ (s ++ w)) (chain-has δ (s ++ w) q R.0 R.1) mz in
      (R.0, R.1.2 (length w) l, m)

  -- A RECORD EXACTLY WHERE A SIGNATURE ENDS
  pub ends_mem : mark 0 ≡ 0 → (t : Text) → ((h : Record) × Memᴰ h (hits mark e (chain δ t))) ↔ Ends δ mark t
  ends_mem z t = (to, fro)
    where
      to : (h : Record) × Memᴰ h (hits mark e (chain δ t)) → Ends δ mark t
      to m =
          let r = (hits_right t m.0).0 m.1 in
          let l = r.its_reach.1 in
          (l.0, l.1, l.2, (r.state, l.4, λ y. r.marked (sym r.its_mark ∙ y)))

      fro : Ends δ mark t → (h : Record) × Memᴰ h (hits mark e (chain δ t))
      fro v =
          let q = v.3.0 in
          let nz : q ≢ 0 = λ y. v.3.2 (ap mark y ∙ z) in
          let i = no_miss v.0 v.1 q v.3.1 nz v.3.2 in
          let h = recorded e (shown i.0) (mark q) in
          (h, subst (λ (u : Text). Memᴰ h (hits mark e (chain δ u))) v.2 i.2)

  pub ends_iff : mark 0 ≡ 0 → (t : Text) → (hits mark e (chain δ t) ≢ []) ↔ Ends δ mark t
  ends_iff z t = (
    (λ n. (ends_mem z t).0 (some_record (hits mark e (chain δ t)) n)),
    λ v n. let m = (ends_mem z t).1 v in Memᴰ.not-nil (subst (λ (rs : List Record). Memᴰ m.0 rs) n m.1),
  )
    where
      some_record : (rs : List Record) → rs ≢ [] → (h : Record) × Memᴰ h rs
      some_record [] n = absurd (n refl)
      some_record (h ∷ rs) n = (h, Memᴰ.head refl)

-- an image that shows L has at a place the records of its chain
module _ (key : Key) (δ : Delta) (R : Rule key δ) (L : List Chain) (O : Ordered key L)
    (mark : Marks) (M : Image) (S : Shows key δ mark L M) (e : ℕ) where
  pub shows_records : (c : Chain) (p : ℕ) → p < length L → get_or L p [] ≡ c → records_at M e p ≡ hits mark e c
  shows_records [] p l g =
      let z : p ≡ 0 = empty_zero key δ R L O p l (ap key g) in
      ap (λ (n : ℕ). records_at M e n) z ∙ records_zero M e
  shows_records (x ∷ c) p l g =
      let k = S.places in
      let j = O.fallback p x c l g in
      let lt = j.1 in
      let fb : M.fallback p ≡ j.0 =
      S.fallbacks p l ∙ ap (λ (z : Chain). number_by key L (rest z)) g
      ∙ number_by_is key δ R L O j.0 c (omega arith) (ap key j.2) in
      let ih : records_at M e (M.fallback p) ≡ hits mark e c =
      ap (λ (n : ℕ). records_at M e n) fb ∙ shows_records c j.0 (omega arith) j.2 in
      let lv : M.level p ≡ x.reach = S.levels p l ∙ ap level g in
      let mk : M.mark p ≡ mark x.state = S.marks p l ∙ ap (λ (z : Chain). mark (head z)) g in
      records_step M e (shows_lower key δ R L O mark M S) p (omega arith) (cons_nonzero key δ R L O p x c (ap key g))
      ∙ (λ i. unless_quiet e (lv i) (mk i) (ih i))

-- where chains that the key does not tell apart have the same records, so has the place of any text's chain
module _ (key : Key) (δ : Delta) (R : Rule key δ) (L : List Chain) (N : NumbersBy key δ L)
    (mark : Marks) (M : Image) (S : Shows key δ mark L M) (e : ℕ)
    (alike : (c d : Chain) → key c ≡ key d → hits mark e c ≡ hits mark e d) where
  pub shows_hits : (c : Chain) → Reachable δ c → records_at M e (number_by key L c) ≡ hits mark e c
  shows_hits c r =
      let m = number_by_mem key L c (shows_has key δ R L N mark M S c r) in
      let d = get_or L (number_by key L c) [] in
      shows_records key δ R L (numbers_by_ordered key δ L N) mark M S e d (number_by key L c) m.0 refl ∙ alike d c m.1

module _ (δ : Delta) (out : ℕ → List ℕ) (mark : Marks) (L : List Chain) (names : Names δ out) (only : Only δ out)
    (N : Numbers δ L) (e : ℕ) where
  -- THE RECORDS AT A PLACE are those of its chain
  pub image_records : (c : Chain) → Reachable δ c → records_at (image_of δ out mark L) e (number L c) ≡ hits mark e c
  image_records c r =
      let I = image_of δ out mark L in
      let W = whole_of_numbers δ L N in
      ap (λ (p : ℕ). records_at I e p) (sym (number-whole L c))
      ∙ shows_hits whole δ (whole-rule δ) L W mark I (image_shows δ out mark L names only) e
      (λ c d f. ap (λ (z : Chain). hits mark e z) f) c r

  pub image_text_records : (t : Text)
      → records_at (image_of δ out mark L) e (number L (chain δ t)) ≡ hits mark e (chain δ t)
  image_text_records t = image_records (chain δ t) (t, refl)

  pub image_records_few : (c : Chain) → Reachable δ c
      → length (records_at (image_of δ out mark L) e (number L c)) ≤ length c
  image_records_few c r =
      let u = ap {B = ℕ} length (image_records c r) in
      let l = hits-length mark e c in
      omega arith

  pub image_ends : mark 0 ≡ 0 → (t : Text)
      → (records_at (image_of δ out mark L) e (number L (chain δ t)) ≢ []) ↔ Ends δ mark t
  image_ends z t =
      subst (λ (rs : List Record). (rs ≢ []) ↔ Ends δ mark t) (sym (image_text_records t)) (ends_iff δ mark e z t)

-- a book without edges: nothing is alive after any text
pub nothing_chain : (δ : Delta) → ((a : ℕ) → δ 0 a ≡ None) → (t : Text) → chain δ t ≡ []
nothing_chain δ no_edge [] = refl
nothing_chain δ no_edge (a ∷ t) =
    let e : step δ [] a ≡ [] = rw (no_edge a) in
    ap (λ (c : Chain). steps δ c t) e ∙ nothing_chain δ no_edge t

pub one_state : (m e : ℕ) (mark : Marks) (t : Text) → hits mark e (chain (delta (state m [] ∷ [])) t) ≡ []
one_state m e mark t = ap (λ (c : Chain). hits mark e c) (nothing_chain (delta (state m [] ∷ [])) (λ a. refl) t)
