-- The run over a book's image, read from the start: its place is that of the chain of the events taken
-- (image_run_place, image_run-steps), its records are those of the chains of all prefixes (report, image_run_records),
-- and they are the right ones (report_right, image_run_right): one for each marked live state (report_at,
-- image_run_at), some exactly where a signature ends (image_run_ends). image_on_place, image_on_records: a run that
-- goes on. image_run_moves: room that moves on. Assumes nothing.
use mathlib.Core.Path.{◌≡◌, refl, sym, ap, ◌∙◌, subst, subst₂}
use mathlib.Core.Logic.{◌≢◌, ⊎_elim, ◌↔◌}
use Rattle.std.specs.Prelude.{None}
use mathlib.Core.List.Memᴰ
use mathlib.Core.List.{List, [], ◌∷◌, ◌++◌, append_assoc, append-nil, Memᴰ}
use Prim.Native.Nat.{ℕ, zero, suc, ◌+◌, ◌≤◌, ◌<◌}
use native.Mathlib.Omega.{arith}
use lib.ListN.{length, take}
use lib.Dec.{eqb}
use borrow.Author.Tests.{eq-eqb, ne_eqb}
use lib.Seq.{length-take-le, take-take}
use Rattle.meaning.specs.Text.{Text, events, Delta, Marks, Ends}
use Rattle.meaning.specs.Chain.{Chain, step, chain}
use Rattle.meaning.specs.Places.{number, Numbers}
use Rattle.meaning.specs.Questions.{image_of}
use Rattle.meaning.specs.Walk.{Stand, stand, next, walk}
use Rattle.meaning.specs.Records.{Record, records_at, Outcome, run, hit, ending_at}
use Rattle.meaning.proofs.Cases.{by_bool}
use Rattle.meaning.proofs.Text.{events_nil, events_cons, events_snoc}
use Rattle.meaning.proofs.Chain.{chain_snoc}
use Rattle.meaning.proofs.Book.{Names, Only, Rising, Under}
use Rattle.meaning.proofs.Fails.{fails, all_fails}
use Rattle.meaning.proofs.Image.{image_next}
use Rattle.meaning.proofs.Places.{number-zero}
use Rattle.meaning.proofs.Records.{hits, Right, hits_right, ends_mem, nothing_chain}
use Rattle.meaning.proofs.Records.{image_records, image_records_few}
use Rattle.meaning.proofs.Run.{listing, run-walk, run_records, run_taken, run_moves}
use Rattle.meaning.proofs.Small.{chain-short}

-- one byte more of a log
pub chain-events : (δ : Delta) (s : List ℕ) (a : ℕ) → chain δ (events (s ++ (a ∷ []))) ≡ step δ (chain δ (events s)) a
chain-events δ s a = ap (λ (t : Text). chain δ t) (events_snoc s a) ∙ chain_snoc δ (events s) a

snoc_append : (s : List ℕ) (a : ℕ) (t : List ℕ) → s ++ (a ∷ []) ++ t ≡ s ++ (a ∷ t)
snoc_append s a t = append_assoc s (a ∷ []) t

abbrev pub report : Delta → Marks → ℕ → List ℕ → List ℕ → List Record
report δ mark e s [] = []
report δ mark e s (a ∷ log) =
    hits mark (suc e) (chain δ (events (s ++ (a ∷ [])))) ++ report δ mark (suc e) (s ++ (a ∷ [])) log

-- right of the events up to some byte
abbrev pub RightBy : Delta → Marks → ℕ → List ℕ → List ℕ → Record → Type 0
RightBy δ mark e s log h = (n : ℕ) × (0 < n) × (n ≤ length log) × Right δ mark (events (s ++ take n log)) (e + n) h

module _ (δ : Delta) (mark : Marks) where
  right_cast : {t u : Text} {e f : ℕ} (h : Record) → t ≡ u → e ≡ f → Right δ mark t e h → Right δ mark u f h
  right_cast h x y r = subst₂ (λ (t : Text) (e : ℕ). Right δ mark t e h) x y r

  -- THE FULL LIST: a record is in it exactly when it is right of the events up to some byte
  pub report_right : (e : ℕ) (s log : List ℕ) (h : Record)
      → Memᴰ h (report δ mark e s log) ↔ RightBy δ mark e s log h
  report_right e s log h = (to e s log, λ r. fro e s log r.0 r.1 r.2 r.3)
    where
      -- the first byte, and the bytes after it
      here : (e : ℕ) (s : List ℕ) (a : ℕ) (log : List ℕ) → Right δ mark (events (s ++ (a ∷ []))) (suc e) h
          → RightBy δ mark e s (a ∷ log) h
      here e s a log r = (1, omega arith, omega arith, right_cast h refl (omega arith) r)

      later : (e : ℕ) (s : List ℕ) (a : ℕ) (log : List ℕ) → RightBy δ mark (suc e) (s ++ (a ∷ [])) log h
          → RightBy δ mark e s (a ∷ log) h
      later e s a log r =
          let n = r.0 in
          let l = r.2 in
          let x = ap events (snoc_append s a (take n log)) in
          let y : suc e + n ≡ e + suc n = omega arith in
          (suc n, omega arith, omega arith, right_cast h x y r.3)

      to : (e : ℕ) (s log : List ℕ) → Memᴰ h (report δ mark e s log) → RightBy δ mark e s log h
      to e s [] m = absurd (Memᴰ.not-nil m)
      to e s (a ∷ log) m =
          ⊎_elim (λ k. here e s a log ((hits_right δ mark (suc e) (events (s ++ (a ∷ []))) h).0 k))
          (λ k. later e s a log (to (suc e) (s ++ (a ∷ [])) log k))
          (Memᴰ.append_cases (hits mark (suc e) (chain δ (events (s ++ (a ∷ []))))) m)

      fro : (e : ℕ) (s log : List ℕ) (n : ℕ) → 0 < n → n ≤ length log → Right δ mark (events (s ++ take n log)) (e + n) h
          → Memᴰ h (report δ mark e s log)
      fro e s log zero l k r = absurd (let w : ⊥ = omega arith in w)
      fro e s [] (suc n) l k r = absurd (let w : ⊥ = omega arith in w)
      fro e s (a ∷ log) (suc zero) l k r =
          let u = events (s ++ (a ∷ [])) in
          let y : e + 1 ≡ suc e = omega arith in
          let q = right_cast h refl y r in
          Memᴰ.append_left (report δ mark (suc e) (s ++ (a ∷ [])) log) ((hits_right δ mark (suc e) u h).1 q)
      fro e s (a ∷ log) (suc (suc n)) l k r =
          let x = ap events (sym (snoc_append s a (take (suc n) log))) in
          let y : e + suc (suc n) ≡ suc e + suc n = omega arith in
          let q = right_cast h x y r in
          Memᴰ.append_right (hits mark (suc e) (chain δ (events (s ++ (a ∷ [])))))
          (fro (suc e) (s ++ (a ∷ [])) log (suc n) (omega arith) (omega arith) q)

-- a book without edges gives no record
pub report_nothing : (δ : Delta) (mark : Marks) → ((a : ℕ) → δ 0 a ≡ None) → (e : ℕ) (s log : List ℕ)
    → report δ mark e s log ≡ []
report_nothing δ mark no_edge e s [] = refl
report_nothing δ mark no_edge e s (a ∷ log) =
    let u = s ++ (a ∷ []) in
    λ i. hits mark (suc e) (nothing_chain δ no_edge (events u) i) ++ report_nothing δ mark no_edge (suc e) u log i

ending_append : (m : ℕ) (rs ss : List Record) → ending_at m (rs ++ ss) ≡ ending_at m rs ++ ending_at m ss
ending_append m [] ss = refl
ending_append m (h ∷ rs) ss =
    let i = ending_append m rs ss in
    by_bool (eqb h.end m) (λ q. rw q (ap (λ (u : List Record). h ∷ u) i)) (λ q. rw q i)

module _ (δ : Delta) (mark : Marks) where
  ending_same : (e : ℕ) (c : Chain) → ending_at e (hits mark e c) ≡ hits mark e c
  ending_same e [] = refl
  ending_same e (x ∷ c) =
      let i = ending_same e c in
      by_bool (eqb (mark x.state) 0) (λ q. rw q i)
      (λ q. rw (q, eq-eqb e e refl) (ap (λ (rs : List Record). hit mark e x ∷ rs) i))

  ending_other : (m e : ℕ) (c : Chain) → e ≢ m → ending_at m (hits mark e c) ≡ []
  ending_other m e [] n = refl
  ending_other m e (x ∷ c) n =
      let i = ending_other m e c n in
      by_bool (eqb (mark x.state) 0) (λ q. rw q i) (λ q. rw (q, ne_eqb e m n) i)

  -- the records of later bytes end later
  ending_later : (m e : ℕ) (s log : List ℕ) → m ≤ e → ending_at m (report δ mark e s log) ≡ []
  ending_later m e s [] l = refl
  ending_later m e s (a ∷ log) l =
      let c = chain δ (events (s ++ (a ∷ []))) in
      let rs = report δ mark (suc e) (s ++ (a ∷ [])) log in
      ending_append m (hits mark (suc e) c) rs
      ∙ (λ i. ending_other m (suc e) c (λ z. omega arith) i ++ ending_later m (suc e) (s ++ (a ∷ [])) log (omega arith) i)

  -- ONE FOR EACH MARKED LIVE STATE: the records that end at the n-th byte are those of the chain after it
  pub report_at : (e : ℕ) (s log : List ℕ) (n : ℕ) → 0 < n → n ≤ length log
      → ending_at (e + n) (report δ mark e s log) ≡ hits mark (e + n) (chain δ (events (s ++ take n log)))
  report_at e s log zero l k = absurd (let w : ⊥ = omega arith in w)
  report_at e s [] (suc n) l k = absurd (let w : ⊥ = omega arith in w)
  report_at e s (a ∷ log) (suc zero) l k =
      let c = chain δ (events (s ++ (a ∷ []))) in
      let rs = report δ mark (suc e) (s ++ (a ∷ [])) log in
      let z : e + 1 ≡ suc e = omega arith in
      ap (λ (m : ℕ). ending_at m (hits mark (suc e) c ++ rs)) z ∙ ending_append (suc e) (hits mark (suc e) c) rs
      ∙ (λ i. ending_same (suc e) c i ++ ending_later (suc e) (suc e) (s ++ (a ∷ [])) log (omega arith) i)
      ∙ append-nil (hits mark (suc e) c) ∙ ap (λ (m : ℕ). hits mark m c) (sym z)
  report_at e s (a ∷ log) (suc (suc n)) l k =
      let c = chain δ (events (s ++ (a ∷ []))) in
      let rs = report δ mark (suc e) (s ++ (a ∷ [])) log in
      let m = suc e + suc n in
      let z : e + suc (suc n) ≡ suc e + suc n = omega arith in
      ap (λ (m : ℕ). ending_at m (hits mark (suc e) c ++ rs)) z ∙ ending_append m (hits mark (suc e) c) rs
      ∙ (λ i. ending_other m (suc e) c (λ y. omega arith) i
      ++ report_at (suc e) (s ++ (a ∷ [])) log (suc n) (omega arith) (omega arith) i)
      ∙ (λ i. hits mark (sym z i) (chain δ (events (snoc_append s a (take (suc n) log) i))))

module _ (δ : Delta) (out : ℕ → List ℕ) (mark : Marks) (L : List Chain) (names : Names δ out) (only : Only δ out)
    (N : Numbers δ L) where
  -- the place after a log
  abbrev pub place_of : List ℕ → ℕ
  place_of s = number L (chain δ (events s))

  place_of_nil : place_of [] ≡ 0
  place_of_nil = ap (λ (t : Text). number L (chain δ t)) events_nil ∙ number-zero δ L N

  -- one byte more
  pub image_byte : (s : List ℕ) (a : ℕ)
      → next (image_of δ out mark L) (place_of s) a ≡ stand (place_of (s ++ (a ∷ []))) (fails δ (chain δ (events s)) a)
  image_byte s a =
      image_next δ out mark L names only N (chain δ (events s)) a (events s, refl)
      ∙ ap (λ (c : Chain). stand (number L c) (fails δ (chain δ (events s)) a)) (sym (chain-events δ s a))

  pub image_log : (s log : List ℕ)
      → walk (image_of δ out mark L) (place_of s) log
      ≡ stand (place_of (s ++ log)) (all_fails δ (chain δ (events s)) (events log))
  image_log s [] =
      (λ i. stand (place_of (sym (append-nil s) i)) 0)
      ∙ ap (λ (t : Text). stand (place_of (s ++ [])) (all_fails δ (chain δ (events s)) t)) (sym events_nil)
  image_log s (a ∷ log) =
      let I = image_of δ out mark L in
      let c = chain δ (events s) in
      let u = s ++ (a ∷ []) in
      ap (λ (r : Stand). stand (walk I r.place log).place (r.failed + (walk I r.place log).failed))
      (image_byte s a)
      ∙ ap (λ (r : Stand). stand r.place (fails δ c a + r.failed)) (image_log u log)
      ∙ (λ i. stand (place_of (snoc_append s a log i)) (fails δ c a + all_fails δ (chain-events δ s a i) (events log)))
      ∙ ap (λ (t : Text). stand (place_of (s ++ (a ∷ log))) (all_fails δ c t)) (sym (events_cons a log))

  pub image_listing : (e : ℕ) (s log : List ℕ) → listing (image_of δ out mark L) e (place_of s) log ≡ report δ mark e s log
  image_listing e s [] = refl
  image_listing e s (a ∷ log) =
      let I = image_of δ out mark L in
      let u = s ++ (a ∷ []) in
      let at : (next I (place_of s) a).place ≡ place_of u = ap (λ (r : Stand). r.place) (image_byte s a) in
      let rs = image_records δ out mark L names only N (suc e) (chain δ (events u)) (events u, refl) in
      ap (λ (p : ℕ). records_at I (suc e) p ++ listing I (suc e) p log) at
      ∙ (λ i. rs i ++ image_listing (suc e) u log i)

  -- a run that goes on after the log s
  pub image_on_place : (room e : ℕ) (s log : List ℕ) → (run (image_of δ out mark L) room e (place_of s) log).place
      ≡ place_of (s ++ take (run (image_of δ out mark L) room e (place_of s) log).taken log)
  image_on_place room e s log =
      let I = image_of δ out mark L in
      let t = take (run I room e (place_of s) log).taken log in
      ap (λ (r : Stand). r.place) (sym (run-walk I room e (place_of s) log) ∙ image_log s t)

  pub image_on_records : (room e : ℕ) (s log : List ℕ) → (run (image_of δ out mark L) room e (place_of s) log).records
      ≡ report δ mark e s (take (run (image_of δ out mark L) room e (place_of s) log).taken log)
  image_on_records room e s log =
      let I = image_of δ out mark L in
      run_records I room e (place_of s) log ∙ image_listing e s (take (run I room e (place_of s) log).taken log)

  module _ (room e : ℕ) (log : List ℕ) where
    -- what the run from place 0 comes to, and the bytes it took
    abbrev pub ran : Outcome
    ran = run (image_of δ out mark L) room e 0 log

    abbrev pub taken : List ℕ
    taken = take ran.taken log

    ran-walk : stand ran.place ran.steps
        ≡ stand (place_of ([] ++ taken)) (all_fails δ (chain δ (events [])) (events taken))
    ran-walk =
        let I = image_of δ out mark L in
        sym (run-walk I room e 0 log) ∙ ap (λ (p : ℕ). walk I p taken) (sym place_of_nil) ∙ image_log [] taken

    -- FROM PLACE 0: the place after the events taken, failure steps and records
    pub image_run_place : ran.place ≡ number L (chain δ (events taken))
    image_run_place = ap (λ (r : Stand). r.place) ran-walk

    pub image_run-steps : ran.steps ≡ all_fails δ [] (events taken)
    image_run-steps =
        ap (λ (r : Stand). r.failed) ran-walk ∙ ap (λ (u : Text). all_fails δ (chain δ u) (events taken)) events_nil

    pub image_run_records : ran.records ≡ report δ mark e [] taken
    image_run_records =
        let I = image_of δ out mark L in
        run_records I room e 0 log ∙ ap (λ (p : ℕ). listing I e p taken) (sym place_of_nil) ∙ image_listing e [] taken

    pub image_run_nothing : ((a : ℕ) → δ 0 a ≡ None) → ran.records ≡ []
    image_run_nothing no_edge = image_run_records ∙ report_nothing δ mark no_edge e [] taken

    -- right of the events up to some byte taken
    abbrev pub RightIn : Record → Type 0
    RightIn h = (n : ℕ) × (0 < n) × (n ≤ ran.taken) × Right δ mark (events (take n log)) (e + n) h

    -- NO OTHER RECORD AND NONE LEFT OUT
    pub image_run_right : (h : Record) → Memᴰ h ran.records ↔ RightIn h
    image_run_right h = (to, fro)
      where
        len : length taken ≡ ran.taken
        len = length-take-le ran.taken log (run_taken (image_of δ out mark L) room e 0 log)

        to : Memᴰ h ran.records → RightIn h
        to k =
            let m = subst (λ (rs : List Record). Memᴰ h rs) image_run_records k in
            let r = (report_right δ mark e [] taken h).0 m in
            let n = r.0 in
            let l : n ≤ ran.taken = subst (λ (j : ℕ). n ≤ j) len r.2 in
            let same = take-take n ran.taken log l in
            (n, r.1, l, subst (λ (t : Text). Right δ mark (events t) (e + n) h) same r.3)

        fro : RightIn h → Memᴰ h ran.records
        fro r =
            let n = r.0 in
            let l : n ≤ length taken = subst (λ (j : ℕ). n ≤ j) (sym len) r.2 in
            let same = sym (take-take n ran.taken log r.2) in
            let q = subst (λ (t : Text). Right δ mark (events t) (e + n) h) same r.3 in
            subst (λ (rs : List Record). Memᴰ h rs) (sym image_run_records)
            ((report_right δ mark e [] taken h).1 (n, r.1, l, q))

    -- ONE FOR EACH MARKED LIVE STATE: the records that end at the n-th byte taken are those of the chain after it
    pub image_run_at : (n : ℕ) → 0 < n → n ≤ ran.taken
        → ending_at (e + n) ran.records ≡ hits mark (e + n) (chain δ (events (take n log)))
    image_run_at n l k =
        let len = length-take-le ran.taken log (run_taken (image_of δ out mark L) room e 0 log) in
        ap (λ (rs : List Record). ending_at (e + n) rs) image_run_records
        ∙ report_at δ mark e [] taken n l (subst (λ (j : ℕ). n ≤ j) (sym len) k)
        ∙ ap (λ (t : Text). hits mark (e + n) (chain δ (events t))) (take-take n ran.taken log k)

    -- AN EVENT TAKEN HAS A RECORD exactly when some ending of the events read so far is a signature
    pub image_run_ends : mark 0 ≡ 0 → (n : ℕ) → 0 < n → n ≤ ran.taken
        → ((h : Record) × Memᴰ h ran.records × (h.end ≡ e + n)) ↔ Ends δ mark (events (take n log))
    image_run_ends z n l k = (to, fro)
      where
        t : Text
        t = events (take n log)

        to : (h : Record) × Memᴰ h ran.records × (h.end ≡ e + n) → Ends δ mark t
        to m =
            let r = (image_run_right m.0).0 m.1 in
            let at = r.3.at_end in
            let same : r.0 ≡ n = let w = m.2 in omega arith in
            let q = subst (λ (j : ℕ). Right δ mark (events (take j log)) (e + j) m.0) same r.3 in
            (ends_mem δ mark (e + n) z t).0 (m.0, (hits_right δ mark (e + n) t m.0).1 q)

        fro : Ends δ mark t → (h : Record) × Memᴰ h ran.records × (h.end ≡ e + n)
        fro v =
            let m = (ends_mem δ mark (e + n) z t).1 v in
            let q = (hits_right δ mark (e + n) t m.0).0 m.1 in
            (m.0, (image_run_right m.0).1 (n, l, k, q), q.at_end)

  -- where edges rise and targets are below n, room for n - 1 records always moves on
  pub image_run_moves : (n : ℕ) → 0 < n → Rising δ → Under n δ → (room e : ℕ) (s : List ℕ) (a : ℕ) (log : List ℕ)
      → n ≤ suc room → 0 < (run (image_of δ out mark L) room e (place_of s) (a ∷ log)).taken
  image_run_moves n pos up un room e s a log l =
      let I = image_of δ out mark L in
      let u = s ++ (a ∷ []) in
      let at : (next I (place_of s) a).place ≡ place_of u = ap (λ (r : Stand). r.place) (image_byte s a) in
      let k = image_records_few δ out mark L names only N (suc e) (chain δ (events u)) (events u, refl) in
      let c = chain-short δ n pos up un (events u) in
      let w = ap (λ (p : ℕ). length (records_at I (suc e) p)) at in
      run_moves I room e (place_of s) a log (omega arith)
