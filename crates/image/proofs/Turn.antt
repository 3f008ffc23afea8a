-- One turn of the run over an accepted image, on plain values.
--   carry               what a run comes to is the same after some of its events
--   carried_then        one turn after another
--   run-stays, run_turn an event that stays at place 0; an event whose records fit
--   run_full, run_done  no room for the next event's records; the run is over
-- Assumes nothing.
use mathlib.Core.Path.{◌≡◌, refl, sym, ap, ◌∙◌}
use mathlib.Core.Bool.{true, false}
use mathlib.Core.List.{List, [], ◌∷◌}
use Prim.Native.Nat.{ℕ, suc, ◌+◌, ◌*◌, ◌-◌, ◌≤◌, ◌<◌}
use native.Mathlib.Numerals.{add-one}
use native.Mathlib.Omega.{arith}
use lib.ListN.{length, get_or, drop, length-append, drop_of_length-le}
use lib.Seq.{sets, drop-cons}
use Rattle.wire.proofs.Sets.{sets_then}
use Rattle.meaning.specs.Answer.{accepted}
use Rattle.meaning.specs.Questions.{Image}
use Rattle.meaning.specs.Walk.{next}
use Rattle.meaning.specs.Records.{Record, records_at, Outcome, after, stopped, run}
use Rattle.meaning.proofs.Cases.{by_bool, true_false}
use Rattle.meaning.proofs.Records.{records_zero}
use Rattle.meaning.proofs.Run.{run_nil, run_take, run-stop}
use Rattle.image.specs.Calls.{run_told, list_bytes}
use Rattle.image.specs.Form.{form1}
use Rattle.image.specs.Questions.{questions_at}
use Rattle.image.specs.Held.{Accepted, edges_of, IsRoot, Idle, MovedIs, reports}
use Rattle.image.specs.Held.{left_at, told_at, Stands, Carried}
use Rattle.image.specs.declared.Going.{Going}
use Rattle.image.specs.declared.Moved.{Moved}
use Rattle.image.proofs.Accepted.{facts_of}
use Rattle.image.proofs.Links.{records_count}
use Rattle.image.proofs.Move.{idle_next}
use Rattle.image.proofs.Writing.{length-list_bytes, list_bytes-append}

-- no event is taken yet
abbrev pub unmoved : ℕ → Going
unmoved p = record { taken = 0; place = p; records = 0; steps = 0; full = false }

module _ (M : Image) (room base : ℕ) (log : List ℕ) where
  abbrev left : Going → Outcome
  left g = left_at M room base log g

  -- n events with their records and failure steps
  carry : (out out' : List ℕ) (g g' : Going) (n f : ℕ) (rs : List Record) → left g ≡ after n rs f (left g')
      → g'.taken ≡ g.taken + n → g'.records ≡ g.records + length rs → g'.steps ≡ g.steps + f
      → out' ≡ sets out (8 * g.records) (list_bytes rs) → length out' ≡ length out → Stands M room base log g'
      → Carried M room base log out g out' g'
  carry out out' g g' n f rs e et er es put len S =
      let o = left g' in
      let t : (left g).taken ≡ n + o.taken = ap (λ (o : Outcome). o.taken) e in
      let p : (left g).place ≡ o.place = ap (λ (o : Outcome). o.place) e in
      let r : length (left g).records ≡ length rs + length o.records =
      ap {B = ℕ} (λ (o : Outcome). length o.records) e ∙ length-append rs o.records in
      let s : (left g).steps ≡ f + o.steps = ap (λ (o : Outcome). o.steps) e in
      let t' : g'.taken + o.taken ≡ g.taken + (left g).taken = omega arith in
      let r' : g'.records + length o.records ≡ g.records + length (left g).records = omega arith in
      let s' : g'.steps + o.steps ≡ g.steps + (left g).steps = omega arith in
      record {
        kept = len;
        stands = S;
        told = cc;
        memory =
            sym
            (ap (λ (o : Outcome). sets out (8 * g.records) (list_bytes o.records)) e
            ∙ ap (λ (bs : List ℕ). sets out (8 * g.records) bs) (list_bytes-append rs o.records)
            ∙ sets_then out (8 * g.records) (8 * g'.records) (list_bytes rs) (list_bytes o.records)
            (let w = length-list_bytes rs in omega arith)
            ∙ ap (λ (d : List ℕ). sets d (8 * g'.records) (list_bytes o.records)) (sym put));
      }

  pub carried_then : (out₀ out out' : List ℕ) (g₀ g g' : Going) → Carried M room base log out₀ g₀ out g
      → Carried M room base log out g out' g' → Carried M room base log out₀ g₀ out' g'
  carried_then out₀ out out' g₀ g g' C D =
      record {
        kept = D.kept ∙ C.kept;
        stands = D.stands;
        told = D.told ∙ C.told;
        memory = D.memory ∙ C.memory;
      }

  module _ (out : List ℕ) (g : Going) (S : Stands M room base log g) (more : g.taken < length log) where
    abbrev a : ℕ
    a = get_or log g.taken 0

    -- where it leads
    abbrev there : ℕ
    there = (next M g.place a).place

    -- its records
    abbrev rs : List Record
    rs = records_at M (base + g.taken + 1) there

    event : drop g.taken log ≡ a ∷ drop (g.taken + 1) log
    event = rw add-one (drop-cons log g.taken 0 more)

    -- the event is taken: what is left is a run from the next place
    taken_one : length rs ≤ room - g.records → left g
        ≡ after 1 rs (next M g.place a).failed
        (run M (room - (g.records + length rs)) (base + (g.taken + 1)) there (drop (g.taken + 1) log))
    taken_one l =
        let e : base + g.taken + 1 ≡ suc (base + g.taken) = omega arith in
        let f : base + (g.taken + 1) ≡ suc (base + g.taken) = omega arith in
        let h : room - g.records - length rs ≡ room - (g.records + length rs) = omega arith in
        let t = run_take M (room - g.records) (base + g.taken) g.place a (drop (g.taken + 1) log) (rw e at l) in
        ap (λ (t : List ℕ). run M (room - g.records) (base + g.taken) g.place t) event ∙ (rw (f, ← h, e) t)

    reports-length : reports M there ≡ length rs
    reports-length = records_count M (base + g.taken + 1) 0 there

    pub run_turn : (m : Moved) (q k e : ℕ) (out' : List ℕ) → g.full ≡ false → MovedIs (next M g.place a) q g.place m
        → M.count ≡ q → q ≤ 1024 → reports M m.place ≤ room - g.records → e ≡ base + g.taken + 1
        → k ≡ g.records + reports M m.place → length out' ≡ length out
        → out' ≡ sets out (8 * g.records) (list_bytes (records_at M e m.place))
        → Carried M room base log out g out'
        (record {
          taken = g.taken + 1;
          place = m.place;
          records = k;
          steps = g.steps + m.steps;
          full = g.full;
        })
    run_turn m q k e out' on W eq few fit ee ek len put =
        let et : m.place ≡ there = W.place in
        let c : reports M m.place ≡ length rs = ap (λ (p : ℕ). reports M p) et ∙ reports-length in
        let ok : k ≡ g.records + length rs = omega arith in
        let put' : out' ≡ sets out (8 * g.records) (list_bytes rs) = rw (← et, ← ee) put in
        let t = taken_one (omega arith) in
        let f = S.fits in
        let w = S.few in
        let b = S.below in
        let v = W.below in
        let l = W.few in
        carry out out' g _ 1 (next M g.place a).failed rs (rw (et, ok) t) refl ok
        (ap (λ (n : ℕ). g.steps + n) W.steps) put' len
        (record {
          taken = omega arith;
          below = omega arith;
          fits = omega arith;
          few = omega arith;
          over = λ e. absurd (true_false e on);
        })

    -- an event at place 0 that leads nowhere: no record, no step
    run_idle : (b : ℕ) → b ≡ a → (next M g.place b).place ≡ 0 → (next M g.place b).failed ≡ 0 → g.place ≡ 0
        → g.full ≡ false
        → Carried M room base log out g out
        (record { taken = g.taken + 1; place = g.place; records = g.records; steps = g.steps; full = g.full })
    unfolding list_bytes
    run_idle b eb ep' en' z on =
        let ep : there ≡ 0 = ap (λ (b : ℕ). (next M g.place b).place) (sym eb) ∙ ep' in
        let en : (next M g.place a).failed ≡ 0 = ap (λ (b : ℕ). (next M g.place b).failed) (sym eb) ∙ en' in
        let e = base + g.taken + 1 in
        let nil : rs ≡ [] = ap (λ (n : ℕ). records_at M e n) ep ∙ records_zero M e in
        let nil0 : length rs ≡ 0 = ap {B = ℕ} length nil in
        let t = taken_one (omega arith) in
        let k : g.records + length rs ≡ g.records = omega arith in
        let f : there ≡ g.place = ep ∙ sym z in
        let w = S.few in
        carry out out g _ 1 0 [] (rw (k, nil, en, f) at t) refl (omega arith) (omega arith) refl refl
        (record {
          taken = omega arith;
          below = S.below;
          fits = S.fits;
          few = omega arith;
          over = λ e. absurd (true_false e on);
        })

    -- no room for its records
    pub run_full : (to : ℕ) → to ≡ there → room - g.records < reports M to
        → Carried M room base log out g out
        (record { taken = g.taken; place = g.place; records = g.records; steps = g.steps; full = true })
    run_full to et l =
        let c : reports M to ≡ length rs = ap (λ (p : ℕ). reports M p) et ∙ reports-length in
        let e : base + g.taken + 1 ≡ suc (base + g.taken) = omega arith in
        let h : room - g.records < length rs = omega arith in
        record {
          kept = refl;
          stands = record {
            taken = S.taken;
            below = S.below;
            fits = S.fits;
            few = S.few;
            over = λ y.
                ap (λ (t : List ℕ). run M (room - g.records) (base + g.taken) g.place t) event
                ∙ run-stop M (room - g.records) (base + g.taken) g.place a (drop (g.taken + 1) log) (rw e at h);
          };
          told = refl;
          memory = refl;
        }

  -- nothing is left to do
  over : (g : Going) → Stands M room base log g → (g.full ≡ false → length log ≤ g.taken)
      → left g ≡ stopped g.place
  over g S end =
      by_bool g.full S.over
      (λ e.
      ap (λ (t : List ℕ). run M (room - g.records) (base + g.taken) g.place t) (drop_of_length-le log (end e))
      ∙ run_nil M (room - g.records) (base + g.taken) g.place)

  pub run_done : (p : ℕ) (out₀ out : List ℕ) (g : Going) → Carried M room base log out₀ (unmoved p) out g
      → (g.full ≡ false → length log ≤ g.taken)
      → (accepted g.taken g.place g.records g.steps ≡ run_told (run M room base p log))
      × (out ≡ sets out₀ 0 (list_bytes (run M room base p log).records))
  unfolding list_bytes
  run_done p out₀ out g C end =
      let e = over g C.stands end in
      let e0 : room - 0 ≡ room = omega arith in
      let e1 : base + 0 ≡ base = omega arith in
      let first = left (unmoved p) in
      let whole = run M room base p log in
      let same : first ≡ whole = rw (e0, e1) in
      let t : (left g).taken ≡ 0 = ap (λ (o : Outcome). o.taken) e in
      let q : (left g).place ≡ g.place = ap (λ (o : Outcome). o.place) e in
      let r : length (left g).records ≡ 0 = ap {B = ℕ} (λ (o : Outcome). length o.records) e in
      let s : (left g).steps ≡ 0 = ap (λ (o : Outcome). o.steps) e in
      let t1 : g.taken + (left g).taken ≡ g.taken = omega arith in
      let r1 : g.records + length (left g).records ≡ g.records = omega arith in
      let s1 : g.steps + (left g).steps ≡ g.steps = omega arith in
      let t2 : 0 + first.taken ≡ first.taken = omega arith in
      let r2 : 0 + length first.records ≡ length first.records = omega arith in
      let s2 : 0 + first.steps ≡ first.steps = omega arith in
      let here : accepted g.taken g.place g.records g.steps ≡ told_at M room base log g = cc in
      let there : told_at M room base log (unmoved p) ≡ run_told first = cc in (
        here ∙ C.told ∙ there ∙ ap (λ (o : Outcome). run_told o) same,
        sym (ap (λ (o : Outcome). sets out (8 * g.records) (list_bytes o.records)) e) ∙ C.memory
            ∙ ap (λ (o : Outcome). sets out₀ 0 (list_bytes o.records)) same,
      )

-- the event of an idle place, as the table of place 0 tells it
pub run-stays : (xs : List ℕ) (q room base : ℕ) (log root out : List ℕ) (g : Going) (b : ℕ) → Accepted xs q
    → IsRoot (questions_at form1 xs q) root → Stands (questions_at form1 xs q) room base log g → g.taken < length log
    → b < 256 → b ≡ get_or log g.taken 0 → Idle root g.place b → g.full ≡ false
    → Carried (questions_at form1 xs q) room base log out g out
    (record { taken = g.taken + 1; place = g.place; records = g.records; steps = g.steps; full = g.full })
run-stays xs q room base log root out g b A R S more small eb I on =
    let d = idle_next xs q (edges_of xs) (facts_of A) g.place b root small R I in
    run_idle (questions_at form1 xs q) room base log out g S more b eb d.0 d.1 I.here on
