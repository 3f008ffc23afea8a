-- The list that a run wrote. From `Compiled xs ys` and `Ran ys base log n rs`: ran_is (the records are those of the run over the
-- book's image), ran_taken (and so are the events taken), log_fits. On the way: `list_bytes-joined`, `run-writes`, what a run that is not
-- refused wrote; records_fit: its ends and lengths fit their bytes. Assumes nothing.
use mathlib.Core.Path.{◌≡◌, refl, sym, ap, ◌∙◌, subst}
use mathlib.Core.Bool.{Bool, true, false}
use Rattle.std.specs.Prelude.{Option, None, Some}
use mathlib.Core.List.{List, [], ◌∷◌, ◌++◌, map, Memᴰ}
use Prim.Native.Nat.{ℕ, ◌+◌, ◌*◌, ◌/◌, ◌≤◌, ◌<◌}
use native.Mathlib.Omega.{arith}
use lib.ListN.{length, take, length-append}
use lib.Dec.{ltb}
use lib.Seq.{sets}
use borrow.Author.Tests.{ltb-false}
use Rattle.wire.specs.Record.{record_size, record_bytes}
use Rattle.meaning.specs.Choice.{when}
use Rattle.meaning.specs.Answer.{accepted, judged}
use Rattle.meaning.specs.Text.{Delta, Marks}
use Rattle.meaning.specs.Book.{delta, outs, marks}
use Rattle.meaning.specs.Questions.{image_of}
use Rattle.meaning.specs.Records.{Record, Outcome, run}
use Rattle.meaning.proofs.Cases.{none_some}
use Rattle.meaning.proofs.Book.{delta_names, delta_only, read_under}
use Rattle.meaning.proofs.Small.{reach_state}
use Rattle.meaning.proofs.Places.{some_place}
use Rattle.meaning.proofs.Run.{run_room, run_taken}
use Rattle.meaning.proofs.ImageRun.{image_run_right}
use Rattle.book.specs.Model.{book_of}
use Rattle.book.proofs.Judged.{judged-passed}
use Rattle.image.specs.Form.{form_of, trailer_of}
use Rattle.image.specs.Rules.{image_rules}
use Rattle.image.specs.Questions.{questions}
use Rattle.image.specs.Calls.{checked_first, run_rules, run_told, run_answer, list_bytes, run_memory}
use Rattle.lists.specs.Whole.{joined, decoded}
use Rattle.lists.proofs.Whole.{bytes_of, Fitting, decoded_bytes}
use Rattle.compile.proofs.Theorems.{made_run}
use Rattle.demands.specs.Words.{Compiled, Ran}
use Rattle.demands.proofs.Images.{take-sets, image_chains, compiles, image_is, numbers_of}

list_bytes-joined : (rs : List Record) → list_bytes rs ≡ joined (map bytes_of rs)
unfolding list_bytes
list_bytes-joined [] = refl
list_bytes-joined (r ∷ rs) = ap (λ (bs : List ℕ). record_bytes r.end r.length r.mark ++ bs) (list_bytes-joined rs)

list_bytes-length : (rs : List Record) → length (list_bytes rs) ≡ 8 * length rs
unfolding list_bytes
list_bytes-length [] = refl
list_bytes-length (r ∷ rs) =
    let i = list_bytes-length rs in
    omega (arith, length-append (record_bytes r.end r.length r.mark) (list_bytes rs))

no_fault : (b : Bool) → ◌≡◌ {A = Option ℕ} (when b (Some 0) None) None → b ≡ false
no_fault true e = none_some refl (sym e)
no_fault false e = refl

-- a list whose members all fit
all_fit : (rs : List Record) → ((r : Record) → Memᴰ r rs → (r.end < 4294967296) × (r.length < 65536)) → Fitting rs
all_fit [] f = tt
all_fit (r ∷ rs) f =
    let h = f r (Memᴰ.head refl) in
    (h.0, h.1, all_fit rs (λ s m. f s (Memᴰ.tail m)))

module _ (ys : List ℕ) (base : ℕ) (log out : List ℕ) where
  -- the run over the image
  abbrev outcome : Outcome
  outcome = run (questions ys) (length out / record_size) base 0 log

  -- a run that is not refused comes to this, and its log fits the ends
  passed : {n p k s : ℕ} → run_answer ys 0 base log out ≡ accepted n p k s
      → (run_told outcome ≡ accepted n p k s) × (base + length log ≤ 4294967295)
  unfolding run_answer checked_first
  passed {n} {p} {k} {s} e =
      let q = (trailer_of (form_of ys) ys).places in
      let rs = run_rules q 0 base (length log) in
      let a = judged-passed (image_rules (form_of ys) ys) (judged rs (run_told outcome)) e in
      let b = judged-passed rs (run_told outcome) a.1 in
      (b.1, ltb-false 4294967295 (base + length log) (no_fault (ltb 4294967295 (base + length log)) b.0.1.0))

  -- the records written are the outcome's, where they fit
  written : {n p k s : ℕ} → run_answer ys 0 base log out ≡ accepted n p k s → Fitting outcome.records
      → decoded (take (record_size * length outcome.records) (run_memory ys 0 base log out)) ≡ outcome.records
  unfolding run_memory
  written e f =
      let rs = outcome.records in
      let m = 8 * length rs in
      let few = run_room (questions ys) (length out / 8) base 0 log in
      let memory : take m (sets out 0 (list_bytes rs)) ≡ list_bytes rs =
      take-sets out (list_bytes rs) m (list_bytes-length rs) (omega arith) in
      rw e (ap decoded (memory ∙ list_bytes-joined rs) ∙ decoded_bytes rs f)

module _ {xs ys : List ℕ} (K : Compiled xs ys) (base : ℕ) (log : List ℕ) {n : ℕ} {rs : List Record} (R : Ran ys base log n rs) where
  abbrev δ : Delta
  δ = delta (book_of xs)

  abbrev es : ℕ → List ℕ
  es = outs (book_of xs)

  abbrev mark : Marks
  mark = marks (book_of xs)

  abbrev room : ℕ
  room = length R.out / record_size

  -- the run over the book's image
  abbrev pub its : Outcome
  its = run (image_of δ es mark (image_chains K)) room base 0 log

  same : run (questions ys) room base 0 log ≡ its
  same =
      ap (λ (zs : List ℕ). run (questions zs) room base 0 log) (image_is K)
      ∙ made_run (compiles K) room base 0 log (some_place δ (image_chains K) (numbers_of K))

  pub log_fits : base + length log ≤ 4294967295
  log_fits = (passed ys base log R.out R.answer).1

  told : run_told (run (questions ys) room base 0 log) ≡ accepted n R.place (length rs) R.steps
  told = (passed ys base log R.out R.answer).0

  pub ran_taken : its.taken ≡ n
  ran_taken =
      let o = run (questions ys) room base 0 log in
      let e : o.taken ≡ n = let t = told in cc in
      sym (ap (λ (u : Outcome). u.taken) same) ∙ e

  -- an end is at most base and the log's length, and a length at most a state's number
  records_fit : Fitting its.records
  records_fit =
      all_fit its.records
      (λ r m.
      let N = numbers_of K in
      let h = (image_run_right δ es mark (image_chains K) (delta_names (book_of xs)) (delta_only (book_of xs)) N room base log r).0 m in
      let t = run_taken (image_of δ es mark (image_chains K)) room base 0 log in
      let l = h.2 in
      let f = log_fits in
      let at = h.3.at_end in
      let long = h.3.its_length in
      let R = h.3.its_reach in
      let F = (compiles K).fine in
      let a = reach_state δ F.up _ h.3.state h.3.reach R in
      let b = read_under δ 512 F.under R.1.1 0 h.3.state (omega arith) R.1.4 in
      (omega arith, omega arith))

  pub ran_is : rs ≡ its.records
  ran_is =
      let o = run (questions ys) room base 0 log in
      let e : length o.records ≡ length rs = let t = told in cc in
      let same-records : o.records ≡ its.records = ap (λ (u : Outcome). u.records) same in
      let fit : Fitting o.records = subst Fitting (sym same-records) records_fit in
      sym R.list ∙ ap (λ (k : ℕ). decoded (take (record_size * k) (run_memory ys 0 base log R.out))) (sym e)
      ∙ written ys base log R.out R.answer fit ∙ same-records
