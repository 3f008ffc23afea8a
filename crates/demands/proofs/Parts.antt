-- THE PART OF A RECORD, proved: `parts_lead`. Assumes nothing.
use mathlib.Core.Path.{◌≡◌, refl, sym, ap, ◌∙◌, subst}
use mathlib.Core.Logic.{◌≢◌}
use Rattle.std.specs.Prelude.{Some}
use mathlib.Core.List.{List, [], ◌∷◌, ◌++◌, Memᴰ}
use Prim.Native.Nat.{ℕ, ◌+◌, ◌/◌, ◌≤◌}
use native.Mathlib.Omega.{arith}
use lib.ListN.{length, take, drop, length-append}
use lib.Seq.{drop_at, length-take-le}
use Rattle.wire.specs.Record.{record_size}
use Rattle.meaning.specs.Text.{Text, Delta, read}
use Rattle.meaning.specs.Book.{delta, outs, marks}
use Rattle.meaning.specs.Questions.{image_of}
use Rattle.meaning.specs.Records.{Record}
use Rattle.meaning.proofs.Text.{events_all}
use Rattle.meaning.proofs.Book.{delta_names, delta_only}
use Rattle.meaning.proofs.Run.{run_taken}
use Rattle.meaning.proofs.ImageRun.{image_run_right}
use Rattle.book.specs.Model.{book_of}
use Rattle.lists.specs.Part.{part_of}
use Rattle.lists.proofs.Parts.{part-ending}
use Rattle.demands.specs.Parts.{PartsLead}
use Rattle.demands.proofs.Images.{image_chains, numbers_of}
use Rattle.demands.proofs.Lists.{ran_is, log_fits}

-- two endings of one list, equally long, are one
endings_same : (s w u v : List ℕ) → s ++ w ≡ u ++ v → length w ≡ length v → w ≡ v
endings_same s w u v e l =
    let a = ap length e in
    let k : length s ≡ length u = omega (arith, length-append s w, length-append u v) in
    sym (drop_at s w (length s) refl) ∙ ap (drop (length s)) e ∙ drop_at u v (length s) (sym k)

-- a word that leads to another state than 0 has an event
some_event : (δ : Delta) (w : Text) (q : ℕ) → read δ 0 w ≡ Some q → q ≢ 0 → 1 ≤ length w
some_event δ [] q e nz = absurd (nz (let z : q ≡ 0 = cc in z))
some_event δ (a ∷ w) q e nz = omega arith

pub parts_lead : PartsLead
parts_lead xs ys K base log n rs R r m =
    let B = book_of xs in
    let δ = delta B in
    let L = image_chains K in
    let room = length R.out / record_size in
    let h = (image_run_right δ (outs B) (marks B) L (delta_names B) (delta_only B) (numbers_of K) room base log r).0
    (subst (λ (us : List Record). Memᴰ r us) (ran_is K base log R) m) in
    let i = h.0 in
    let taken = run_taken (image_of δ (outs B) (marks B) L) room base 0 log in
    let low = h.2 in
    let inside : i ≤ length log = omega arith in
    let H = h.3 in
    let q = H.state in
    let reach = H.reach in
    let lead = H.its_reach.1 in
    let w = lead.1 in
    let long : length w ≡ reach = lead.3 in
    let some-length = some_event δ w q lead.4 H.its_reach.0 in
    let text : lead.0 ++ w ≡ take i log = lead.2 ∙ events_all (take i log) in
    let sizes = ap length text in
    let whole = length-take-le i log inside in
    let within : reach ≤ i = omega (arith, length-append lead.0 w) in
    let p = part-ending log base i reach inside (omega arith) within (log_fits K base log R) in
    let part : part_of log base r.end r.length ≡ part_of log base (base + i) reach =
    λ j. part_of log base (H.at_end j) (H.its_length j) in
    let same : part_of log base (base + i) reach ≡ w =
    endings_same p.0 (part_of log base (base + i) reach) lead.0 w (p.1 ∙ sym text) (p.2 ∙ sym long) in
    record {
      state = q;
      its_mark = H.its_mark;
      leads = ap (λ (t : Text). read δ 0 t) (events_all (part_of log base r.end r.length) ∙ part ∙ same) ∙ lead.4;
      before = p.0;
      bytes = i;
      at_end = H.at_end;
      ending = ap (λ (t : List ℕ). p.0 ++ t) part ∙ p.1;
    }
