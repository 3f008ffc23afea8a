-- DEMAND 2, proved: `demand2`. `one_state`: the book of one state has no record on any log. Assumes nothing.
use mathlib.Core.Path.{◌≡◌, sym, ap, ◌∙◌, subst}
use mathlib.Core.Logic.{◌≢◌, ◌↔◌}
use Rattle.std.specs.Prelude.{None}
use mathlib.Core.List.{List, [], map, Memᴰ}
use Prim.Native.Nat.{ℕ, ◌+◌, ◌/◌, ◌≤◌, ◌<◌}
use native.Mathlib.Omega.{arith}
use lib.ListN.{length, take}
use Rattle.wire.specs.Record.{record_size}
use Rattle.meaning.specs.Answer.{accepted}
use Rattle.meaning.specs.Text.{Delta, Marks, events, Ends}
use Rattle.meaning.specs.Chain.{Live, Chain, chain}
use Rattle.meaning.specs.Book.{delta, outs, marks}
use Rattle.meaning.specs.Records.{Record, hit, marked, ending_at}
use Rattle.meaning.proofs.Cases.{by_option}
use Rattle.meaning.proofs.Book.{delta_names, delta_only}
use Rattle.meaning.proofs.Chain.{chain_is, chain_unique}
use Rattle.meaning.proofs.Records.{hits, hits-map, ends_iff}
use Rattle.meaning.proofs.ImageRun.{image_run_right, image_run_at, image_run_nothing}
use Rattle.book.specs.Model.{book_of}
use Rattle.book.specs.Rules.{check_book}
use Rattle.book.proofs.Accepted.{start_unmarked, targets_up}
use Rattle.demands.specs.Words.{Accepted, Compiled, Ran}
use Rattle.demands.specs.Demand2.{Listed, Demand2}
use Rattle.demands.proofs.Images.{image_chains, numbers_of}
use Rattle.demands.proofs.Lists.{its, ran_is, ran_taken}

module _ {xs ys : List ℕ} (A : Accepted xs) (K : Compiled xs ys) (base : ℕ) (log : List ℕ) {n : ℕ} {rs : List Record} (R : Ran ys base log n rs) where
  abbrev δ : Delta
  δ = delta (book_of xs)

  abbrev mark : Marks
  mark = marks (book_of xs)

  abbrev room : ℕ
  room = length R.out / record_size

  -- the records that end at event i are those of the chain after it
  at : (i : ℕ) → 0 < i → i ≤ n → ending_at (base + i) rs ≡ hits mark (base + i) (chain δ (events (take i log)))
  at i l k =
      let t = ran_taken K base log R in
      let w : i ≤ (its K base log R).taken = subst (λ (m : ℕ). i ≤ m) (sym t) k in
      ap (ending_at (base + i)) (ran_is K base log R)
      ∙ image_run_at δ (outs (book_of xs)) mark (image_chains K) (delta_names (book_of xs)) (delta_only (book_of xs)) (numbers_of K)
      room base log i l w

  listed : Listed δ mark base log n rs
  listed =
      record {
        ends = λ i l k.
            let t = events (take i log) in
            let z = start_unmarked xs A.0 A.1 A.2 in
            subst (λ (hs : List Record). (hs ≢ []) ↔ Ends δ mark t) (sym (at i l k)) (ends_iff δ mark (base + i) z t);
        one_each = λ i c l k is.
            let t = events (take i log) in
            at i l k ∙ hits-map mark (base + i) (chain δ t)
            ∙ ap (λ (d : Chain). map (λ (x : Live). hit mark (base + i) x) (marked mark d)) (chain_unique δ t (chain δ t) c (chain_is δ t) is);
        no_other = λ r m.
            let N = numbers_of K in
            let h = (image_run_right δ (outs (book_of xs)) mark (image_chains K) (delta_names (book_of xs)) (delta_only (book_of xs)) N room base log r).0
            (subst (λ (us : List Record). Memᴰ r us) (ran_is K base log R) m) in
            (h.0, h.1, subst (λ (m : ℕ). h.0 ≤ m) (ran_taken K base log R) h.2, h.3.at_end);
      }

pub demand2 : Demand2
demand2 xs ys A K base log n rs R = listed A K base log R

-- THE BOOK OF ONE STATE finds nothing
pub one_state : (xs ys : List ℕ) (e : ℕ) → check_book xs ≡ accepted 1 e 0 0 → Compiled xs ys
    → (base : ℕ) (log : List ℕ) (n : ℕ) (rs : List Record) → Ran ys base log n rs → rs ≡ []
one_state xs ys e A K base log n rs R =
    let δ = delta (book_of xs) in
    let quiet : (a : ℕ) → δ 0 a ≡ None =
    λ a. by_option (δ 0 a) (λ f. f) (λ p f. let u = targets_up xs 1 e A 0 a p f in let v = u.0 in let w = u.1 in absurd (let z : ⊥ = omega arith in z)) in
    ran_is K base log R
    ∙ image_run_nothing δ (outs (book_of xs)) (marks (book_of xs)) (image_chains K) (delta_names (book_of xs)) (delta_only (book_of xs)) (numbers_of K)
    (length R.out / record_size) base log quiet
