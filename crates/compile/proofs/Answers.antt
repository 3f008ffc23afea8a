-- What a compile answers, from what its parts ensure. `told_injective`: an answer's numbers tell its case. `makes_14`
-- .. `makes_done`: the answer for a book's table. `compiled-refused`, `compiled-fine`: the whole. Assumes nothing.
use mathlib.Core.Path.{◌≡◌, refl, sym, ap, ◌∙◌, subst}
use Rattle.std.specs.Prelude.{None, Some, Result}
use mathlib.Core.List.{List}
use Prim.Native.Nat.{ℕ, ◌+◌, ◌*◌, ◌≤◌, ◌<◌}
use native.Mathlib.Omega.{arith}
use lib.ListN.{length}
use lib.Seq.{sets}
use borrow.Author.Tests.{lt-ltb, le-ltb}
use Rattle.meaning.specs.Places.{places}
use Rattle.meaning.specs.Book.{Book, delta, outs, marks}
use Rattle.meaning.specs.Questions.{first_edge}
use Rattle.meaning.specs.Answer.{Answer, accepted, refused}
use Rattle.meaning.specs.Refusal.{refusing}
use Rattle.meaning.specs.declared.Refusal.{Refusal}
use Rattle.book.specs.Form.{table_at, table_of}
use Rattle.book.specs.Model.{table_book, book_of, firsts_of, Rising}
use Rattle.book.specs.Rules.{check_book}
use Rattle.book.proofs.Judged.{table-inside}
use Rattle.meaning.proofs.Refused.{told_apart, refused_accepted}
use Rattle.book.proofs.Accepted as accepted-book
use Rattle.image.specs.Form.{form1}
use Rattle.compile.specs.Work.{Rows, list_of, Held}
use Rattle.compile.specs.Bytes.{edge_count, image_bytes}
use Rattle.compile.specs.Answer.{chains_of, compile_answer, compile_memory, making, told}
use Rattle.compile.specs.Explore.{Ready, TooMany, AllFound}
use Rattle.compile.specs.Write.{Numbered, Makes}
use Rattle.compile.specs.declared.Made.{Made}
use Rattle.compile.proofs.Rows.{length_list}

-- an answer's numbers tell its case
making_apart : (a b : Made) → making a ≡ making b → a ≡ b
making_apart a b e =
    let l : a.length ≡ b.length = cc in
    let q : a.places ≡ b.places = cc in
    let t : a.edges ≡ b.edges = cc in
    λ i. record { length = l i; places = q i; edges = t i }

pub told_injective : (a b : Result Made Refusal) → told a ≡ told b → a ≡ b
told_injective = told_apart making making_apart (λ m n p h. refused_accepted h)

-- so no second answer meets the contract
pub compiled_unique : (xs : List ℕ) (room : ℕ) (a b : Result Made Refusal) → told a ≡ compile_answer xs room
    → told b ≡ compile_answer xs room
    → a ≡ b
compiled_unique xs room a b e f = told_injective a b (e ∙ sym f)

-- ---- the answer for a table's book
module _ (B : Book) (d : List ℕ) where
  pub makes_14 : (e : Refusal) → (places (delta B) (outs B) 1024 ≡ None) × TooMany e → Makes B d d (refusing e)
  unfolding chains_of
  makes_14 e X = let a = X.0 in record { answers = X.1 ∙ rw a; leaves = rw a }

module _ {B : Book} {w : Rows} {n t : ℕ} (X : AllFound B w n t) where
  chains : places (delta B) (outs B) 1024 ≡ Some (list_of w n)
  chains = X.all

  count : length (list_of w n) ≡ n
  count = length_list w n

  edges : edge_count B (list_of w n) ≡ t
  edges = ap (λ (k : ℕ). first_edge (delta B) (outs B) (marks B) (list_of w n) k) count ∙ sym X.edges

  pub numbered : t ≤ 4096 → Held w n → Numbered B w n
  numbered few H = let s = X.edges in record { held = H; all = chains; few_edges = omega arith }

  module _ (d : List ℕ) where
    pub makes_15 : 4096 < t → Makes B d d (refused 15 0)
    unfolding chains_of
    makes_15 l = let e = lt-ltb 4096 t l in record { answers = rw (chains, edges, e); leaves = rw (chains, edges, e) }

    module _ (few : t ≤ 4096) where
      pub makes_16 : length d < 14 * n + 4 * t + 12 → Makes B d d (refused 16 0)
      unfolding chains_of
      makes_16 l =
          let e = le-ltb 4096 t few in
          let g = lt-ltb (length d) (14 * n + 4 * t + 12) l in
          record { answers = rw (chains, edges, count, e, g); leaves = rw (chains, edges, count, e, g) }

      pub makes_done : 14 * n + 4 * t + 12 ≤ length d → {d' : List ℕ} → d' ≡ sets d 0 (image_bytes form1 B (list_of w n))
          → Makes B d d' (accepted (14 * n + 4 * t + 12) n t 0)
      unfolding chains_of
      makes_done l h =
          let e = le-ltb 4096 t few in
          let g = le-ltb (length d) (14 * n + 4 * t + 12) l in
          record { answers = rw (chains, edges, count, e, g); leaves = h ∙ rw (chains, edges, count, e, g) }

-- ---- the answer for any bytes
module _ (xs : List ℕ) where
  pub ready_book : {S E : ℕ} → check_book xs ≡ accepted S E 0 0 → {t : List ℕ} → t ≡ table_of xs
      → Ready t S (firsts_of (table_book t S))
  ready_book {S} {E} A {t} e =
      let b = accepted-book.book_is xs S E A in
      let lim = accepted-book.limits xs S E A in
      let few = lim.1 in
      let most = lim.2 in
      let sum = (accepted-book.table_is xs S E A).sum in
      rw e (record {
        few = few;
        fits = omega arith;
        firsts = refl;
        rising = λ q. subst (λ (z : Book). Rising (table_of xs) S (firsts_of z) q) b (accepted-book.rising xs S E A q);
        small = λ q a p g.
            let u = (accepted-book.targets_up xs S E A q a p (ap (λ (z : Book). delta z q a) b ∙ g)).1 in
            omega arith;
      })

  pub table_fits : {at : ℕ} → at ≡ table_at xs → at ≤ length xs
  table_fits e = let l = table-inside xs in omega arith

  module _ (out : List ℕ) where
    -- a refused book is refused
    module _ (e : Refusal) (check : refusing e ≡ check_book xs) where
      pub refused_answer : refusing e ≡ compile_answer xs (length out)
      unfolding compile_answer
      refused_answer = rw (← check)

      pub refused_memory : out ≡ compile_memory xs out
      unfolding compile_memory compile_answer
      refused_memory = rw (← check)

    -- what the table of an accepted one makes is the answer
    module _ {S E : ℕ} (check : accepted S E 0 0 ≡ check_book xs) {t out' : List ℕ} {a : Answer} (g : t ≡ table_of xs)
        (M : Makes (table_book t S) out out' a) where
      book : table_book t S ≡ book_of xs
      book = rw g (sym (accepted-book.book_is xs S E (sym check)))

      pub fine_answer : a ≡ compile_answer xs (length out)
      unfolding compile_answer
      fine_answer = M.answers ∙ rw (book, ← check)

      pub fine_memory : out' ≡ compile_memory xs out
      unfolding compile_memory compile_answer
      fine_memory = M.leaves ∙ rw (book, ← check)
