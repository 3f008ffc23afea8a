-- DEMAND 1, proved: `demand1`. Assumes nothing.
use mathlib.Core.Path.{◌≡◌, refl, sym}
use Rattle.std.specs.Prelude.{Option, None, Some}
use mathlib.Core.List.{List, [], ◌∷◌, ◌++◌}
use Prim.Native.Nat.{ℕ, ◌-◌, ◌/◌}
use native.Mathlib.Omega.{arith}
use lib.ListN.{length}
use lib.Dec.{ltb}
use Rattle.wire.specs.Record.{record_size}
use Rattle.meaning.specs.Answer.{Answer, accepted, refused, rule, judged}
use Rattle.meaning.specs.Records.{run}
use Rattle.meaning.specs.Chain.{Chain}
use Rattle.meaning.specs.Book.{Book}
use Rattle.book.specs.Form.{SB, letters_right, trailer_of, table_of}
use Rattle.book.specs.Rules.{trailer_rules, table_rules, check_book}
use Rattle.book.specs.Model.{book_of}
use Rattle.image.specs.Form.{form1, size_of, trailer_of as imageTrailer}
use Rattle.image.specs.Questions.{questions}
use Rattle.image.specs.Rules.{image_rules, check_image}
use Rattle.image.specs.Calls.{checked_first, run_rules, run_told, run_answer, run_memory}
use Rattle.lists.specs.Short.{short_of, short_rules, short_answer, short_memory}
use Rattle.lists.specs.Part.{start_of, part_rules, part_answer}
use Rattle.lists.proofs.Parts.{part_empty, part_refused}
use Rattle.compile.specs.Bytes.{edge_count}
use Rattle.compile.specs.Answer.{chains_of, made_of, after_book, compile_answer, compile_memory}
use Rattle.demands.specs.Demand1.{Numbered, Demand1}
use Rattle.demands.proofs.Numbered.{accepted_in, refused_in, judged_in, numbered_wider}

book_number : (xs : List ℕ) → Numbered 1 13 (check_book xs)
unfolding check_book
book_number xs =
    let T = trailer_of xs in
    judged_in 1 13 (trailer_rules (length xs) (letters_right SB xs) T ++ table_rules (table_of xs) T.states T.edges)
    (accepted T.states T.edges 0 0) refl (accepted_in 1 13 T.states T.edges 0 0)

image_number : (xs : List ℕ) → Numbered 17 19 (check_image xs)
unfolding check_image image_rules
image_number xs =
    let T = imageTrailer form1 xs in
    judged_in 17 19 (image_rules form1 xs) (accepted T.places T.edges 0 0) refl (accepted_in 17 19 T.places T.edges 0 0)

run-number : (xs : List ℕ) (p base : ℕ) (log out : List ℕ) → Numbered 17 21 (run_answer xs p base log out)
unfolding run_answer checked_first image_rules
run-number xs p base log out =
    let q = (imageTrailer form1 xs).places in
    let o = run (questions xs) (length out / record_size) base p log in
    let rs = run_rules q p base (length log) in
    judged_in 17 21 (image_rules form1 xs) (judged rs (run_told o)) refl
    (judged_in 17 21 rs (run_told o) refl (accepted_in 17 21 o.taken o.place (length o.records) o.steps))

short-number : (list : List ℕ) (room : ℕ) → Numbered 22 23 (short_answer list room)
unfolding short_answer
short-number list room =
    judged_in 22 23 (short_rules list room) (accepted (length (short_of list)) 0 0 0) refl (accepted_in 22 23 (length (short_of list)) 0 0 0)

part_number : (log : List ℕ) (base end l : ℕ) → Numbered 21 24 (part_answer log base end l)
unfolding part_answer
part_number log base end l =
    let offset = start_of log (end - base) l in
    judged_in 21 24 (part_rules log base end l) (accepted offset (end - base - offset) 0 0) refl
    (accepted_in 21 24 offset (end - base - offset) 0 0)

made_number : (B : Book) (room : ℕ) (o : Option (List Chain)) → Numbered 1 16 (made_of B room o)
made_number B room None = refused_in 1 16 14 0 (omega arith, omega arith)
made_number B room (Some L) =
    let q = length L in
    let t = edge_count B L in
    let n = size_of form1 q t in
    judged_in 1 16 (rule 15 (ltb 4096 t) 0 ∷ rule 16 (ltb room n) 0 ∷ []) (accepted n q t 0) refl (accepted_in 1 16 n q t 0)

after-number : (x y : Answer) → Numbered 1 13 x → Numbered 1 16 y → Numbered 1 16 (after_book x y)
after-number (accepted a b c d) y k m = m
after-number (refused n p) y k m = numbered_wider 1 13 1 16 (refused n p) (omega arith) (omega arith) k

compile_number : (xs : List ℕ) (room : ℕ) → Numbered 1 16 (compile_answer xs room)
unfolding compile_answer
compile_number xs room =
    after-number (check_book xs) (made_of (book_of xs) room (chains_of (book_of xs))) (book_number xs)
    (made_number (book_of xs) room (chains_of (book_of xs)))

compile_keeps : (xs out : List ℕ) (n p : ℕ) → compile_answer xs (length out) ≡ refused n p → compile_memory xs out ≡ out
unfolding compile_memory
compile_keeps xs out n p e = rw e

run-keeps : (xs : List ℕ) (q base : ℕ) (log out : List ℕ) (n p : ℕ) → run_answer xs q base log out ≡ refused n p → run_memory xs q base log out ≡ out
unfolding run_memory
run-keeps xs q base log out n p e = rw e

short-keeps : (list out : List ℕ) (n p : ℕ) → short_answer list (length out) ≡ refused n p → short_memory list out ≡ out
unfolding short_memory
short-keeps list out n p e = rw e

pub demand1 : Demand1
demand1 =
    record {
      book_number = book_number;
      image_number = image_number;
      compile_number = compile_number;
      run-number = run-number;
      short-number = short-number;
      part_number = part_number;
      compile_keeps = compile_keeps;
      run-keeps = run-keeps;
      short-keeps = short-keeps;
      part_empty = λ log base end l. (
        (λ e. let r = part_empty log base end l e in (r.0, r.1, sym r.2)),
        (λ r. sym (part_refused log base end l (sym r.2))),
      );
    }
