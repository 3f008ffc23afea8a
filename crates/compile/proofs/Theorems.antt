-- WHAT A COMPILE GIVES. xs is any book's bytes, B the book that they hold.
--   compiled                    an accepted answer: the chains that it numbers, and that they are few enough
--   compiled_accepted           the image of a book that compiles is accepted, with the places and edges of the answer
--   made_alike                  its questions are those of `image_of`; made_walk, made_run: and so are walks and runs
--   compiled-length             its length is the answer's, and at most 30,732
--   compiled_memory, compiled_start  the lent memory then starts with the image, and is as it was past its end
--   refused_14, refused_15      an accepted book is refused for size exactly where more than 1,024 chains are reachable, or
--                               their places need more than 4,096 edges
--   room_enough                 with 30,732 bytes of room it is never refused 16
--   note_answer, note_memory    what stands before an accepted book's state table changes nothing
-- Assumes nothing.
use mathlib.Core.Path.{◌≡◌, refl, sym, ap, ◌∙◌}
use mathlib.Core.Logic.{◌≢◌, ◌↔◌}
use mathlib.Core.Bool.{Bool, true, ◌&&◌}
use Rattle.std.specs.Prelude.{Option, None, Some}
use mathlib.Core.List.{List, [], ◌∷◌, ◌++◌}
use Prim.Native.Nat.{ℕ, ◌+◌, ◌≤◌, ◌<◌}
use native.Mathlib.Omega.{arith}
use lib.ListN.{length, take, drop}
use lib.Seq.{sets, sets-eq, take_at, drop_at}
use lib.Dec.{leb, ltb}
use borrow.Author.Tests.{lt-ltb, leb-true, ltb-true, ltb-false}
use Rattle.meaning.specs.Text.{Text}
use Rattle.meaning.specs.Chain.{Chain}
use Rattle.meaning.specs.Places.{places, MoreThan}
use Rattle.meaning.specs.Book.{Book, delta, outs, marks}
use Rattle.meaning.specs.Questions.{Image, Levels, image_of}
use Rattle.meaning.specs.Walk.{walk}
use Rattle.meaning.specs.Records.{run}
use Rattle.meaning.specs.Answer.{Answer, accepted, refused, Rule, judged}
use Rattle.meaning.proofs.Cases.{by_bool, by_option, and_true}
use Rattle.meaning.proofs.Book.{delta_names}
use Rattle.meaning.proofs.Places.{places-number, places_low, places_over}
use Rattle.book.specs.Form.{most_bytes, SB, letters_right, trailer_of, table_of}
use Rattle.book.specs.Model.{book_of}
use Rattle.book.specs.Rules.{trailer_rules, table_rules, check_book}
use Rattle.book.proofs.Accepted.{limits, targets_up, start_unmarked, events_rise}
use Rattle.book.proofs.Judged.{judged-passed}
use Rattle.book.proofs.Note.{note_accepted}
use Rattle.image.specs.Form.{form1, size_of}
use Rattle.image.specs.Rules.{check_image}
use Rattle.image.specs.Questions.{questions}
use Rattle.compile.specs.Bytes.{edge_count, image_bytes}
use Rattle.compile.specs.Answer.{chains_of, made_of, image_of_book, compile_answer, compile_memory}
use Rattle.compile.proofs.Back.{length_image}
use Rattle.meaning.proofs.Alike.{Alike, walk_alike, run_alike}
use Rattle.meaning.proofs.Refused.{refused_accepted}
use Rattle.compile.proofs.Shown.{Fine, model_levels, image_alike}
use Rattle.compile.proofs.Valid.{image_accepted}

-- two numbers are two refusals
numbers_differ : {A : Type 0} {n m p r : ℕ} → refused n p ≡ refused m r → n ≢ m → A
numbers_differ {n = n} {m = m} e d = let z : n ≡ m = cc in absurd (d z)

pub record Compiles (B : Book) (L : List Chain) (room l q t : ℕ) : Type 0 where
  pub chains : chains_of B ≡ Some L
  pub fine : Fine B L
  pub places : length L ≡ q
  pub edges : edge_count B L ≡ t
  pub size : l ≡ size_of form1 q t
  pub fits : l ≤ room

-- the answers for a book whose chains are L: 15, 16, or accepted
by_made : {A : Type 0} (B : Book) (L : List Chain) (room : ℕ) (a : Answer) → made_of B room (Some L) ≡ a
    → (4096 < edge_count B L → refused 15 0 ≡ a → A)
    → (edge_count B L ≤ 4096 → room < size_of form1 (length L) (edge_count B L) → refused 16 0 ≡ a → A)
    → (edge_count B L ≤ 4096 → size_of form1 (length L) (edge_count B L) ≤ room
    → accepted (size_of form1 (length L) (edge_count B L)) (length L) (edge_count B L) 0 ≡ a → A)
    → A
by_made B L room a e many short fits =
    let q = length L in
    let t = edge_count B L in
    by_bool (ltb 4096 t) (λ h. many (ltb-true 4096 t h) (sym (rw h) ∙ e))
    (λ h.
    by_bool (ltb room (size_of form1 q t))
    (λ g. short (ltb-false 4096 t h) (ltb-true room (size_of form1 q t) g) (sym (rw (h, g)) ∙ e))
    (λ g. fits (ltb-false 4096 t h) (ltb-false room (size_of form1 q t) g) (sym (rw (h, g)) ∙ e)))

made_some : (B : Book) (L : List Chain) (room l q t z : ℕ) → chains_of B ≡ Some L → (edge_count B L ≤ 4096 → Fine B L)
    → made_of B room (Some L) ≡ accepted l q t z → Compiles B L room l q t
made_some B L room l q t z c fine e =
    let n = length L in
    let u = edge_count B L in
    by_made B L room (accepted l q t z) e (λ h f. refused_accepted f) (λ h k f. refused_accepted f)
    (λ few fit f.
    let e1 : size_of form1 n u ≡ l = cc in
    let e2 : n ≡ q = cc in
    let e3 : u ≡ t = cc in
    record { chains = c; fine = fine few; places = e2; edges = e3; size = sym e1 ∙ rw (e3, e2); fits = omega arith })

-- ---- THE IMAGE of a book that compiles
module _ {B : Book} {L : List Chain} {room l q t : ℕ} (C : Compiles B L room l q t) where
  abbrev model : Image
  model = image_of (delta B) (outs B) (marks B) L

  bytes : image_of_book B ≡ image_bytes form1 B L
  bytes = rw C.chains

  -- it is accepted
  pub made_accepted : check_image (image_of_book B) ≡ accepted q t 0 0
  made_accepted = ap check_image bytes ∙ image_accepted C.fine ∙ rw (C.edges, C.places)

  -- its length is the answer's, and no image is longer than 30,732 bytes
  pub made_length : (length (image_of_book B) ≡ l) × (l ≤ 30732)
  made_length =
      let n = ap length bytes ∙ length_image B L in
      let s = C.size in
      let a = C.places in
      let b = C.edges in
      let few = C.fine.few_places in
      let all = C.fine.few_edges in
      (omega arith, omega arith)

  -- its questions are those of the book
  pub made_alike : Alike (questions (image_of_book B)) (image_of (delta B) (outs B) (marks B) L)
  made_alike = rw bytes (image_alike C.fine)

  pub made_levels : Levels (image_of (delta B) (outs B) (marks B) L)
  made_levels = model_levels C.fine

  -- so walks and runs over its bytes are those over the book's image
  pub made_walk : (p : ℕ) (s : Text) → p < length L → walk (questions (image_of_book B)) p s ≡ walk model p s
  made_walk = walk_alike made_alike made_levels

  pub made_run : (r e p : ℕ) (log : List ℕ) → p < length L → run (questions (image_of_book B)) r e p log ≡ run model r e p log
  made_run = run_alike made_alike made_levels

-- a book's refusals have numbers up to 13
abbrev below : ℕ → List Rule → Bool
below k [] = true
below k (r ∷ rs) = leb r.number k && below k rs

judged-below : (k : ℕ) (rs : List Rule) (a b : ℕ) {n p : ℕ} → below k rs ≡ true
    → judged rs (accepted a b 0 0) ≡ refused n p → n ≤ k
judged-below k [] a b u e = refused_accepted (sym e)
judged-below k (r ∷ rs) a b {n} {p} u e =
    let v = and_true (leb r.number k) (below k rs) u in
    by_option r.fault (λ f. judged-below k rs a b v.1 (rw f at e))
    (λ i f.
    let g : refused r.number i ≡ refused n p = rw f at e in
    let z : r.number ≡ n = cc in
    let l = leb-true r.number k v.0 in
    omega arith)

module _ (xs : List ℕ) where
  -- an answer is that of the book's chains, where the book is accepted
  answer_fine : {S E : ℕ} → check_book xs ≡ accepted S E 0 0 → (room : ℕ)
      → compile_answer xs room ≡ made_of (book_of xs) room (chains_of (book_of xs))
  unfolding compile_answer
  answer_fine A room = rw A

  -- only an accepted book is compiled
  accepted_zeros : {S E c d : ℕ} → check_book xs ≡ accepted S E c d → check_book xs ≡ accepted S E 0 0
  unfolding check_book
  accepted_zeros {S} {E} {c} {d} e =
      let T = trailer_of xs in
      let rules = trailer_rules (length xs) (letters_right SB xs) T ++ table_rules (table_of xs) T.states T.edges in
      let x : accepted T.states T.edges 0 0 ≡ accepted S E c d =
      (judged-passed rules (accepted T.states T.edges 0 0) e).1 in
      let z : 0 ≡ c = cc in
      let y : 0 ≡ d = cc in
      e ∙ (λ i. accepted S E (sym z i) (sym y i))

  book_first : (room l q t z : ℕ) → compile_answer xs room ≡ accepted l q t z
      → (S : ℕ) × (E : ℕ) × (check_book xs ≡ accepted S E 0 0)
      × (made_of (book_of xs) room (chains_of (book_of xs)) ≡ accepted l q t z)
  unfolding compile_answer
  book_first room l q t z e = go (check_book xs) refl
    where
      go : (a : Answer) → check_book xs ≡ a
          → (S : ℕ) × (E : ℕ) × (check_book xs ≡ accepted S E 0 0)
          × (made_of (book_of xs) room (chains_of (book_of xs)) ≡ accepted l q t z)
      go (accepted S E c d) f = (S, E, accepted_zeros f, sym (rw f) ∙ e)
      go (refused n p) f = let g : refused n p ≡ accepted l q t z = sym (rw f) ∙ e in refused_accepted g

  -- what an accepted book with few enough places and edges gives
  fine_book : {S E : ℕ} → check_book xs ≡ accepted S E 0 0 → {L : List Chain} → chains_of (book_of xs) ≡ Some L
      → edge_count (book_of xs) L ≤ 4096 → Fine (book_of xs) L
  unfolding chains_of
  fine_book {S} {E} A {L} e few =
      let B = book_of xs in
      let N = places-number (delta B) (outs B) (delta_names B) 1024 L e in
      let lim = limits xs S E A in
      let most = lim.1 in
      record {
        numbers = N.0;
        low = places_low (delta B) (outs B) (delta_names B) 1024 L e;
        few_places = N.1;
        few_edges = few;
        up = λ q a p g. (targets_up xs S E A q a p g).0;
        under = λ q a p g. let u = (targets_up xs S E A q a p g).1 in omega arith;
        start = start_unmarked xs S E A;
        rise = events_rise xs S E A;
      }

  -- ---- AN ACCEPTED ANSWER
  pub compiled : (room l q t z : ℕ) → compile_answer xs room ≡ accepted l q t z
      → (L : List Chain) × Compiles (book_of xs) L room l q t
  compiled room l q t z e = go (chains_of (book_of xs)) refl
    where
      b : (S : ℕ) × (E : ℕ) × (check_book xs ≡ accepted S E 0 0) × (made_of (book_of xs) room (chains_of (book_of xs)) ≡ accepted l q t z)
      b = book_first room l q t z e

      go : (o : Option (List Chain)) → chains_of (book_of xs) ≡ o → (L : List Chain) × Compiles (book_of xs) L room l q t
      go None f = refused_accepted {n = 14} {p = 0} (sym (rw f) ∙ b.3)
      go (Some L) f = (L, made_some (book_of xs) L room l q t z f (fine_book b.2 f) (sym (rw f) ∙ b.3))

  pub compiled_accepted : (room l q t z : ℕ) → compile_answer xs room ≡ accepted l q t z
      → check_image (image_of_book (book_of xs)) ≡ accepted q t 0 0
  compiled_accepted room l q t z e = made_accepted (compiled room l q t z e).1

  pub compiled-length : (room l q t z : ℕ) → compile_answer xs room ≡ accepted l q t z
      → (length (image_of_book (book_of xs)) ≡ l) × (l ≤ 30732)
  compiled-length room l q t z e = made_length (compiled room l q t z e).1

  pub compiled_memory : (l q t z : ℕ) (out : List ℕ) → compile_answer xs (length out) ≡ accepted l q t z
      → compile_memory xs out ≡ sets out 0 (image_of_book (book_of xs))
  unfolding compile_memory
  compiled_memory l q t z out e = rw e

  -- the image is what the memory starts with, and past its end the memory is as it was
  pub compiled_start : (l q t z : ℕ) (out : List ℕ) → compile_answer xs (length out) ≡ accepted l q t z
      → (take l (compile_memory xs out) ≡ image_of_book (book_of xs)) × (drop l (compile_memory xs out) ≡ drop l out)
  compiled_start l q t z out e =
      let C = (compiled (length out) l q t z e).1 in
      let n : length (image_of_book (book_of xs)) ≡ l = (made_length C).0 in
      let fit = C.fits in
      let bs = image_of_book (book_of xs) in
      let k : 0 + length bs ≡ l = omega arith in
      let m : compile_memory xs out ≡ bs ++ drop l out =
      compiled_memory l q t z out e ∙ sets-eq bs out 0 (omega arith) ∙ rw k in
      (rw m (take_at bs (drop l out) l n), rw m (drop_at bs (drop l out) l n))

  -- ---- REFUSED FOR SIZE
  module _ {S E : ℕ} (A : check_book xs ≡ accepted S E 0 0) (room : ℕ) where
    answer_of : (o : Option (List Chain)) → chains_of (book_of xs) ≡ o → compile_answer xs room ≡ made_of (book_of xs) room o
    answer_of o f = answer_fine A room ∙ rw f

    -- more than 1,024 chains are reachable
    pub refused_14 : (compile_answer xs room ≡ refused 14 0) ↔ MoreThan (delta (book_of xs)) 1024
    unfolding chains_of
    refused_14 =
        let B = book_of xs in
        let over = places_over (delta B) (outs B) (delta_names B) 1024 in
        ((λ e. over.0 (none_of (chains_of B) refl e)), λ m. answer_of None (over.1 m))
      where
        none_of : (o : Option (List Chain)) → chains_of (book_of xs) ≡ o → compile_answer xs room ≡ refused 14 0
            → places (delta (book_of xs)) (outs (book_of xs)) 1024 ≡ None
        none_of None f e = f
        none_of (Some L) f e =
            by_made (book_of xs) L room (refused 14 0) (sym (answer_of (Some L) f) ∙ e)
            (λ h g. numbers_differ g (omega arith)) (λ h k g. numbers_differ g (omega arith))
            (λ h k g. refused_accepted (sym g))

    -- with at most 1,024 places: their edges are more than 4,096
    pub refused_15 : (L : List Chain) → chains_of (book_of xs) ≡ Some L
        → (compile_answer xs room ≡ refused 15 0) ↔ (4096 < edge_count (book_of xs) L)
    refused_15 L f = (
      (λ e.
          by_made (book_of xs) L room (refused 15 0) (sym (answer_of (Some L) f) ∙ e)
          (λ h g. h) (λ h k g. numbers_differ g (omega arith)) (λ h k g. refused_accepted (sym g))),
      λ l. answer_of (Some L) f ∙ rw (lt-ltb 4096 (edge_count (book_of xs) L) l),
    )

  book_numbers : {n p : ℕ} → check_book xs ≡ refused n p → n ≤ 13
  unfolding check_book
  book_numbers e =
      let T = trailer_of xs in
      judged-below 13 (trailer_rules (length xs) (letters_right SB xs) T ++ table_rules (table_of xs) T.states T.edges)
      T.states T.edges refl e

  -- with room for the largest image a compile is never refused 16
  pub room_enough : (room p : ℕ) → 30732 ≤ room → compile_answer xs room ≢ refused 16 p
  unfolding compile_answer
  room_enough room p l e = go (check_book xs) refl
    where
      among : (S E : ℕ) → check_book xs ≡ accepted S E 0 0 → (o : Option (List Chain)) → chains_of (book_of xs) ≡ o → ⊥
      among S E A None f = numbers_differ (sym (answer_of A room None f) ∙ e) (omega arith)
      among S E A (Some L) f =
          by_made (book_of xs) L room (refused 16 p) (sym (answer_of A room (Some L) f) ∙ e)
          (λ h g. numbers_differ g (omega arith))
          (λ few short g. let F = fine_book A f few in let q = F.few_places in omega arith)
          (λ h k g. refused_accepted (sym g))

      go : (a : Answer) → check_book xs ≡ a → ⊥
      go (accepted S E c d) f = among S E (accepted_zeros f) (chains_of (book_of xs)) refl
      go (refused n r) f =
          let g : refused n r ≡ refused 16 p = sym (rw f) ∙ e in
          let k = book_numbers f in
          numbers_differ g (omega arith)

-- ---- THE NOTE
module _ (ns xs : List ℕ) {S E : ℕ} (A : check_book xs ≡ accepted S E 0 0) (short : length (ns ++ xs) ≤ most_bytes) where
  pub note_answer : (room : ℕ) → compile_answer (ns ++ xs) room ≡ compile_answer xs room
  unfolding compile_answer
  note_answer room = let n = note_accepted ns xs S E A short in rw (n.0, n.1, A)

  pub note_memory : (out : List ℕ) → compile_memory (ns ++ xs) out ≡ compile_memory xs out
  unfolding compile_memory
  note_memory out = let n = note_accepted ns xs S E A short in rw (note_answer (length out), n.1)
