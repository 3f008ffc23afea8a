-- The image that a compile wrote. From `Compiled xs ys`: image_is (its bytes are those of the book's image), image_chains (the chains
-- that it numbers, and what they obey), image_alike (its questions are those of the book's image), image_count, names_of (a place
-- and its fallbacks name its chain), place_after_lem (the place after a log). Assumes nothing.
use mathlib.Core.Path.{◌≡◌, sym, ap, ◌∙◌, subst}
use mathlib.Core.List.{List, []}
use Prim.Native.Nat.{ℕ, ◌+◌, ◌≤◌, ◌<◌}
use native.Mathlib.Omega.{arith}
use lib.ListN.{length, get_or, take, drop}
use lib.Seq.{sets, sets-eq, take_at}
use Rattle.meaning.specs.Text.{Text, events}
use Rattle.meaning.specs.Chain.{Chain, chain, head}
use Rattle.meaning.specs.Places.{number, Numbers}
use Rattle.meaning.specs.Book.{delta, outs, marks}
use Rattle.meaning.specs.Questions.{Levels, image_of}
use Rattle.meaning.specs.Walk.{Stand, walk}
use Rattle.meaning.proofs.Book.{delta_names, delta_only}
use Rattle.meaning.proofs.Alike.{Alike, named_alike}
use Rattle.meaning.proofs.Image.{image_named}
use Rattle.meaning.proofs.Places.{number-zero, some_place}
use Rattle.meaning.proofs.Text.{events_nil}
use Rattle.meaning.proofs.ImageRun.{image_log}
use Rattle.book.specs.Model.{book_of}
use Rattle.image.specs.Form.{PlaceRecord, form1, form_of, place_at}
use Rattle.image.specs.Questions.{questions}
use Rattle.compile.specs.Bytes.{place_of, image_bytes}
use Rattle.compile.specs.Answer.{image_of_book}
use Rattle.compile.proofs.Shown.{place_shown}
use Rattle.compile.proofs.Theorems.{Compiles, compiled, compiled_memory, made_alike, made_levels, made_length, made_walk}
use Rattle.demands.specs.Words.{Compiled, chain_named}

-- what was written from the start on is read back
pub take-sets : (out bs : List ℕ) (n : ℕ) → length bs ≡ n → n ≤ length out → take n (sets out 0 bs) ≡ bs
take-sets out bs n e l =
    let fits : 0 + length bs ≤ length out = omega arith in
    ap (take n) (sets-eq bs out 0 fits) ∙ take_at bs (drop (0 + length bs) out) n e

module _ {xs ys : List ℕ} (K : Compiled xs ys) where
  its : (L : List Chain) × Compiles (book_of xs) L (length K.out) (length ys) K.places K.edges
  its = compiled xs (length K.out) (length ys) K.places K.edges 0 K.answer

  pub image_chains : List Chain
  image_chains = its.0

  pub compiles : Compiles (book_of xs) image_chains (length K.out) (length ys) K.places K.edges
  unfolding image_chains
  compiles = its.1

  pub image_is : ys ≡ image_of_book (book_of xs)
  image_is =
      let n = length ys in
      sym K.image ∙ ap (take n) (compiled_memory xs n K.places K.edges 0 K.out K.answer)
      ∙ take-sets K.out (image_of_book (book_of xs)) n (made_length compiles).0 compiles.fits

  pub numbers_of : Numbers (delta (book_of xs)) image_chains
  numbers_of = compiles.fine.numbers

  pub image_alike : Alike (questions ys) (image_of (delta (book_of xs)) (outs (book_of xs)) (marks (book_of xs)) image_chains)
  image_alike =
      let M = image_of (delta (book_of xs)) (outs (book_of xs)) (marks (book_of xs)) image_chains in
      subst (λ (zs : List ℕ). Alike (questions zs) M) (sym image_is) (made_alike compiles)

  pub image_levels : Levels (image_of (delta (book_of xs)) (outs (book_of xs)) (marks (book_of xs)) image_chains)
  image_levels = made_levels compiles

  pub image_count : (questions ys).count ≡ length image_chains
  image_count = image_alike.count

  heads_are : (p : ℕ) → p < length image_chains → (place_at (form_of ys) ys p).head ≡ head (get_or image_chains p [])
  unfolding place_of
  heads_are p l =
      let same : ys ≡ image_bytes form1 (book_of xs) image_chains = image_is ∙ rw compiles.chains in
      ap (λ (zs : List ℕ). (place_at form1 zs p).head) same
      ∙ ap (λ (r : PlaceRecord). r.head) (place_shown compiles.fine p l)

  -- A PLACE AND ITS FALLBACKS name its chain
  pub names_of : (p : ℕ) → p < length image_chains → chain_named ys p ≡ get_or image_chains p []
  names_of p l =
      let δ = delta (book_of xs) in
      let es = outs (book_of xs) in
      let M = image_of δ es (marks (book_of xs)) image_chains in
      let hs : ℕ → ℕ = λ q. head (get_or image_chains q []) in
      named_alike image_alike image_levels (λ q. (place_at (form_of ys) ys q).head) hs heads_are p p l
      ∙ image_named δ es (marks (book_of xs)) image_chains (delta_names (book_of xs)) (delta_only (book_of xs)) numbers_of p l

  -- the place after a log read from the start
  pub place_after_lem : (log : List ℕ) → (walk (questions ys) 0 log).place ≡ number image_chains (chain (delta (book_of xs)) (events log))
  place_after_lem log =
      let B = book_of xs in
      let δ = delta B in
      let M = image_of δ (outs B) (marks B) image_chains in
      let zero_is : number image_chains (chain δ (events [])) ≡ 0 =
      ap (λ (t : Text). number image_chains (chain δ t)) events_nil ∙ number-zero δ image_chains numbers_of in
      ap (λ (zs : List ℕ). (walk (questions zs) 0 log).place) image_is
      ∙ ap (λ (s : Stand). s.place) (made_walk compiles 0 log (some_place δ image_chains numbers_of))
      ∙ ap (λ (p : ℕ). (walk M p log).place) (sym zero_is)
      ∙ ap (λ (s : Stand). s.place) (image_log δ (outs B) (marks B) image_chains (delta_names B) (delta_only B) numbers_of [] log)
