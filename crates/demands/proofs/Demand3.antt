-- DEMAND 3, proved: `demand3`. Assumes nothing.
use mathlib.Core.Path.{◌≡◌, refl, sym, ap, ◌∙◌, subst}
use Rattle.std.specs.Prelude.{Option, None, Some}
use mathlib.Core.List.{List, []}
use Prim.Native.Nat.{ℕ, ◌<◌}
use native.Mathlib.Omega.{arith}
use lib.ListN.{length, get_or}
use Rattle.meaning.specs.Text.{Text, events}
use Rattle.meaning.specs.Answer.{refused}
use Rattle.meaning.specs.Chain.{Chain, chain, IsChain}
use Rattle.meaning.specs.Places.{number, places}
use Rattle.meaning.specs.Book.{delta, outs}
use Rattle.meaning.proofs.Chain.{chain_is}
use Rattle.meaning.proofs.Text.{events_all}
use Rattle.meaning.proofs.Book.{delta_names}
use Rattle.meaning.proofs.Places.{number-chain, number_is, place_reached, places_over}
use Rattle.book.specs.Model.{book_of}
use Rattle.image.specs.Questions.{questions}
use Rattle.compile.specs.Answer.{chains_of, compile_answer}
use Rattle.compile.proofs.Theorems.{refused_14, refused_15}
use Rattle.demands.specs.Words.{Accepted, Compiled, chain_named}
use Rattle.demands.specs.Demand3.{place_after, InStep, MoreEdges, Sized, Demand3}
use Rattle.demands.proofs.Images.{image_chains, numbers_of, image_count, names_of, place_after_lem}

in_step : (xs ys : List ℕ) → Compiled xs ys → InStep xs ys
in_step xs ys K =
    let δ = delta (book_of xs) in
    let L = image_chains K in
    let N = numbers_of K in
    let below : (p : ℕ) → p < (questions ys).count → p < length L = λ p l. subst (λ (n : ℕ). p < n) (image_count K) l in
    record {
      names = λ log.
          let n = number-chain δ L N (events log) in
          let e : chain_named ys (place_after ys log) ≡ chain δ (events log) =
          ap (chain_named ys) (place_after_lem K log) ∙ names_of K (number L (chain δ (events log))) n.0 ∙ n.1 in
          subst (λ (c : Chain). IsChain δ (events log) c) (sym e) (chain_is δ (events log));
      apart = λ p q l k e.
          N.once p q (below p l) (below q k) (sym (names_of K p (below p l)) ∙ e ∙ names_of K q (below q k));
      reached = λ p l.
          let r = place_reached δ L N p (below p l) in
          let t = r.0 in
          let e : chain δ (events t) ≡ get_or L p [] = ap (λ (u : Text). chain δ u) (events_all t) ∙ r.1 in
          (t, place_after_lem K t ∙ number_is L N.once p (chain δ (events t)) (below p l) (sym e));
    }

-- refused for size exactly where the places or their edges are too many
module _ (xs : List ℕ) (A : Accepted xs) where
  chains_are : chains_of (book_of xs) ≡ places (delta (book_of xs)) (outs (book_of xs)) 1024
  unfolding chains_of
  chains_are = refl

  more_edges : (room : ℕ) → compile_answer xs room ≡ refused 15 0 → (o : Option (List Chain)) → chains_of (book_of xs) ≡ o → MoreEdges xs
  more_edges room e None f =
      let over = (places_over (delta (book_of xs)) (outs (book_of xs)) (delta_names (book_of xs)) 1024).0 (sym chains_are ∙ f) in
      let g : refused 14 0 ≡ refused 15 0 = sym ((refused_14 xs A.2 room).1 over) ∙ e in
      let z : ◌≡◌ {A = ℕ} 14 15 = cc in
      absurd (let w : ⊥ = omega arith in w)
  more_edges room e (Some L) f = (L, sym chains_are ∙ f, (refused_15 xs A.2 room L f).0 e)

  sized : Sized xs
  sized =
      record {
        places = λ room. refused_14 xs A.2 room;
        edges = λ room. (
          (λ e. more_edges room e (chains_of (book_of xs)) refl),
          (λ m. (refused_15 xs A.2 room m.0 (chains_are ∙ m.1)).1 m.2),
        );
      }

pub demand3 : Demand3
demand3 xs A = (sized xs A, λ ys K. in_step xs ys K)
