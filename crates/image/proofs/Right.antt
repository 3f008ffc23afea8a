-- What a trailer and a record that are right obey.
--   TrailerIn, trailer_in       the counts within the form's limits, and the length
--   PlaceIn, place_in           place 0, and any other
--   EdgeIn, edge_in_lem         an edge record
-- Assumes nothing.
use mathlib.Core.Path.{◌≡◌}
use mathlib.Core.Logic.{◌≢◌}
use mathlib.Core.Bool.{true}
use mathlib.Core.List.{List}
use Prim.Native.Nat.{ℕ, ◌+◌, ◌≤◌, ◌<◌}
use lib.ListN.{length}
use lib.Dec.{eqb, leb, ltb}
use borrow.Author.Tests.{leb-true, ltb-true, eqb-true, eq-eqb, ne_eqb}
use Rattle.meaning.specs.Choice.{when}
use Rattle.meaning.proofs.Cases.{and_true}
use Rattle.image.specs.Form.{PlaceRecord, EdgeRecord, Trailer, Form, size_of, trailer_of, has_letters}
use Rattle.image.specs.Rules.{counts_right, trailer_right, spare_right, link_of, start_right, other_right, place_right}
use Rattle.image.specs.Rules.{edge_right}

pub record TrailerIn (f : Form) (n : ℕ) (t : Trailer) : Type 0 where
  pub long : f.trailer_size ≤ n
  pub some_place : 1 ≤ t.places
  pub few_places : t.places ≤ f.most_places
  pub few_edges : t.edges ≤ f.most_edges
  pub size : n ≡ size_of f t.places t.edges

pub trailer_in : (f : Form) (xs : List ℕ) → trailer_right f xs ≡ true → TrailerIn f (length xs) (trailer_of f xs)
unfolding trailer_right
trailer_in f xs e =
    let t = trailer_of f xs in
    let r = and_true _ (counts_right f (length xs) t) e in
    let long = and_true (leb f.trailer_size (length xs)) (has_letters xs) r.0 in
    let size = and_true _ (eqb (length xs) (size_of f t.places t.edges)) r.1 in
    let distance = and_true _ (eqb t.distance (size_of f t.places t.edges)) size.0 in
    let edges = and_true _ (leb t.edges f.most_edges) distance.0 in
    let places = and_true _ (leb t.places f.most_places) edges.0 in
    let some = and_true (eqb t.form f.number) (leb 1 t.places) places.0 in
    record {
      long = leb-true _ _ long.0;
      some_place = leb-true _ _ some.1;
      few_places = leb-true _ _ places.1;
      few_edges = leb-true _ _ edges.1;
      size = eqb-true _ _ size.1;
    }

-- x is the record of place p, after places with sum edges in all; b is its fallback's record
pub record StartIn (x : PlaceRecord) : Type 0 where
  pub head : x.head ≡ 0
  pub fallback : x.fallback ≡ 0
  pub level : x.level ≡ 0
  pub link : x.link ≡ 0
  pub mark : x.mark ≡ 0

pub record OtherIn (p : ℕ) (x b : PlaceRecord) : Type 0 where
  pub some_head : 1 ≤ x.head
  pub head : x.head ≤ 511
  pub fallback : x.fallback < p
  pub level : b.level < x.level
  pub link : x.link ≡ link_of p x b

pub record PlaceIn (p sum : ℕ) (x b : PlaceRecord) : Type 0 where
  pub first : x.first ≡ sum
  pub start : p ≡ 0 → StartIn x
  pub other : p ≢ 0 → OtherIn p x b

start_in : (x : PlaceRecord) → start_right x ≡ true → StartIn x
unfolding start_right
start_in x e =
    let mark = and_true _ (eqb x.mark 0) e in
    let link = and_true _ (eqb x.link 0) mark.0 in
    let level = and_true _ (eqb x.level 0) link.0 in
    let head = and_true (eqb x.head 0) (eqb x.fallback 0) level.0 in
    record {
      head = eqb-true _ _ head.0;
      fallback = eqb-true _ _ head.1;
      level = eqb-true _ _ level.1;
      link = eqb-true _ _ link.1;
      mark = eqb-true _ _ mark.1;
    }

other_in : (p : ℕ) (x b : PlaceRecord) → other_right p x b ≡ true → OtherIn p x b
unfolding other_right
other_in p x b e =
    let link = and_true _ (eqb x.link (link_of p x b)) e in
    let level = and_true _ (ltb b.level x.level) link.0 in
    let head = and_true _ (leb x.head 511) level.0 in
    let fallback = and_true (ltb x.fallback p) (leb 1 x.head) head.0 in
    record {
      some_head = leb-true _ _ fallback.1;
      head = leb-true _ _ head.1;
      fallback = ltb-true _ _ fallback.0;
      level = ltb-true _ _ level.1;
      link = eqb-true _ _ link.1;
    }

pub place_in : (p sum : ℕ) (x b : PlaceRecord) → place_right p sum x b ≡ true → PlaceIn p sum x b
unfolding place_right
place_in p sum x b e =
    let own = and_true _ (when (eqb p 0) (start_right x) (other_right p x b)) e in
    let first = and_true (eqb x.first sum) (spare_right x.mark x.spare) own.0 in
    record {
      first = eqb-true _ _ first.0;
      start = λ z. start_in x (rw (eq-eqb p 0 z) at own.1);
      other = λ nz. other_in p x b (rw (ne_eqb p 0 nz) at own.1);
    }

pub record EdgeIn (q level floor : ℕ) (e : EdgeRecord) (reached : ℕ) : Type 0 where
  pub rises : floor ≤ e.event
  pub some_target : 1 ≤ e.target
  pub target : e.target < q
  pub reach : reached ≤ level + 1

pub edge_in_lem : (q level floor : ℕ) (e : EdgeRecord) (reached : ℕ) → edge_right q level floor e reached ≡ true
    → EdgeIn q level floor e reached
unfolding edge_right
edge_in_lem q level floor e reached h =
    let reach = and_true _ (leb reached (level + 1)) h in
    let some = and_true _ (leb 1 e.target) reach.0 in
    let rises = and_true _ (leb floor e.event) some.0 in
    let target = and_true (ltb e.target q) (eqb e.spare 0) rises.0 in
    record {
      rises = leb-true _ _ rises.1;
      some_target = leb-true _ _ some.1;
      target = ltb-true _ _ target.0;
      reach = leb-true _ _ reach.1;
    }
