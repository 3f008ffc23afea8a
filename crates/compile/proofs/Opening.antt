-- The loops of the exploration: over the events of a place, and over the places. `Meeting` holds while the place p is
-- opened, `Exploring` while the places from p on are still to be opened; the rest is one turn of each. Assumes
-- nothing.
use mathlib.Core.Path.{◌≡◌, refl, sym, ap, ◌∙◌, subst}
use Rattle.std.specs.Prelude.{None, Some}
use mathlib.Core.List.{List, [], ◌∷◌, Memᴰ}
use Prim.Native.Nat.{ℕ, zero, suc, ◌+◌, ◌*◌, ◌-◌, ◌≤◌, ◌<◌}
use native.Mathlib.Omega.{arith}
use lib.ListN.{length, get_or, length-append, get_or-append}
use lib.Dec.{ltb}
use borrow.Author.Tests.{lt-ltb, le-ltb}
use Rattle.meaning.specs.Text.{Delta, Marks}
use Rattle.meaning.specs.Chain.{Chain, step, head}
use Rattle.meaning.specs.Places.{met, meet, meet_all, opened, grow, places}
use Rattle.meaning.specs.Book.{Book, delta, outs, marks}
use Rattle.meaning.specs.Questions.{first_edge}
use Rattle.meaning.proofs.Cases.{by_bool}
use Rattle.meaning.proofs.Book.{delta_names}
use Rattle.meaning.proofs.Rest.{under}
use Rattle.meaning.proofs.Keys.{has_get_d}
use Rattle.meaning.proofs.Numbering.{Opening, opening_under, Loop, loop_start, loop_opening}
use Rattle.meaning.proofs.Rules.{whole-rule}
use Rattle.meaning.proofs.Places.{opening_meet, loop_opened}
use Rattle.compile.specs.Work.{Rows, chain_of, list_of, Held}
use Rattle.compile.specs.Explore.{whole, rest_after, HasPlace, RestMet, Listed, Opened, start, next, AllFound}
use Rattle.compile.proofs.Rows.{length_list, list_at, list_one}
use Rattle.compile.proofs.Seek.{head_of}
use Rattle.compile.proofs.Meet.{mem_place}

-- lists only grow, and keep what they have
meet-longer : (d : Chain) (L : List Chain) → length L ≤ length (meet d L)
meet-longer d L =
    by_bool (met d L) (λ e. rw e (omega arith)) (λ e. let k = length-append L (d ∷ []) in rw e (omega arith))

meet_kept : (d : Chain) (L : List Chain) (i : ℕ) → i < length L → get_or (meet d L) i [] ≡ get_or L i []
meet_kept d L i l = by_bool (met d L) (λ e. rw e) (λ e. rw e (get_or-append L (d ∷ []) [] i l))

meet_all-longer : (δ : Delta) (c : Chain) (es : List ℕ) (L : List Chain) → length L ≤ length (meet_all δ c es L)
meet_all-longer δ c [] L = omega arith
meet_all-longer δ c (a ∷ es) L =
    let i = meet_all-longer δ c es (meet (step δ c a) L) in
    let k = meet-longer (step δ c a) L in
    omega arith

meet_all_kept : (δ : Delta) (c : Chain) (es : List ℕ) (L : List Chain) (i : ℕ) → i < length L
    → get_or (meet_all δ c es L) i [] ≡ get_or L i []
meet_all_kept δ c [] L i l = refl
meet_all_kept δ c (a ∷ es) L i l =
    let k = meet-longer (step δ c a) L in
    meet_all_kept δ c es (meet (step δ c a) L) i (omega arith) ∙ meet_kept (step δ c a) L i l

-- one place more of the numbering
module _ (δ : Delta) (out : ℕ → List ℕ) where
  grow_long : (f p : ℕ) (L : List Chain) → p + f < length L → grow δ out f (ltb p (length L)) p L ≡ None
  grow_long zero p L l = rw (lt-ltb p (length L) (omega arith))
  grow_long (suc f) p L l =
      let k = meet_all-longer δ (get_or L p []) (out (head (get_or L p []))) L in
      rw (lt-ltb p (length L) (omega arith)) (grow_long f (suc p) (opened δ out p L) (omega arith))

  grow_end : (f p : ℕ) (L : List Chain) → length L ≤ p → grow δ out f (ltb p (length L)) p L ≡ Some L
  grow_end zero p L l = rw (le-ltb p (length L) l)
  grow_end (suc f) p L l = rw (le-ltb p (length L) l)

  grow-step : (f p : ℕ) (L : List Chain) → 0 < f → p < length L
      → grow δ out f (ltb p (length L)) p L
      ≡ grow δ out (f - 1) (ltb (p + 1) (length (opened δ out p L))) (p + 1) (opened δ out p L)
  grow-step zero p L h l = absurd (let w : ⊥ = omega arith in w)
  grow-step (suc f) p L h l =
      let e : suc f - 1 ≡ f = omega arith in
      let g : p + 1 ≡ suc p = omega arith in
      rw (lt-ltb p (length L) l, e, g)

-- the edges of the lower places are counted alike in lists that agree on them
pub first-same : (δ : Delta) (out : ℕ → List ℕ) (mark : Marks) (L M : List Chain) (p : ℕ)
    → ((i : ℕ) → i < p → get_or L i [] ≡ get_or M i []) → first_edge δ out mark L p ≡ first_edge δ out mark M p
unfolding first_edge
first-same δ out mark L M zero h = refl
first-same δ out mark L M (suc p) h = rw (first-same δ out mark L M p (λ i l. h i (omega arith)), h p (omega arith))

pub first-suc : (δ : Delta) (out : ℕ → List ℕ) (mark : Marks) (L : List Chain) (p : ℕ)
    → first_edge δ out mark L (p + 1) ≡ first_edge δ out mark L p + length (out (head (get_or L p [])))
unfolding first_edge
first-suc δ out mark L p = let e : p + 1 ≡ suc p = omega arith in rw e

pub first-zero : (δ : Delta) (out : ℕ → List ℕ) (mark : Marks) (L : List Chain) → first_edge δ out mark L 0 ≡ 0
unfolding first_edge
first-zero δ out mark L = refl

opened_loop : (B : Book) {p : ℕ} {L : List Chain} → Opened (delta B) (outs B) p L → Loop whole (delta B) p L
opened_loop B start = loop_start whole (delta B)
opened_loop B (next {p} {L} o l) = loop_opened (delta B) (outs B) (delta_names B) p L (opened_loop B o) l

rest_under : (B : Book) (c : Chain) (a : ℕ) → under (delta B) c a ≡ rest_after (delta B) c a
rest_under B [] a = refl
rest_under B (x ∷ c) a = refl

-- the place p, of the chain c, is being opened: the list M will be met, of which these events are left
pub record Meeting (B : Book) (p : ℕ) (c : Chain) (M : List Chain) (es : List ℕ) (w : Rows) (n : ℕ) : Type 0 where
  pub below : p < n
  pub of_p : chain_of w p ≡ c
  pub opening : Opening whole (delta B) c p (list_of w n)
  pub to_meet : M ≡ meet_all (delta B) c es (list_of w n)

pub meeting_start : (B : Book) (p : ℕ) {es : List ℕ} {w : Rows} {n : ℕ} → Held w n → p < n
    → Opened (delta B) (outs B) p (list_of w n) → es ≡ outs B (get_or w.heads p 0)
    → Meeting B p (chain_of w p) (opened (delta B) (outs B) p (list_of w n)) es w n
meeting_start B p {es} {w} {n} H l o e =
    let k = length_list w n in
    let at = list_at w n p l in
    record {
      below = l;
      of_p = refl;
      opening =
          subst (λ (z : Chain). Opening whole (delta B) z p (list_of w n)) at
          (loop_opening whole (delta B) p (list_of w n) (opened_loop B o) (omega arith));
      to_meet = rw (at, head_of w n H p, e);
    }

module _ {B : Book} {p : ℕ} {c : Chain} {M : List Chain} {es : List ℕ} {w : Rows} {n : ℕ} (O : Meeting B p c M es w n) where
  -- what follows in the chain after an event was met before
  pub meeting_rest : (a : ℕ) → RestMet B w n p a
  meeting_rest a =
      let h = has_get_d whole (under (delta B) c a) (list_of w n)
      (opening_under whole (delta B) (whole-rule (delta B)) c p (list_of w n) O.opening a) in
      let k = length_list w n in
      let s = h.1 in
      let l : h.0 < n = omega arith in (
        h.0,
        l,
        sym (list_at w n h.0 l) ∙ h.2 ∙ rest_under B c a
            ∙ ap (λ (z : Chain). rest_after (delta B) z a) (sym O.of_p),
      )

  pub meeting_end : es ≡ [] → Listed w n M
  meeting_end e = record { is = sym (O.to_meet ∙ rw e) }

  module _ {a : ℕ} {fs : List ℕ} (first : es ≡ a ∷ fs) where
    left : M ≡ meet_all (delta B) c fs (meet (step (delta B) c a) (list_of w n))
    left = O.to_meet ∙ rw first

    pub meeting_over : 1024 < length (meet (step (delta B) (chain_of w p) a) (list_of w n)) → 1024 < length M
    meeting_over l =
        let g : 1024 < length (meet (step (delta B) c a) (list_of w n)) =
        subst (λ (z : Chain). 1024 < length (meet (step (delta B) z a) (list_of w n))) O.of_p l in
        let k = meet_all-longer (delta B) c fs (meet (step (delta B) c a) (list_of w n)) in
        let e = ap length left in
        omega arith

    module _ {w' : Rows} {n' : ℕ} (G : Listed w' n' (meet (step (delta B) (chain_of w p) a) (list_of w n))) where
      next_list : list_of w' n' ≡ meet (step (delta B) c a) (list_of w n)
      next_list = G.is ∙ ap (λ (z : Chain). meet (step (delta B) z a) (list_of w n)) O.of_p

      pub meeting_next : Meeting B p c M fs w' n'
      meeting_next =
          let e = next_list in
          let o : Opening whole (delta B) c p (list_of w' n') =
          subst (λ (z : List Chain). Opening whole (delta B) c p z) (sym e)
          (opening_meet (delta B) c p (list_of w n) O.opening a).0 in
          let b = o.here in
          let k = length_list w' n' in
          let q : p < n' = omega arith in
          record {
            below = q;
            of_p = sym (list_at w' n' p q) ∙ o.at;
            opening = o;
            to_meet = left ∙ ap (λ (z : List Chain). meet_all (delta B) c fs z) (sym e);
          }

      -- what had a place keeps it, and the chain that was met has one
      pub place_kept : {d : Chain} → HasPlace w n d → HasPlace w' n' d
      place_kept h =
          let e = next_list in
          let d = step (delta B) c a in
          let k = length_list w n in
          let k' = length_list w' n' in
          let m = meet-longer d (list_of w n) in
          let s = ap length e in
          let b = h.1 in
          let i = h.0 in
          let b' : i < n' = omega arith in (
            i,
            b',
            sym (list_at w' n' i b') ∙ ap (λ (z : List Chain). get_or z i []) e ∙ meet_kept d (list_of w n) i (omega arith)
                ∙ list_at w n i b ∙ h.2,
          )

      pub place_met : HasPlace w' n' (step (delta B) c a)
      place_met =
          mem_place w' n' (step (delta B) c a)
          (subst (λ (z : List Chain). Memᴰ (step (delta B) c a) z) (sym next_list)
          (opening_meet (delta B) c p (list_of w n) O.opening a).2)

-- the places from p on are still to be opened; those below have t edges
pub record Exploring (B : Book) (p t : ℕ) (w : Rows) (n : ℕ) : Type 0 where
  pub most : p ≤ n
  pub opened_is : Opened (delta B) (outs B) p (list_of w n)
  pub to_grow : places (delta B) (outs B) 1024
      ≡ grow (delta B) (outs B) (1024 - p) (ltb p (length (list_of w n))) p (list_of w n)
  pub edges : t ≡ first_edge (delta B) (outs B) (marks B) (list_of w n) p
  pub few : t ≤ 65536 * p

pub exploring_start : (B : Book) {w : Rows} {n : ℕ} → n ≡ 1 → Exploring B 0 0 w n
exploring_start B {w} {n} s =
    let e : list_of w n ≡ [] ∷ [] = rw s (list_one w) in
    record {
      most = omega arith;
      opened_is = subst (λ (z : List Chain). Opened (delta B) (outs B) 0 z) (sym e) start;
      to_grow = rw e;
      edges = sym (first-zero (delta B) (outs B) (marks B) (list_of w n));
      few = omega arith;
    }

module _ {B : Book} {p t : ℕ} {w : Rows} {n : ℕ} (few-places : n ≤ 1024) (E : Exploring B p t w n) where
  pub exploring_end : n ≤ p → AllFound B w n t
  exploring_end l =
      let k = length_list w n in
      let m = E.most in
      let e : p ≡ n = omega arith in
      record {
        all = E.to_grow ∙ grow_end (delta B) (outs B) (1024 - p) p (list_of w n) (omega arith);
        edges = E.edges ∙ ap (λ (i : ℕ). first_edge (delta B) (outs B) (marks B) (list_of w n) i) e;
      }

  module _ (l : p < n) where
    stepped : places (delta B) (outs B) 1024
        ≡ grow (delta B) (outs B) (1024 - p - 1) (ltb (p + 1) (length (opened (delta B) (outs B) p (list_of w n)))) (p + 1)
        (opened (delta B) (outs B) p (list_of w n))
    stepped =
        let k = length_list w n in
        E.to_grow ∙ grow-step (delta B) (outs B) (1024 - p) p (list_of w n) (omega arith) (omega arith)

    pub exploring_over : 1024 < length (opened (delta B) (outs B) p (list_of w n)) → places (delta B) (outs B) 1024 ≡ None
    exploring_over g =
        stepped ∙ grow_long (delta B) (outs B) (1024 - p - 1) (p + 1) (opened (delta B) (outs B) p (list_of w n)) (omega arith)

    -- h and m are what was read of the place p: its head, and the number of its edges
    pub exploring_next : {w' : Rows} {n' : ℕ} → Held w n → {m h : ℕ} → h ≡ get_or w.heads p 0 → m ≡ length (outs B h)
        → m < 65536 → Listed w' n' (opened (delta B) (outs B) p (list_of w n)) → Exploring B (p + 1) (t + m) w' n'
    exploring_next {w'} {n'} H {m} {h} eh em lm G =
        let e : opened (delta B) (outs B) p (list_of w n) ≡ list_of w' n' = sym G.is in
        let k = length_list w n in
        let k' = length_list w' n' in
        let c = get_or (list_of w n) p [] in
        let s : suc p ≡ p + 1 = omega arith in
        let o : Opened (delta B) (outs B) (p + 1) (list_of w' n') =
        subst (λ (z : List Chain). Opened (delta B) (outs B) (p + 1) z) e
        (subst (λ (z : ℕ). Opened (delta B) (outs B) z (opened (delta B) (outs B) p (list_of w n))) s
        (next E.opened_is (omega arith))) in
        let longer = meet_all-longer (delta B) c (outs B (head c)) (list_of w n) in
        let len = ap length e in
        let kept : (i : ℕ) → i < p + 1 → get_or (list_of w n) i [] ≡ get_or (list_of w' n') i [] =
        λ i j.
        sym (meet_all_kept (delta B) c (outs B (head c)) (list_of w n) i (omega arith))
        ∙ ap (λ (z : List Chain). get_or z i []) e in
        let f : 1024 - p - 1 ≡ 1024 - (p + 1) = omega arith in
        let at : head c ≡ h = ap head (list_at w n p l) ∙ head_of w n H p ∙ sym eh in
        let count : length (outs B (head c)) ≡ m = ap (λ (z : ℕ). length (outs B z)) at ∙ sym em in
        let sums : first_edge (delta B) (outs B) (marks B) (list_of w' n') (p + 1) ≡ t + m =
        sym (first-same (delta B) (outs B) (marks B) (list_of w n) (list_of w' n') (p + 1) kept)
        ∙ first-suc (delta B) (outs B) (marks B) (list_of w n) p ∙ rw (count, ← E.edges) in
        record {
          most = omega arith;
          opened_is = o;
          to_grow =
              subst (λ (z : List Chain). places (delta B) (outs B) 1024
              ≡ grow (delta B) (outs B) (1024 - (p + 1)) (ltb (p + 1) (length z)) (p + 1) z) e
              (subst (λ (z : ℕ). places (delta B) (outs B) 1024
              ≡ grow (delta B) (outs B) z (ltb (p + 1) (length (opened (delta B) (outs B) p (list_of w n)))) (p + 1)
              (opened (delta B) (outs B) p (list_of w n))) f stepped);
          edges = sym sums;
          few = let u = E.few in omega arith;
        }
