-- Events that lead alike: where every state of a chain, and the start, leads to the same state by both, or to none, the
-- chain after the one is the chain after the other. `Walking` holds while the fallbacks of a place are walked down;
-- `alike_met`: the chain after the event of edge j was met by an edge before it; `Passed`, the chains after the events of
-- the edges before edge j are met, for the loop over the edges. Assumes nothing.
use mathlib.Core.Path.{◌≡◌, refl, sym, ap, ◌∙◌, subst}
use mathlib.Core.Logic.{◌≢◌}
use mathlib.Core.Bool.{true}
use Rattle.std.specs.Prelude.{Option, None, Some}
use Rattle.std.specs.Option.{option_eq}
use mathlib.Core.List.{List, ◌∷◌}
use Prim.Native.Nat.{ℕ, ◌+◌, ◌≤◌, ◌<◌}
use native.Mathlib.Omega.{arith}
use lib.ListN.{length, get_or}
use lib.Dec.{eqb}
use borrow.Author.Tests.{eqb-true}
use Rattle.meaning.specs.Text.{Delta}
use Rattle.meaning.specs.Chain.{Chain, step, head}
use Rattle.meaning.specs.Places.{meet}
use Rattle.meaning.specs.Book.{delta, outs}
use Rattle.meaning.proofs.Cases.{by_eq, true_false}
use Rattle.book.specs.Form.{edge_record_at}
use Rattle.book.specs.Model.{table_book}
use Rattle.book.specs.declared.EdgeRecord.{EdgeRecord}
use Rattle.compile.specs.Work.{Rows, chain_of, list_of, Held}
use Rattle.compile.specs.Explore.{rest_after, HasPlace, RestMet, RestAlike, EdgeAlike, Listed}
use Rattle.compile.specs.Explore.{Alike}
use Rattle.compile.proofs.Seek.{step-put, rest_start, rest-next, head_of}
use Rattle.compile.proofs.Meet.{listed_same}
use Rattle.compile.proofs.Opening.{Meeting, meeting_rest, place_kept, place_met}
use Rattle.compile.proofs.Leading.{Stands, own_target}

option_same : (o o' : Option ℕ) → option_eq eqb o o' ≡ true → o ≡ o'
option_same None None e = refl
option_same None (Some q) e = true_false e refl
option_same (Some q) None e = true_false e refl
option_same (Some q) (Some r) e = ap {B = Option ℕ} Some (eqb-true q r e)

-- o and o' are what was read of both
pub led_same : {o o' x x' : Option ℕ} → o ≡ x → o' ≡ x' → option_eq eqb o o' ≡ true → x ≡ x'
led_same {o} {o'} e e' t = sym e ∙ option_same o o' t ∙ e'

step_alike : (δ : Delta) (c : Chain) (a b : ℕ) → δ (head c) a ≡ δ (head c) b → rest_after δ c a ≡ rest_after δ c b
    → step δ c a ≡ step δ c b
step_alike δ c a b e f = step-put δ c a ∙ rw (e, f) (sym (step-put δ c b))

-- the walk down stands at the place f: above it the events lead alike
pub record Walking (δ : Delta) (w : Rows) (p a b f : ℕ) : Type 0 where
  pub low : f < 1024
  pub owed : RestAlike δ w f a b → RestAlike δ w p a b

module _ {w : Rows} {n : ℕ} (H : Held w n) where
  pub walking_start : (δ : Delta) (a b : ℕ) {p : ℕ} → p < 1024 → Walking δ w p a b p
  walking_start δ a b l = record { low = l; owed = λ s. s }

  module _ {δ : Delta} {p a b f : ℕ} (W : Walking δ w p a b f) where
    -- h is what was read: the head of the fallback g
    pub walking_next : {g h : ℕ} → f ≢ 0 → g ≡ get_or w.fallbacks f 0 → h ≡ get_or w.heads g 0 → δ h a ≡ δ h b
        → Walking δ w p a b g
    walking_next {g} z e eh same =
        let l = W.low in
        let k = H.fallbacks_down f (omega arith) in
        let at : δ (head (chain_of w g)) a ≡ δ (head (chain_of w g)) b = rw (head_of w n H g, ← eh) same in
        record {
          low = omega arith;
          owed = λ s.
              W.owed
              (rest-next w H.fallbacks_down δ a f g z e ∙ step_alike δ (chain_of w g) a b at s
              ∙ sym (rest-next w H.fallbacks_down δ b f g z e));
        }

    pub walking_end : f ≡ 0 → RestAlike δ w p a b
    walking_end z = W.owed (rest_start w δ a f z ∙ sym (rest_start w δ b f z))

-- u and b are what was read of edge k: its target and its event
pub edge_is : {t : List ℕ} {S : ℕ} {w : Rows} {p a q k u b : ℕ} → u ≡ (edge_record_at t S k).target → u ≡ q
    → b ≡ (edge_record_at t S k).event → RestAlike (delta (table_book t S)) w p b a
    → EdgeAlike t S w p a q k
edge_is {t} {S} {w} {p} {a} e g h A =
    record {
      same_target = sym e ∙ g;
      same_rest = subst (λ (z : ℕ). RestAlike (delta (table_book t S)) w p z a) h A;
    }

-- edge j is one of the head's of the place p, whose edges before it, from f on, are met
pub record NextEdge (table : List ℕ) (states : ℕ) (first : List ℕ) (w : Rows) (n p f j : ℕ) : Type 0 where
  pub first_is : f ≡ get_or first (get_or w.heads p 0) 0
  pub after_first : f ≤ j
  pub own : j < f + length (outs (table_book table states) (get_or w.heads p 0))
  pub rest-met : RestMet (table_book table states) w n p (edge_record_at table states j).event
  pub met : (k : ℕ) → f ≤ k → k < j
      → HasPlace w n (step (delta (table_book table states)) (chain_of w p) (edge_record_at table states k).event)

module _ {t : List ℕ} {S : ℕ} {first newest earlier : List ℕ} {w : Rows} {n p : ℕ}
    (X : Stands t S first newest earlier w n p) where
  module _ {f j : ℕ} (N : NextEdge t S first w n p f j) where
    edge_target : (k : ℕ) → f ≤ k → k ≤ j
        → delta (table_book t S) (get_or w.heads p 0) (edge_record_at t S k).event ≡ Some (edge_record_at t S k).target
    edge_target k l m =
        let e = N.first_is in
        let o = N.own in
        own_target X.ready (get_or w.heads p 0) k (X.fit.held.small p) (omega arith) (omega arith)

    -- of the edge that was read, e: its target, and what its event makes of the rest and of the whole chain
    pub read_target : {e : EdgeRecord} → e ≡ edge_record_at t S j
        → delta (table_book t S) (get_or w.heads p 0) e.event ≡ Some e.target
    read_target g = rw g (edge_target j N.after_first (omega arith))

    pub read-rest : {e : EdgeRecord} → e ≡ edge_record_at t S j → RestMet (table_book t S) w n p e.event
    read-rest g = subst (λ (x : EdgeRecord). RestMet (table_book t S) w n p x.event) (sym g) N.rest-met

    -- an edge before it leads alike
    pub alike_met : {e : EdgeRecord} → e ≡ edge_record_at t S j
        → Alike t S w p e.event e.target f j
        → Listed w n (meet (step (delta (table_book t S)) (chain_of w p) e.event) (list_of w n))
    alike_met {e} g A =
        let δ = delta (table_book t S) in
        let c = chain_of w p in
        let k = A.0 in
        let low = A.1 in
        let high = A.2 in
        let b = (edge_record_at t S k).event in
        let d = (edge_record_at t S j).event in
        let m = N.met k low high in
        let hd = head_of w n X.fit.held p in
        let to : (edge_record_at t S k).target ≡ (edge_record_at t S j).target =
        A.3.same_target ∙ ap (λ (x : EdgeRecord). x.target) g in
        let same : δ (head c) b ≡ δ (head c) d =
        rw hd (edge_target k low (omega arith) ∙ ap {B = Option ℕ} Some to ∙ sym (edge_target j N.after_first (omega arith))) in
        let under : rest_after δ c b ≡ rest_after δ c d =
        A.3.same_rest ∙ ap (λ (x : EdgeRecord). rest_after δ c x.event) g in
        subst (λ (x : EdgeRecord). Listed w n (meet (step δ c x.event) (list_of w n))) (sym g)
        (listed_same w n (step δ c d) m.0 m.1 (m.2 ∙ step_alike δ c b d same under))

-- the chain c after the events of the edges from edge f on, below edge j, is met
pub record Passed (t : List ℕ) (S : ℕ) (c : Chain) (f j : ℕ) (w : Rows) (n : ℕ) : Type 0 where
  pub met : (k : ℕ) → f ≤ k → k < j → HasPlace w n (step (delta (table_book t S)) c (edge_record_at t S k).event)

pub passed_start : {t : List ℕ} {S : ℕ} {c : Chain} {f : ℕ} {w : Rows} {n : ℕ} → Passed t S c f f w n
passed_start = record { met = λ k l m. absurd (let z : ⊥ = omega arith in z) }

-- while the place p is opened
module _ {t : List ℕ} {S p : ℕ} {c : Chain} {M : List Chain} {es : List ℕ} {w : Rows} {n : ℕ}
    (O : Meeting (table_book t S) p c M es w n) {f j : ℕ} (P : Passed t S c f j w n) where
  -- h is the head that was read at first, m the number of its edges and f the first of them
  pub next_edge : {first newest₀ earlier₀ : List ℕ} {w₀ : Rows} {n₀ : ℕ} → Stands t S first newest₀ earlier₀ w₀ n₀ p
      → Held w n → chain_of w₀ p ≡ c → {h m : ℕ} → h ≡ get_or w₀.heads p 0 → m ≡ length (outs (table_book t S) h)
      → f ≡ get_or first h 0 → f ≤ j → j < f + m → NextEdge t S first w n p f j
  next_edge {first} {w₀ = w₀} {n₀ = n₀} X H e {h} eh em ef low high =
      let B = table_book t S in
      let same : h ≡ get_or w.heads p 0 =
      eh ∙ sym (head_of w₀ n₀ X.fit.held p) ∙ ap head (e ∙ sym O.of_p) ∙ head_of w n H p in
      let count = em ∙ ap (λ (z : ℕ). length (outs B z)) same in
      record {
        first_is = ef ∙ ap (λ (z : ℕ). get_or first z 0) same;
        after_first = low;
        own = omega arith;
        rest-met = meeting_rest O (edge_record_at t S j).event;
        met = λ k l u.
            subst (λ (z : Chain). HasPlace w n (step (delta B) z (edge_record_at t S k).event)) (sym O.of_p) (P.met k l u);
      }

  -- e is the edge that was read
  pub passed-next : {e : EdgeRecord} {fs : List ℕ} → e ≡ edge_record_at t S j → es ≡ e.event ∷ fs → {w' : Rows} {n' : ℕ}
      → Listed w' n' (meet (step (delta (table_book t S)) (chain_of w p) e.event) (list_of w n))
      → Passed t S c f (j + 1) w' n'
  passed-next {e} g first {w'} {n'} G =
      let met : HasPlace w' n' (step (delta (table_book t S)) c (edge_record_at t S j).event) =
      subst (λ (x : EdgeRecord). HasPlace w' n' (step (delta (table_book t S)) c x.event)) g (place_met O first G) in
      record {
        met = λ k l u.
            by_eq k j
            (λ z.
            subst (λ (i : ℕ). HasPlace w' n' (step (delta (table_book t S)) c (edge_record_at t S i).event)) (sym z) met)
            (λ z. place_kept O first G (P.met k l (omega arith)));
      }
