-- What the book's edges say at a place of the arrays, and the walk down its fallbacks, in one citation each. h, l and
-- f are what was read of the place p: its head, its level and its fallback. Assumes nothing.
use mathlib.Core.Path.{◌≡◌, refl, sym, ap, ◌∙◌}
use mathlib.Core.Logic.{◌≢◌}
use Rattle.std.specs.Prelude.{Option, None, Some, Bool}
use mathlib.Core.List.{List, [], ◌∷◌}
use Prim.Native.Nat.{ℕ, suc, ◌+◌, ◌-◌, ◌≤◌, ◌<◌}
use native.Mathlib.Omega.{arith}
use lib.ListN.{length, get_or}
use borrow.Author.Tests.{lt-ltb}
use Rattle.meaning.specs.Text.{Delta}
use Rattle.meaning.specs.Book.{look, delta, outs}
use Rattle.meaning.specs.Chain.{step, put}
use Rattle.meaning.proofs.Cases.{by_eq, by_option, by_order}
use Rattle.meaning.proofs.Rules.{whole-rule}
use Rattle.book.specs.Form.{most_states, edge_record_at}
use Rattle.book.specs.Model.{edges_from, table_book, lead_of}
use Rattle.book.specs.declared.EdgeRecord.{EdgeRecord}
use Rattle.book.proofs.Model.{events_from, events-step, events_end, outs_in, outs_out, count_in, count_out, first_in_lem}
use Rattle.book.proofs.Model.{lead_delta}
use Rattle.book.proofs.Searches.{look_finds, look_some}
use Rattle.compile.specs.Work.{Rows, chain_of, Held, Fit}
use Rattle.compile.specs.Explore.{whole, Ready, Seen, RestAt, RestMet, Settled, rest_after, LeadsOn, Neither}
use Rattle.compile.specs.declared.explore.Lead.{Lead}
use Rattle.compile.proofs.Seek.{rest_start, rest-next, step_of, rest_end}
use Rattle.compile.proofs.Meet.{rest_seen, edge-met}

lead_is : {t : List ℕ} {S : ℕ} {first : List ℕ} → Ready t S first → (h a : ℕ)
    → lead_of t S first h a ≡ delta (table_book t S) h a
lead_is {t} {S} R h a = rw R.firsts (lead_delta t S R.few R.fits h a)

pub led_is : {t : List ℕ} {S : ℕ} {first : List ℕ} → Ready t S first → (h a : ℕ) {o : Option ℕ}
    → o ≡ lead_of t S first h a → o ≡ delta (table_book t S) h a
led_is R h a e = e ∙ lead_is R h a

-- the events of a state's edges, from its first edge on
pub own : {t : List ℕ} {S : ℕ} {first : List ℕ} → Ready t S first → (h : ℕ) {m j : ℕ} → m ≡ length (outs (table_book t S) h)
    → j ≡ get_or first h 0 → events_from t S m j ≡ outs (table_book t S) h
own {t} {S} {first} R h {m} {j} e g =
    let out : S ≤ h → events_from t S m j ≡ outs (table_book t S) h =
    λ l. events_end t S m j (e ∙ count_out t S h l) ∙ sym (outs_out t S h l) in
    by_order h S
    (λ l.
    let f : j ≡ Rattle.book.specs.Model.first_edge t h = g ∙ rw R.firsts (first_in_lem t S R.few R.fits h l) in
    rw (e, count_in t S h l, f) (sym (outs_in t S h l)))
    (λ l. out (omega arith)) (λ l. out (omega arith))

-- the first of the events that are left, up to edge k
pub event_next : (t : List ℕ) (S k j : ℕ) {e : EdgeRecord} → j < k → e ≡ edge_record_at t S j
    → events_from t S (k - j) j ≡ e.event ∷ events_from t S (k - (j + 1)) (j + 1)
event_next t S k j l g =
    let d : k - (j + 1) ≡ k - j - 1 = omega arith in
    rw (d, g) (events-step t S (k - j) j (omega arith))

-- the edges from edge j on, below edge k, have neither of two events
pub record Without (t : List ℕ) (S j k a b : ℕ) : Type 0 where
  pub first : (i : ℕ) → j ≤ i → i < k → (edge_record_at t S i).event ≡ a → ⊥
  pub second : (i : ℕ) → j ≤ i → i < k → (edge_record_at t S i).event ≡ b → ⊥

pub without_start : (t : List ℕ) (S j a b : ℕ) → Without t S j j a b
without_start t S j a b =
    record { first = λ i l u. absurd (let z : ⊥ = omega arith in z); second = λ i l u. absurd (let z : ⊥ = omega arith in z) }

-- e is the event of edge k, as it was read
pub without_next : {t : List ℕ} {S j k a b e : ℕ} → Without t S j k a b → e ≡ (edge_record_at t S k).event → e ≢ a → e ≢ b
    → Without t S j (k + 1) a b
without_next {t} {S} {j} {k} {a} {b} W g x y =
    let here : (c : ℕ) → ((edge_record_at t S k).event ≡ c → ⊥) → ((i : ℕ) → j ≤ i → i < k → (edge_record_at t S i).event ≡ c → ⊥)
    → (i : ℕ) → j ≤ i → i < k + 1 → (edge_record_at t S i).event ≡ c → ⊥ =
    λ c n old i l u.
    by_eq i k (λ z h. n (ap (λ (m : ℕ). (edge_record_at t S m).event) (sym z) ∙ h)) (λ z. old i l (omega arith)) in
    record { first = here a (λ h. x (g ∙ h)) W.first; second = here b (λ h. y (g ∙ h)) W.second }

no_edge : (t : List ℕ) (S n j a : ℕ) → ((i : ℕ) → j ≤ i → i < j + n → (edge_record_at t S i).event ≡ a → ⊥)
    → look (edges_from t S n j) a ≡ None
no_edge t S n j a h =
    by_option (look (edges_from t S n j) a) (λ e. e)
    (λ q e. let k = look_some t S a n j q e in absurd (h k.0 k.1 k.2 k.3))

pub without_end : {t : List ℕ} {S j k a b : ℕ} → Without t S j k a b → (n : ℕ) → j + n ≤ k → Neither t S n j a b
without_end {t} {S} {j} {a = a} {b = b} W n h =
    (no_edge t S n j a (λ i l u. W.first i l (omega arith)), no_edge t S n j b (λ i l u. W.second i l (omega arith)))

-- a state with neither of two events leads nowhere by both; h is the state, m the number of its edges, j the first
pub neither_leads : {t : List ℕ} {S : ℕ} {first : List ℕ} → Ready t S first → (h a b : ℕ) {m j : ℕ} → h < most_states
    → m ≡ length (outs (table_book t S) h) → j ≡ get_or first h 0 → Neither t S m j a b
    → delta (table_book t S) h a ≡ delta (table_book t S) h b
unfolding lead_of
neither_leads {t} {S} {first} R h a b {m} {j} l em ej N =
    let nowhere : (x : ℕ) → look (edges_from t S m j) x ≡ None → lead_of t S first h x ≡ None =
    λ x e. rw (lt-ltb h most_states l, ← em, ← ej) e in
    sym (lead_is R h a) ∙ nowhere a N.0 ∙ sym (nowhere b N.1) ∙ lead_is R h b

-- an edge of a state is what its event finds: the events rise, so no edge before it has the event
pub own_target : {t : List ℕ} {S : ℕ} {first : List ℕ} → Ready t S first → (h k : ℕ) → h < most_states → get_or first h 0 ≤ k
    → k < get_or first h 0 + length (outs (table_book t S) h)
    → delta (table_book t S) h (edge_record_at t S k).event ≡ Some (edge_record_at t S k).target
unfolding lead_of
own_target {t} {S} {first} R h k l low high =
    let a = (edge_record_at t S k).event in
    let count = length (outs (table_book t S) h) in
    let f = look_finds t S a count (get_or first h 0) k low high refl
    (λ i m v g. let b = R.rising h l i k m v high in omega arith) in
    sym (lead_is R h a) ∙ rw (lt-ltb h most_states l) f

-- the walk down stands at the place f: from the places passed the event leads nowhere
pub record Descending (δ : Delta) (w : Rows) (p a f : ℕ) : Type 0 where
  pub low : f < 1024
  pub most : f ≤ p
  pub same : rest_after δ (chain_of w p) a ≡ rest_after δ (chain_of w f) a

module _ {t : List ℕ} {S : ℕ} {first : List ℕ} {w : Rows} {n p : ℕ} (R : Ready t S first) (H : Held w n) where
  pub descending_start : (a : ℕ) → p < 1024 → Descending (delta (table_book t S)) w p a p
  descending_start a l = record { low = l; most = omega arith; same = refl }

  module _ {a f : ℕ} (W : Descending (delta (table_book t S)) w p a f) where
    pub descending_end : f ≡ 0 → rest_after (delta (table_book t S)) (chain_of w p) a ≡ []
    descending_end z = W.same ∙ rest_start w (delta (table_book t S)) a f z

    -- g and h are what was read: the fallback and its head
    module _ {g h : ℕ} (y : f ≢ 0) (e : g ≡ get_or w.fallbacks f 0) (eh : h ≡ get_or w.heads g 0) where
      below : rest_after (delta (table_book t S)) (chain_of w p) a
          ≡ put (delta (table_book t S) h a) (get_or w.levels g 0 + 1) (rest_after (delta (table_book t S)) (chain_of w g) a)
      below =
          let δ = delta (table_book t S) in
          let s : suc (get_or w.levels g 0) ≡ get_or w.levels g 0 + 1 = omega arith in
          W.same ∙ rest-next w H.fallbacks_down δ a f g y e ∙ step_of w n H δ a g ∙ rw (← eh, s)

      pub descending_next : None ≡ delta (table_book t S) h a → Descending (delta (table_book t S)) w p a g
      descending_next z =
          let d = H.fallbacks_down f (omega arith) in
          let l = W.low in
          let m = W.most in
          record { low = omega arith; most = omega arith; same = below ∙ rw (← z) }

      pub descending_found : {q : ℕ} → Some q ≡ delta (table_book t S) h a
          → LeadsOn (delta (table_book t S)) w p a (record { place = g; to = q })
      descending_found {q} z =
          let d = H.fallbacks_down f (omega arith) in
          let m = W.most in
          record { lower = omega arith; small = R.small h a q (sym z); leads = below ∙ rw (← z) }

-- p is one of the n places that the arrays hold for that book
pub record Stands (table : List ℕ) (states : ℕ) (first newest earlier : List ℕ) (w : Rows) (n p : ℕ) : Type 0 where
  pub ready : Ready table states first
  pub fit : Fit newest earlier w n
  pub below : p < n

pub stands : {t : List ℕ} {S : ℕ} {first newest earlier : List ℕ} {w : Rows} {n p : ℕ} → Ready t S first
    → Fit newest earlier w n → p < n → Stands t S first newest earlier w n p
stands R F l = record { ready = R; fit = F; below = l }

module _ {t : List ℕ} {S : ℕ} {first newest earlier : List ℕ} {w : Rows} {n p : ℕ}
    (X : Stands t S first newest earlier w n p) where
  pub level_low : {l : ℕ} → l ≡ get_or w.levels p 0 → l + 1 ≤ n
  level_low e = let l = X.below in let k = X.fit.held.low p in omega arith

  pub head_low : {h : ℕ} → h ≡ get_or w.heads p 0 → h < 512
  head_low e = let k = X.fit.held.small p in omega arith

  pub own-events : {h m j : ℕ} → h ≡ get_or w.heads p 0 → m ≡ length (outs (table_book t S) h) → j ≡ get_or first h 0
      → events_from t S m j ≡ outs (table_book t S) (get_or w.heads p 0)
  own-events {h} eh e g = own X.ready h e g ∙ ap (λ (z : ℕ). outs (table_book t S) z) eh

  -- the rest of the chain
  pub seen_rest : (a f : ℕ) {seen : List Bool} → RestAt (table_book t S) w n p a f seen → RestMet (table_book t S) w n p a
      → Seen seen (chain_of w f)
  seen_rest a f P m = rest_seen w n (table_book t S) p a f P m

  -- the chain after an event of the head
  pub met-edge : (a : ℕ) {f q l : ℕ} {seen : List Bool} → RestAt (table_book t S) w n p a f seen → RestMet (table_book t S) w n p a
      → l ≡ get_or w.levels p 0 → delta (table_book t S) (get_or w.heads p 0) a ≡ Some q
      → step (delta (table_book t S)) (chain_of w p) a ≡ put (Some q) (l + 1) (chain_of w f)
  met-edge a {f} P m i e = edge-met w n (table_book t S) p a f P m X.fit.held i e

  pub rest_none : (a : ℕ) {seen : List Bool} → rest_after (delta (table_book t S)) (chain_of w p) a ≡ [] → Seen seen []
      → RestAt (table_book t S) w n p a 0 seen
  rest_none a {seen} L M =
      let δ = delta (table_book t S) in
      rest_end whole δ (whole-rule δ) newest earlier w n X.fit a p seen L M

  -- of the place below, of which r is the rest's place, l is the level that was read
  pub rest_some : (a : ℕ) {d : Lead} {l r r' : ℕ} {seen seen' : List Bool} → LeadsOn (delta (table_book t S)) w p a d
      → l ≡ get_or w.levels d.place 0 → RestAt (table_book t S) w n d.place a r seen
      → Settled whole w n d.to (l + 1) r seen r' seen' → RestAt (table_book t S) w n p a r' seen'
  rest_some a {d} L e P D =
      rw (L.leads, ← e) (D.on (rest_after (delta (table_book t S)) (chain_of w d.place) a) P)
