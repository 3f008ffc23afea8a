-- The edge records of a place are written from those of lower places. `Known`: what the image has for a walk over the
-- places below p; `known_start`, `known_edges`, `known_kept`: it does have it. `Walking`: the walk down the fallbacks,
-- to what an event makes of the rest of a chain. `after_found`, `after-rest`, `after_either`: the place after an event.
-- `edges_some`, `edges_none`, `edges_own`: the edges of a state in the book. `Rowing`: the row of place 0. Assumes
-- nothing.
use mathlib.Core.Path.{◌≡◌, refl, sym, ap, ◌∙◌, subst}
use mathlib.Core.Logic.{◌≢◌}
use mathlib.Core.Bool.{false}
use Rattle.std.specs.Prelude.{Option, None, Some, unwrap_or}
use mathlib.Core.List.Memᴰ
use mathlib.Core.List.{List, [], ◌∷◌}
use Prim.Native.Nat.{ℕ, suc, ◌+◌, ◌*◌, ◌-◌, ◌/◌, ◌≤◌, ◌<◌}
use native.Mathlib.Omega.{arith}
use lib.ListN.{length, get_or, drop, set, replicate, length-set}
use lib.Seq.{sets, length-sets, get_or-set_same, get_or-set_other}
use borrow.Author.Tests.{lt-ltb}
use Rattle.wire.specs.Little.{le16_at}
use Rattle.meaning.specs.Chain.{Chain, live, IsChain, has, put, step, head}
use Rattle.meaning.specs.Places.{number}
use Rattle.meaning.specs.Book.{Book, look, delta, outs, marks}
use Rattle.meaning.specs.Questions.{first_edge}
use Rattle.meaning.proofs.Cases.{by_bool, by_option, by_eq, none_some}
use Rattle.meaning.proofs.Chain.{has-In, chain_is}
use Rattle.meaning.proofs.Places.{number_step, place_reached}
use Rattle.meaning.proofs.Edges.{first_edge-suc, first_edge_mono}
use Rattle.book.specs.Form.{edge_record_at}
use Rattle.book.specs.Model.{edges_from, RiseFrom, table_book, lead_of}
use Rattle.book.specs.declared.EdgeRecord.{EdgeRecord}
use Rattle.book.proofs.Look.{Narrowed, narrowed_end}
use Rattle.book.proofs.Model.{events_at_lem, lead_delta}
use Rattle.book.proofs.Searches.{look_some, look_finds}
use Rattle.image.specs.Form.{form1}
use Rattle.compile.specs.Work.{Rows, chain_of, list_of}
use Rattle.compile.specs.Explore.{whole, rest_after, Ready, IsPlace, Finds, FoundAt, NotFound}
use Rattle.compile.specs.Bytes.{edge_record, spread, place_of, places_below, edges_for, edges_of, edges_below}
use Rattle.compile.specs.Write.{Numbered, EdgesAre, edge_end, Known, Walkable, Starts, RestIs}
use Rattle.compile.proofs.Rows.{length_list, list_at, chain-zero, get_or-zeros}
use Rattle.compile.proofs.Seek.{head_of, rest_start, rest-next, step_of, step_some}
use Rattle.compile.proofs.Leading.{own}
use Rattle.compile.proofs.Written.{sets_below}
use Rattle.compile.proofs.Records.{Owning, Edging, edging_room, length-places, length_edges, edge_bytes, numbers}
use Rattle.compile.proofs.Back.{Stand, first-number, number_back, place_at_lem, edge_at_lem, wrote-stand}

-- ---- bytes that stay
abbrev pub Same : ℕ → List ℕ → List ℕ → Type 0
Same at d d' = (i : ℕ) → i < at → get_or d' i 0 ≡ get_or d i 0

same16 : {at : ℕ} (d d' : List ℕ) → Same at d d' → (i : ℕ) → i + 1 < at → le16_at d' i ≡ le16_at d i
same16 d d' S i l = let a = S i (omega arith) in let b = S (i + 1) l in omega arith

-- while the edge records of a place are written from at on, the bytes below them stay
pub owning_same : {B : Book} {w : Rows} {n p at m : ℕ} {d d' : List ℕ} → Owning B w n p d at m d' → Same at d d'
owning_same {B} {w} {n} {p} {at} {m} {d} {d'} O i k =
    sym (sets_below d' (at + 4 * m)
    (spread form1.edge_bytes (edges_for B (list_of w n) (chain_of w p) (drop m (outs B (get_or w.heads p 0))))) i
    (omega arith))
    ∙ ap (λ (z : List ℕ). get_or z i 0) (sym O.so_far)
    ∙ sets_below d at (spread form1.edge_bytes (edges_of B (list_of w n) p)) i k

-- ---- what the image has
module _ {B : Book} {w : Rows} {n : ℕ} (N : Numbered B w n) where
  abbrev L : List Chain
  L = list_of w n

  abbrev firsts : ℕ → ℕ
  firsts = first_edge (delta B) (outs B) (marks B) L

  abbrev events : ℕ → List ℕ
  events g = outs B (get_or w.heads g 0)

  few_firsts : (g : ℕ) → g ≤ n → firsts g ≤ 4096
  few_firsts g l =
      let all = N.few_edges in
      let up = first_edge_mono (delta B) (outs B) (marks B) L g n l in
      omega arith

  -- the edges of a place come before those of higher places
  own_below : (g p i : ℕ) → g < p → p ≤ n → i < length (events g) → firsts g + i + 1 ≤ firsts p
  own_below g p i l m k =
      let c = list_at w n g (omega arith) in
      let h = head_of w n N.held g in
      let x : i < length (outs B (head (get_or L g []))) = rw (c, h) k in
      let s = first_edge-suc (delta B) (outs B) (marks B) L g in
      let up = first_edge_mono (delta B) (outs B) (marks B) L (suc g) p (omega arith) in
      omega arith

  -- no place has more edges than the image; h is what was read: the head of g
  pub own_few : {g h i a : ℕ} → g < n → h ≡ get_or w.heads g 0 → (i < length (outs B h)) × (get_or (outs B h) i 0 ≡ a)
      → i < 65536
  own_few {g} {i = i} l e k =
      let s : i < length (events g) = rw (← e) k.0 in
      let b = own_below g n i l (omega arith) s in
      let few = few_firsts n (omega arith) in
      omega arith

  pub known_start : (d : List ℕ) {d' : List ℕ} {t : ℕ} → EdgesAre B w n t → 14 * n + 4 * t ≤ length d
      → d' ≡ sets d 0 (spread form1.place_bytes (places_below B L n)) → Known B w n 0 d'
  unfolding place_of
  known_start d {d'} e room W =
      let len = length-places B L n in
      record {
        first = λ g l.
            let few = few_firsts g (omega arith) in
            first-number
            (subst (λ z. Stand d' (14 * g) 14 (form1.place_bytes z)) (place_at_lem B L n g (place_of B L g) l)
            (wrote-stand form1.place_bytes 14 (λ r. refl) (places_below B L n) (place_of B L g) d 0 W (omega arith) g
            (14 * g) (omega arith) (omega arith)))
            (firsts g) (omega arith) refl refl (omega arith);
        target = λ g i l. absurd (let z : ⊥ = omega arith in z);
      }

  -- room for the image, once the place records are written
  pub room_left : (d : List ℕ) {d' : List ℕ} {t : ℕ} → EdgesAre B w n t → 14 * n + 4 * t ≤ length d
      → d' ≡ sets d 0 (spread form1.place_bytes (places_below B L n)) → edge_end B w n n ≤ length d'
  room_left d e room W =
      let l = ap length W ∙ length-sets d 0 (spread form1.place_bytes (places_below B L n)) in omega arith

  pub known_kept : {p at : ℕ} {d d' : List ℕ} → Known B w n p d → p ≤ n → edge_end B w n p ≤ at → Same at d d'
      → Known B w n p d'
  known_kept {p} {at} {d} {d'} K m e S =
      record {
        first = λ g l. same16 d d' S (14 * g) (omega arith) ∙ K.first g l;
        target = λ g i l k.
            let b = own_below g p i l m k in
            same16 d d' S (edge_end B w n g + 4 * i + 2) (omega arith) ∙ K.target g i l k;
      }

  pub known_edges : {p r : ℕ} {d d' : List ℕ} → Known B w n 0 d → Edging B w n d p r d' → p ≤ n
      → edge_end B w n n ≤ length d → Known B w n p d'
  known_edges {p} {r = r₀} {d} {d'} K E m room =
      let es = spread form1.edge_bytes (edges_below B L p) in
      let S : Same (14 * n) d d' =
      λ i l. ap (λ (z : List ℕ). get_or z i 0) E.so_far.is ∙ sets_below d (14 * n) es i l in
      record {
        first = λ g l. same16 d d' S (14 * g) (omega arith) ∙ K.first g l;
        target = λ g i l k.
            let b = own_below g p i l m k in
            let up = first_edge_mono (delta B) (outs B) (marks B) L p n m in
            let len = length_edges B L p in
            let c = list_at w n g (omega arith) in
            let h = head_of w n N.held g in
            let x : i < length (outs B (head (get_or L g []))) = rw (c, h) k in
            let a = get_or (events g) i 0 in
            let r = edge_record a (number L (step (delta B) (chain_of w g) a)) in
            let is : get_or (edges_below B L p) (firsts g + i) r ≡ r = edge_at_lem B L p g i r l x ∙ rw (c, h) in
            let few = N.held.few in
            let len-list = length_list w n in
            let low : number L (step (delta B) (chain_of w g) a) < length L =
            subst (λ (y : Chain). number L (step (delta B) y a) < length L) c
            (number_step (delta B) L (numbers N) g a (omega arith)).0 in
            number_back
            (subst (λ z. Stand d' (edge_end B w n g + 4 * i) 4 (form1.edge_bytes z)) is
            (wrote-stand form1.edge_bytes 4 (λ y. refl) (edges_below B L p) r d (14 * n) E.so_far.is (omega arith) (firsts g + i)
            (edge_end B w n g + 4 * i) (omega arith) (omega arith)))
            2 (number L (step (delta B) (chain_of w g) a)) (omega arith) refl refl (omega arith);
      }

  -- what the writing of the edge records of the place p asks, when those of the places below p are written
  pub own_asks : {p r : ℕ} {row d d' : List ℕ} → Known B w n 0 d → edge_end B w n n ≤ length d → Edging B w n d p r d'
      → p < n → (0 < p → Starts B w n row)
      → Walkable B w n p row d' × (edge_end B w n p ≤ r) × (r + 4 * length (outs B (get_or w.heads p 0)) ≤ 30720)
  own_asks {p} K room E l S =
      let a = E.so_far.next in
      let b = edge_bytes B L p in
      (record { below = l; known = known_edges K E (omega arith) room; starts = S }, omega arith, edging_room N E l)

  -- edge i of the place g leads to the place that is read
  known_place : {p g i a r : ℕ} {d : List ℕ} → Known B w n p d → p ≤ n → g < p → i < length (events g)
      → get_or (events g) i 0 ≡ a → r ≡ le16_at d (14 * n + 4 * (le16_at d (14 * g) + i) + 2)
      → (r < n) × (chain_of w r ≡ step (delta B) (chain_of w g) a)
  known_place {p} {g} {i} {a} {r} {d} K m l k e f =
      let first = K.first g (omega arith) in
      let at : 14 * n + 4 * (le16_at d (14 * g) + i) + 2 ≡ edge_end B w n g + 4 * i + 2 = omega arith in
      let is : r ≡ number L (step (delta B) (get_or L g []) a) =
      f ∙ ap (λ (z : ℕ). le16_at d z) at ∙ K.target g i l k
      ∙ rw (e, list_at w n g (omega arith)) in
      let len = length_list w n in
      let s = number_step (delta B) L (numbers N) g a (omega arith) in
      let low = s.0 in
      let below : r < n = omega arith in (
        below,
        sym (list_at w n r below) ∙ ap (λ (z : ℕ). get_or L z []) is ∙ s.1
            ∙ ap (λ (z : Chain). step (delta B) z a) (list_at w n g (omega arith)),
      )

-- ---- what the event a makes of the rest of the chain of p is what it makes of the chain of g
pub record Walking (B : Book) (w : Rows) (p a g : ℕ) : Type 0 where
  pub low : g < p
  pub same : rest_after (delta B) (chain_of w p) a ≡ step (delta B) (chain_of w g) a

module _ {B : Book} {w : Rows} {n : ℕ} (N : Numbered B w n) {p : ℕ} (a : ℕ) where
  pub rest_none : p ≡ 0 → RestIs B w n p a 0
  rest_none z =
      record { below = N.held.some_place; is = chain-zero w ∙ sym (rest_start w (delta B) a p z) }

  pub walking_start : {f : ℕ} → p ≢ 0 → f ≡ get_or w.fallbacks p 0 → Walking B w p a f
  walking_start {f} z e =
      let d = N.held.fallbacks_down p (omega arith) in
      record { low = omega arith; same = rest-next w N.held.fallbacks_down (delta B) a p f z e }

module _ {B : Book} {w : Rows} {n : ℕ} (N : Numbered B w n) {p a g : ℕ} (F : Walking B w p a g) where
  pub walking_end : {r : ℕ} {row : List ℕ} → g ≡ 0 → (0 < p → Starts B w n row) → a < 256 → r ≡ get_or row a 0
      → RestIs B w n p a r
  walking_end {r} {row} z S l e =
      let k = F.low in
      let s = (S (omega arith)).at a l in
      let b = s.0 in
      record {
        below = omega arith;
        is =
            ap (λ (y : ℕ). chain_of w y) e ∙ s.1
            ∙ sym (F.same ∙ ap (λ (y : Chain). step (delta B) y a) (ap (λ (y : ℕ). chain_of w y) z ∙ chain-zero w));
      }

  module _ {h : ℕ} (eh : h ≡ get_or w.heads g 0) where
    pub walking_on : {f : ℕ} → g ≢ 0 → f ≡ get_or w.fallbacks g 0 → delta B h a ≡ None → Walking B w p a f
    walking_on {f} z e m =
        let l = F.low in
        let d = N.held.fallbacks_down g (omega arith) in
        let m' : delta B (get_or w.heads g 0) a ≡ None = ap (λ (y : ℕ). delta B y a) (sym eh) ∙ m in
        record {
          low = omega arith;
          same =
              F.same ∙ step_of w n N.held (delta B) a g ∙ rw m' (rest-next w N.held.fallbacks_down (delta B) a g f z e);
        }

    pub walking_found : {i r : ℕ} {d : List ℕ} → Known B w n p d → p < n
        → (i < length (outs B h)) × (get_or (outs B h) i 0 ≡ a)
        → r ≡ le16_at d (14 * n + 4 * (le16_at d (14 * g) + i) + 2) → RestIs B w n p a r
    walking_found {i} K m k v =
        let s = subst (λ (y : ℕ). (i < length (outs B y)) × (get_or (outs B y) i 0 ≡ a)) eh k in
        let y = known_place N K (omega arith) F.low s.0 s.1 v in
        record { below = y.0; is = y.1 ∙ sym F.same }

-- ---- the place after the event a, by the edge of the head of p to q
-- a state stands once in the chain of a place
head_once : {B : Book} {w : Rows} {n k q r : ℕ} {c : Chain} → Numbered B w n → k < n → chain_of w k ≡ live q r ∷ c
    → has q c ≡ false
head_once {B} {w} {n} {k} {q} {r} {c} N l e =
    let L = list_of w n in
    let len = length_list w n in
    let t = place_reached (delta B) L (numbers N) k (omega arith) in
    let I =
    subst (λ (z : Chain). IsChain (delta B) t.0 z) (t.1 ∙ list_at w n k l ∙ e) (chain_is (delta B) t.0) in
    by_bool (has q c)
    (λ h. absurd (I.once.0 (has-In q c (I.reaches q r (Memᴰ.head refl)).0 h)))
    (λ h. h)

module _ {B : Book} {w : Rows} {n p a q l r : ℕ} (N : Numbered B w n)
    (e : delta B (get_or w.heads p 0) a ≡ Some q) (R : RestIs B w n p a r) (g : l ≡ get_or w.levels p 0) where
  after-put : step (delta B) (chain_of w p) a ≡ put (Some q) (l + 1) (chain_of w r)
  after-put =
      step_some w n N.held (delta B) a p q e
      ∙ ap (λ (y : ℕ). put (Some q) (y + 1) (rest_after (delta B) (chain_of w p) a)) (sym g)
      ∙ ap (λ (z : Chain). put (Some q) (l + 1) z) (sym R.is)

  pub after_found : {k : ℕ} → FoundAt whole w n q (l + 1) r k → IsPlace whole w n (step (delta B) (chain_of w p) a) k
  after_found D =
      let h = head_once N D.below D.is in record { below = D.below; is = λ i m s. D.is ∙ sym (after-put ∙ rw h) }

  -- what has a place has q in the rest, where no place has q in front of it
  pub after-rest : NotFound whole w n q (l + 1) r → IsPlace whole w n (step (delta B) (chain_of w p) a) r
  after-rest D =
      record {
        below = R.below;
        is = λ i m s.
            by_bool (has q (chain_of w r)) (λ h. sym (after-put ∙ rw h))
            (λ h. absurd (D.no i m (s ∙ after-put ∙ rw h)));
      }

  pub after_either : (o : Option ℕ) → Finds whole w n q (l + 1) r o
      → IsPlace whole w n (step (delta B) (chain_of w p) a) (unwrap_or o r)
  after_either None D = after-rest D
  after_either (Some k) D = after_found D

-- ---- the edges of the state h in the book: m of them, from edge j on
module _ {t : List ℕ} {S : ℕ} {first : List ℕ} (R : Ready t S first) {h m j : ℕ} (low : h < 512)
    (em : m ≡ length (outs (table_book t S) h)) (ej : j ≡ get_or first h 0) where
  pub edges_rise : RiseFrom t S m j
  edges_rise = rw (em, ej) (R.rising h low)

  edges_lead : (a : ℕ) → delta (table_book t S) h a ≡ look (edges_from t S m j) a
  unfolding lead_of
  edges_lead a =
      sym (lead_delta t S R.few R.fits h a) ∙ rw (← R.firsts, lt-ltb h 512 low, ← em, ← ej)

  -- the event of edge i is that of the state's edge i
  edges_event : {a i : ℕ} → i < m → (edge_record_at t S (j + i)).event ≡ a
      → (i < length (outs (table_book t S) h)) × (get_or (outs (table_book t S) h) i 0 ≡ a)
  edges_event {a} {i} l e =
      (omega arith, ap (λ (es : List ℕ). get_or es i 0) (sym (own R h em ej)) ∙ events_at_lem t S m j i l ∙ e)

  pub edges_none : (a low : ℕ) {left : ℕ} → Narrowed t S a j m (j + low) left → left ≡ 0 → delta (table_book t S) h a ≡ None
  edges_none a low N z = edges_lead a ∙ sym (narrowed_end N z)

  pub edges_some : (low : ℕ) {a left f : ℕ} → Narrowed t S a j m (j + low) left → 0 < left
      → f ≡ (edge_record_at t S (j + low + left / 2)).event → f ≡ a
      → (low + left / 2 < length (outs (table_book t S) h)) × (get_or (outs (table_book t S) h) (low + left / 2) 0 ≡ a)
  edges_some low {left = left} N some_left e g =
      let l = N.low in
      let u = N.high in
      let z : j + (low + left / 2) ≡ j + low + left / 2 = omega arith in
      edges_event (omega arith) (rw z (sym e ∙ g))

  -- edge i of them, of which e was read; h is the state g
  module _ {i g : ℕ} {e : EdgeRecord} (eh : h ≡ g) (l : i < m) (is : e ≡ edge_record_at t S (j + i)) where
    pub edges_at : (i < length (outs (table_book t S) g)) × (get_or (outs (table_book t S) g) i 0 ≡ e.event)
    edges_at =
        rw (← eh) (edges_event l (sym (ap (λ (r : EdgeRecord). r.event) is)))

    -- it leads where its record says
    pub edges_own : delta (table_book t S) g e.event ≡ Some e.target
    edges_own =
        let rise = edges_rise in
        ap (λ (y : ℕ). delta (table_book t S) y e.event) (sym eh) ∙ edges_lead e.event
        ∙ rw is (look_finds t S (edge_record_at t S (j + i)).event m j (j + i) (omega arith) (omega arith) refl
        (λ x n v s. let b = rise x (j + i) n v (omega arith) in omega arith))

-- ---- the row of place 0
-- the target of edge k of place 0, as it is written
abbrev pub starting : List ℕ → ℕ → ℕ → ℕ
starting d n k = le16_at d (14 * n + 4 * (le16_at d (14 * 0) + k) + 2)

-- entry a is for the event a. i of the start's edges, from edge j on, are entered with their targets
pub record Rowing (t : List ℕ) (S j : ℕ) (target : ℕ → ℕ) (i : ℕ) (row : List ℕ) : Type 0 where
  pub size : length row ≡ 256
  pub hit : (k : ℕ) → k < i → get_or row (edge_record_at t S (j + k)).event 0 ≡ target k
  pub miss : (a : ℕ) → ((k : ℕ) → k < i → (edge_record_at t S (j + k)).event ≡ a → ⊥) → get_or row a 0 ≡ 0

pub rowing_start : (t : List ℕ) (S j : ℕ) (target : ℕ → ℕ) (row : List ℕ) → row ≡ replicate 256 0
    → Rowing t S j target 0 row
rowing_start t S j target row e =
    record {
      size = ap length e;
      hit = λ k l. absurd (let w : ⊥ = omega arith in w);
      miss = λ a h. ap (λ (z : List ℕ). get_or z a 0) e ∙ get_or-zeros 256 a;
    }

pub rowing_next : {t : List ℕ} {S j i m e v : ℕ} {target : ℕ → ℕ} {row row' : List ℕ} → Rowing t S j target i row
    → RiseFrom t S m j → i < m → e ≡ (edge_record_at t S (j + i)).event → e < 256 → v ≡ target i → row' ≡ set row e v
    → Rowing t S j target (i + 1) row'
rowing_next {t} {S} {j} {i} {m} {e} {v} {target} {row} {row'} R up l ev small f s =
    let n = R.size in
    let at : (a : ℕ) → get_or row' a 0 ≡ get_or (set row e v) a 0 = λ a. ap (λ (z : List ℕ). get_or z a 0) s in
    record {
      size = ap length s ∙ length-set row e v ∙ n;
      hit = λ k b.
          by_eq k i
          (λ z.
          let y : (edge_record_at t S (j + k)).event ≡ e =
          ap (λ (x : ℕ). (edge_record_at t S (j + x)).event) z ∙ sym ev in
          at (edge_record_at t S (j + k)).event ∙ ap (λ (x : ℕ). get_or (set row e v) x 0) y
          ∙ get_or-set_same row e v 0 (omega arith) ∙ f ∙ ap target (sym z))
          (λ z.
          let u = up (j + k) (j + i) (omega arith) (omega arith) (omega arith) in
          at (edge_record_at t S (j + k)).event
          ∙ get_or-set_other row e (edge_record_at t S (j + k)).event v 0 (omega arith)
          ∙ R.hit k (omega arith));
      miss = λ a h.
          at a ∙ get_or-set_other row e a v 0 (λ z. h i (omega arith) (sym ev ∙ sym z))
          ∙ R.miss a (λ k b. h k (omega arith));
    }

module _ {t : List ℕ} {S : ℕ} {first : List ℕ} (R : Ready t S first) {w : Rows} {n : ℕ}
    (N : Numbered (table_book t S) w n) {m j : ℕ} (em : m ≡ length (outs (table_book t S) 0)) (ej : j ≡ get_or first 0 0)
    {d : List ℕ} (K : Known (table_book t S) w n 1 d) {i : ℕ} {row : List ℕ} (W : Rowing t S j (starting d n) i row)
    (all : m ≤ i) (no_more : i ≤ m) (a : ℕ) where
  abbrev B : Book
  B = table_book t S

  abbrev Entry : Type 0
  Entry = (get_or row a 0 < n) × (chain_of w (get_or row a 0) ≡ step (delta B) [] a)

  row_none : look (edges_from t S m j) a ≡ None → Entry
  row_none e =
      let rise = edges_rise R {h = 0} (omega arith) em ej in
      let led : delta B 0 a ≡ None = edges_lead R {h = 0} (omega arith) em ej a ∙ e in
      let z : get_or row a 0 ≡ 0 =
      W.miss a
      (λ k b c.
      none_some e
      (look_finds t S a m j (j + k) (omega arith) (omega arith) c
      (λ x y s f. let q = rise x (j + k) y s (omega arith) in omega arith))) in
      let some_place = N.held.some_place in
      (omega arith, ap (λ (y : ℕ). chain_of w y) z ∙ chain-zero w ∙ sym (rw led))

  row_some : (q : ℕ) → look (edges_from t S m j) a ≡ Some q → Entry
  row_some q e =
      let x = look_some t S a m j q e in
      let low = x.1 in
      let high = x.2 in
      let k = x.0 - j in
      let is : j + k ≡ x.0 = omega arith in
      let event : (edge_record_at t S (j + k)).event ≡ a = ap (λ (y : ℕ). (edge_record_at t S y).event) is ∙ x.3 in
      let hit = ap (λ (y : ℕ). get_or row y 0) (sym event) ∙ W.hit k (omega arith) in
      let own-edge =
      subst (λ (y : ℕ). (k < length (outs B y)) × (get_or (outs B y) k 0 ≡ a)) (sym N.held.head-zero)
      (edges_event R {h = 0} (omega arith) em ej (omega arith) event) in
      let y = known_place N K N.held.some_place (omega arith) own-edge.0 own-edge.1 hit in
      (y.0, y.1 ∙ ap (λ (z : Chain). step (delta B) z a) (chain-zero w))

  row_entry : Entry
  row_entry = by_option (look (edges_from t S m j) a) row_none row_some

pub rowing_end : {t : List ℕ} {S : ℕ} {first : List ℕ} → Ready t S first → {w : Rows} {n : ℕ}
    → Numbered (table_book t S) w n → {m j : ℕ} → m ≡ length (outs (table_book t S) 0) → j ≡ get_or first 0 0
    → {d : List ℕ} → Known (table_book t S) w n 1 d → {i : ℕ} {row : List ℕ} → Rowing t S j (starting d n) i row
    → m ≤ i → i ≤ m → Starts (table_book t S) w n row
rowing_end R N em ej K W all no_more = record { at = λ a l. row_entry R N em ej K W all no_more a }
