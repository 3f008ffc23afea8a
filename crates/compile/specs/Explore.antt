-- What the functions of the exploration ask and answer, in terms of the chains that the work arrays hold.
--   Key, whole          what chains are told apart by: the chain itself, states and reaches both
--   Small               every target is below 512
--   Ready               the state table of an accepted book, with the number of each state's first edge
--   rest_after δ c a    what the event makes of the chain without its head; of the empty chain nothing
--   IsPlace             a place, the one of a chain if the chain has one
--   Seen, IsSeen        the states of a chain are marked; a place, and the states of its chain
--   RestAt              the same of what an event makes of the rest of a place's chain
--   HasPlace, RestMet   a chain has a place; what an event makes of the rest of a place's chain has one
--   LeadsOn, LeadAt     the first place below that an event leads on from
--   Neither             edges with neither of two events
--   RestAlike           two events make the same of the rest of a place's chain
--   EdgeAlike, Alike    an edge leads as another does, from every state of a place's chain; one of the edges from f on does
--   Finds               the place of a chain that is not empty
--   TooMany, Grown      the refusal of more than 1,024 places; the arrays hold a list of chains, or it has more
--   Opened δ out p L    L is the list of the chains when the places below p are opened
--   Explored            what the exploration ensures
use Rattle.std.specs.Prelude.{◌≡◌, List, [], ◌∷◌, ℕ, suc, ◌+◌, ◌≤◌, ◌<◌, length, get_or, Bool, false}
use Rattle.std.specs.Prelude.{Option, None, Some, Result, Ok, Err}
use Rattle.meaning.specs.Text.{Delta}
use Rattle.meaning.specs.Chain.{Chain, live, has, put, step}
use Rattle.meaning.specs.Places.{opened, places}
use Rattle.meaning.specs.Book.{Book, look, delta, outs, marks}
use Rattle.meaning.specs.Questions.{first_edge}
use Rattle.meaning.specs.Answer.{refused}
use Rattle.meaning.specs.Refusal.{refusing}
use Rattle.meaning.specs.declared.Refusal.{Refusal}
use Rattle.book.specs.Form.{most_states, edge_record_at}
use Rattle.book.specs.Model.{edges_from, table_book, firsts_of, Rising}
use Rattle.compile.specs.Work.{Rows, chain_of, list_of}
use Rattle.compile.specs.declared.explore.Lead.{Lead}

abbrev pub Key : Type 0
Key = Chain → Chain

abbrev pub whole : Key
whole c = c

abbrev pub Small : Delta → Type 0
Small δ = (q a t : ℕ) → δ q a ≡ Some t → t < 512

abbrev pub rest_after : Delta → Chain → ℕ → Chain
rest_after δ [] a = []
rest_after δ (x ∷ c) a = step δ c a

pub record Ready (table : List ℕ) (states : ℕ) (first : List ℕ) : Type 0 where
  pub few : states ≤ most_states
  pub fits : Rattle.book.specs.Model.first_edge table states < 65536
  pub firsts : first ≡ firsts_of (table_book table states)
  pub rising : (q : ℕ) → Rising table states first q
  pub small : Small (delta (table_book table states))

-- r is a place below n; and the one of the chain d, if d has one
pub record IsPlace (key : Key) (w : Rows) (n : ℕ) (d : Chain) (r : ℕ) : Type 0 where
  pub below : r < n
  pub is : (i : ℕ) → i < n → key (chain_of w i) ≡ key d → key (chain_of w r) ≡ key d

-- which states the chain has
pub record Seen (seen : List Bool) (c : Chain) : Type 0 where
  pub seen_length : length seen ≡ 512
  pub seen_is : (q : ℕ) → q < 512 → get_or seen q false ≡ has q c

pub record IsSeen (key : Key) (w : Rows) (n : ℕ) (d : Chain) (r : ℕ) (seen : List Bool) : Type 0 where
  pub place : IsPlace key w n d r
  pub states : (i : ℕ) → i < n → key (chain_of w i) ≡ key d → Seen seen d

-- where f is the place of a chain, k is that of the chain with q put in front, unless q stands there already
pub record Settled (key : Key) (w : Rows) (n q r f : ℕ) (seen : List Bool) (k : ℕ) (seen' : List Bool) : Type 0 where
  pub on : (S : Chain) → IsSeen key w n S f seen → IsSeen key w n (put (Some q) r S) k seen'

-- r is the place of what the event makes of the rest of the chain of p
abbrev pub RestAt : Book → Rows → ℕ → ℕ → ℕ → ℕ → List Bool → Type 0
RestAt B w n p a r seen = IsSeen whole w n (rest_after (delta B) (chain_of w p) a) r seen

abbrev pub HasPlace : Rows → ℕ → Chain → Type 0
HasPlace w n d = (i : ℕ) × (i < n) × (chain_of w i ≡ d)

-- what the event makes of the rest of the chain of p has a place
abbrev pub RestMet : Book → Rows → ℕ → ℕ → ℕ → Type 0
RestMet B w n p a = HasPlace w n (rest_after (delta B) (chain_of w p) a)

-- the first place below p in its chain from whose head the event leads on, and the state that it leads to; where there is
-- none the event makes nothing of the rest
pub record LeadsOn (δ : Delta) (w : Rows) (p a : ℕ) (l : Lead) : Type 0 where
  pub lower : l.place < p
  pub small : l.to < 512
  pub leads : rest_after δ (chain_of w p) a
      ≡ put (Some l.to) (get_or w.levels l.place 0 + 1) (rest_after δ (chain_of w l.place) a)

abbrev pub LeadAt : Delta → Rows → ℕ → ℕ → Option Lead → Type 0
LeadAt δ w p a None = rest_after δ (chain_of w p) a ≡ []
LeadAt δ w p a (Some l) = LeadsOn δ w p a l

-- none of n edges from edge j on has one of the events
abbrev pub Neither : List ℕ → ℕ → ℕ → ℕ → ℕ → ℕ → Type 0
Neither t S n j a b = (look (edges_from t S n j) a ≡ None) × (look (edges_from t S n j) b ≡ None)

abbrev pub RestAlike : Delta → Rows → ℕ → ℕ → ℕ → Type 0
RestAlike δ w p a b = rest_after δ (chain_of w p) a ≡ rest_after δ (chain_of w p) b

-- edge k leads to the state q, and its event makes of the rest of the chain of p what the event a makes of it
pub record EdgeAlike (table : List ℕ) (states : ℕ) (w : Rows) (p a q k : ℕ) : Type 0 where
  pub same_target : (edge_record_at table states k).target ≡ q
  pub same_rest : RestAlike (delta (table_book table states)) w p (edge_record_at table states k).event a

abbrev pub Alike : List ℕ → ℕ → Rows → ℕ → ℕ → ℕ → ℕ → ℕ → Type 0
Alike table states w p a q f j = (k : ℕ) × (f ≤ k) × (k < j) × EdgeAlike table states w p a q k

-- the place of the chain of q with the reach r, and then the chain of the place f, if it has one
pub record FoundAt (key : Key) (w : Rows) (n q r f k : ℕ) : Type 0 where
  pub below : k < n
  pub is : key (chain_of w k) ≡ key (live q r ∷ chain_of w f)

pub record NotFound (key : Key) (w : Rows) (n q r f : ℕ) : Type 0 where
  pub no : (i : ℕ) → i < n → key (chain_of w i) ≡ key (live q r ∷ chain_of w f) → ⊥

abbrev pub Finds : Key → Rows → ℕ → ℕ → ℕ → ℕ → Option ℕ → Type 0
Finds key w n q r f None = NotFound key w n q r f
Finds key w n q r f (Some k) = FoundAt key w n q r f k

-- of too many places
abbrev pub TooMany : Refusal → Type 0
TooMany e = refusing e ≡ refused 14 0

-- the n places are the list M; or it has more than there is room for
pub record Listed (w : Rows) (n : ℕ) (M : List Chain) : Type 0 where
  pub is : list_of w n ≡ M

abbrev pub Grown : Rows → ℕ → List Chain → Result Unit Refusal → Type 0
Grown w n M (Ok x) = Listed w n M
Grown w n M (Err e) = (1024 < length M) × TooMany e

pub data Opened (δ : Delta) (out : ℕ → List ℕ) : ℕ → List Chain → Type 0 where
  start : Opened δ out 0 ([] ∷ [])
  next : {p : ℕ} {L : List Chain} → Opened δ out p L → p < length L → Opened δ out (suc p) (opened δ out p L)

-- the n places are those of the book, in their order, with t edges; or it has more than there is room for
pub record AllFound (B : Book) (w : Rows) (n t : ℕ) : Type 0 where
  pub all : places (delta B) (outs B) 1024 ≡ Some (list_of w n)
  pub edges : t ≡ first_edge (delta B) (outs B) (marks B) (list_of w n) n

abbrev pub Explored : Book → Rows → ℕ → Result ℕ Refusal → Type 0
Explored B w n (Ok t) = AllFound B w n t
Explored B w n (Err e) = (places (delta B) (outs B) 1024 ≡ None) × TooMany e
