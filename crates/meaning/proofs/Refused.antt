-- What a call that can be refused gives back is kept apart by the numbers of the answer: `told_apart`, of what a call gives that is
-- not refused, where its numbers keep it apart. The number of a reason keeps it apart from the others: `number_apart`. An
-- answer that is accepted is not refused: `refused_accepted`. Assumes nothing.
use mathlib.Core.Path.{◌≡◌, refl, sym, ap, ◌∙◌}
use Prim.Native.Nat.{ℕ, ◌-◌}
use native.Mathlib.Omega.{arith}
use mathlib.Core.List.{List, [], ◌∷◌}
use lib.ListN.{get_or}
use Rattle.std.specs.Prelude.{Ok, Err}
use Rattle.meaning.specs.Answer.{Answer, accepted, refused}
use Rattle.meaning.specs.Refusal.{number, refusing, told}
use Rattle.meaning.specs.declared.Reason.{Reason}
use Rattle.meaning.specs.declared.Reason.TheVariants.{Short, Long, Letters, Form, Counts, Distance, Spare, Sum, Order, Target}
use Rattle.meaning.specs.declared.Reason.TheVariants.{Start, Entry, Exit, Places, Edges, Room, Trailer, PlaceRecord}
use Rattle.meaning.specs.declared.Reason.TheVariants.{EdgeRecord, Place, Base, ListLength, ListRoom, Part, Log}

abbrev pub Apart : {A B : Type 0} → (A → B) → Type 0
Apart {A} f = (x y : A) → f x ≡ f y → x ≡ y

pub refused_accepted : {A : Type 0} {n p a b c d : ℕ} → refused n p ≡ accepted a b c d → A
refused_accepted {n = n} {p = p} {a = a} {b = b} {c = c} {d = d} e =
    let z : ◌≡◌ {A = ℕ} 0 1 = cc in absurd (let w : ⊥ = omega arith in w)

-- in the order of their numbers
abbrev reasons : List Reason
reasons =
    Short ∷ Long ∷ Letters ∷ Form ∷ Counts ∷ Distance ∷ Spare ∷ Sum ∷ Order ∷ Target ∷ Start ∷ Entry ∷ Exit ∷ Places ∷ Edges
    ∷ Room ∷ Trailer ∷ PlaceRecord ∷ EdgeRecord ∷ Place ∷ Base ∷ ListLength ∷ ListRoom ∷ Part ∷ Log ∷ []

abbrev reason : ℕ → Reason
reason n = get_or reasons (n - 1) Short

numbered : (r : Reason) → reason (number r) ≡ r
numbered Short = refl
numbered Long = refl
numbered Letters = refl
numbered Form = refl
numbered Counts = refl
numbered Distance = refl
numbered Spare = refl
numbered Sum = refl
numbered Order = refl
numbered Target = refl
numbered Start = refl
numbered Entry = refl
numbered Exit = refl
numbered Places = refl
numbered Edges = refl
numbered Room = refl
numbered Trailer = refl
numbered PlaceRecord = refl
numbered EdgeRecord = refl
numbered Place = refl
numbered Base = refl
numbered ListLength = refl
numbered ListRoom = refl
numbered Part = refl
numbered Log = refl

pub number_apart : Apart number
number_apart r s e = sym (numbered r) ∙ ap reason e ∙ numbered s

pub refusing_apart : Apart refusing
refusing_apart x y e =
    let n : number x.reason ≡ number y.reason = cc in
    let q : x.place ≡ y.place = cc in
    let r = number_apart x.reason y.reason n in
    λ i. record { reason = r i; place = q i }

module _ {A : Type 0} (f : A → Answer) (apart : Apart f)
    (taken : (x : A) (n p : ℕ) → refused n p ≡ f x → ⊥) where
  pub told_apart : Apart (told f)
  told_apart (Ok x) (Ok y) e = ap Ok (apart x y e)
  told_apart (Ok x) (Err y) e = absurd (taken x _ _ (sym e))
  told_apart (Err x) (Ok y) e = absurd (taken y _ _ e)
  told_apart (Err x) (Err y) e = ap Err (refusing_apart x y e)
