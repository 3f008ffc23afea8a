-- What an answer says keeps its cases apart, so that a contract on what it says leaves one answer. Assumes nothing.
use mathlib.Core.Path.{◌≡◌, sym, ◌∙◌}
use Prim.Native.Nat.{ℕ}
use Rattle.std.specs.Prelude.{Result}
use Rattle.meaning.specs.Answer.{Answer, accepted}
use Rattle.meaning.specs.declared.Refusal.{Refusal}
use Rattle.meaning.proofs.Refused.{told_apart, refused_accepted}
use Rattle.lists.specs.declared.Named.{Named}
use Rattle.lists.specs.Short.{short_told}
use Rattle.lists.specs.Part.{part_told}

pub short_told_apart : (x y : Result ℕ Refusal) → short_told x ≡ short_told y → x ≡ y
short_told_apart = told_apart (λ n. accepted n 0 0 0) (λ n m e. cc) (λ n m p e. refused_accepted e)

pub part_told_apart : (x y : Result Named Refusal) → part_told x ≡ part_told y → x ≡ y
part_told_apart =
    told_apart (λ (n : Named). accepted n.offset n.length 0 0)
    (λ n m e.
    let o : n.offset ≡ m.offset = cc in
    let l : n.length ≡ m.length = cc in
    λ i. record { offset = o i; length = l i })
    (λ n m p e. refused_accepted e)

-- no second answer meets the contract
pub short_told_unique : (x y : Result ℕ Refusal) {a : Answer} → short_told x ≡ a → short_told y ≡ a → x ≡ y
short_told_unique x y e f = short_told_apart x y (e ∙ sym f)

pub part_told_unique : (x y : Result Named Refusal) {a : Answer} → part_told x ≡ a → part_told y ≡ a → x ≡ y
part_told_unique x y e f = part_told_apart x y (e ∙ sym f)
