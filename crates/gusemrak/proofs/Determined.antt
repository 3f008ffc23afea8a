-- NO SECOND OUTCOME of the face, proved: `determined`. Every contract is an equation, so two outcomes that meet it are equal (`same`,
-- `same-both`). Assumes nothing.
use mathlib.Core.Path.{◌≡◌, sym, ◌∙◌}
use mathlib.Core.List.{List}
use Prim.Native.Nat.{ℕ}
use Rattle.demands.specs.Determined.{One, OneBoth}
use Rattle.gusemrak.specs.Determined.{OfFace}

same : {A : Type 0} {x : A} → One (λ (r : A). r ≡ x)
same r s e f = e ∙ sym f

same-both : {A : Type 0} {x : A} {y : List ℕ} → OneBoth (λ (r : A) (m : List ℕ). (r ≡ x) × (m ≡ y))
same-both r s m n e f = (e.0 ∙ sym f.0, e.1 ∙ sym f.1)

pub determined : OfFace
determined =
    record {
      check_book_lem = λ xs. same;
      compile = λ xs out. same-both;
      check_image_lem = λ xs. same;
      fallback = λ xs p. same;
      level = λ xs p. same;
      mark = λ xs p. same;
      edge = λ xs p a. same;
      step = λ xs p a. same;
      run = λ xs p base log out. same-both;
      short_list = λ list out. same-both;
      part = λ log base end l. same;
      group = λ event. same;
    }
