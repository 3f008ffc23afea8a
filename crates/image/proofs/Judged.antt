-- A call that checks the image first: what is refused, and what is asked of an accepted image.
--   judged_refused, judged_accepted     the rules refuse, or let pass, whatever is judged after them
--   first_refused, first_accepted       the same of an image's rules
--   told_err                            what is refused again
--   held                                an accepted image, as the private functions require it
-- Assumes nothing.
use mathlib.Core.Path.{◌≡◌, refl, sym, ap, ◌∙◌}
use mathlib.Core.List.{List, [], ◌∷◌}
use Prim.Native.Nat.{ℕ}
use Rattle.std.specs.Prelude.{Result, Ok, Err, IsErrAnd}
use Rattle.meaning.specs.Answer.{Answer, accepted, refused, Rule, judged}
use Rattle.meaning.specs.Refusal.{refusing, told}
use Rattle.meaning.specs.declared.Refusal.{Refusal}
use Rattle.meaning.proofs.Cases.{by_option}
use Rattle.meaning.proofs.Refused.{refused_accepted}
use Rattle.image.specs.Form.{form1}
use Rattle.image.specs.Rules.{image_rules, check_image}
use Rattle.image.specs.Calls.{checked_first}
use Rattle.image.specs.Held.{Accepted, edges_of}
use Rattle.image.proofs.Verdict.{check_passed}
use Rattle.image.proofs.Accepted.{facts}

pub judged_refused : (rs : List Rule) (a b c d n p : ℕ) (y : Answer) → judged rs (accepted a b c d) ≡ refused n p
    → judged rs y ≡ refused n p
judged_refused [] a b c d n p y e = refused_accepted (sym e)
judged_refused (r ∷ rs) a b c d n p y e =
    by_option r.fault (λ f. rw f (judged_refused rs a b c d n p y (rw f at e))) (λ i f. rw f (rw f at e))

pub judged_accepted : (rs : List Rule) (a b c d a' b' c' d' : ℕ) (y : Answer)
    → judged rs (accepted a b c d) ≡ accepted a' b' c' d'
    → judged rs y ≡ y
judged_accepted [] a b c d a' b' c' d' y e = refl
judged_accepted (r ∷ rs) a b c d a' b' c' d' y e =
    by_option r.fault (λ f. rw f (judged_accepted rs a b c d a' b' c' d' y (rw f at e)))
    (λ i f. refused_accepted (rw f at e))

module _ (xs : List ℕ) (ask : ℕ → Answer) where
  pub first_refused : (n p : ℕ) → refused n p ≡ check_image xs → checked_first xs ask ≡ refused n p
  unfolding check_image checked_first
  first_refused n p e = judged_refused (image_rules form1 xs) _ _ _ _ n p _ (sym e)

  pub first_accepted : (q t : ℕ) → accepted q t 0 0 ≡ check_image xs → checked_first xs ask ≡ ask q
  unfolding check_image checked_first
  first_accepted q t e =
      judged_accepted (image_rules form1 xs) _ _ _ _ q t 0 0 _ (sym e)
      ∙ ap ask (sym (check_passed xs q t 0 0 (sym e)).place_count)

-- what is refused again, as a `?` does
pub told_err : {A : Type 0} (f : A → Answer) (r : Result A Refusal) (e : Refusal) (a : Answer) → IsErrAnd r (λ d. d ≡ e)
    → refusing e ≡ a → told f r ≡ a
told_err f (Ok x) e a h g = absurd h
told_err f (Err d) e a h g = ap refusing h ∙ g

-- what the private functions require
pub held : (xs : List ℕ) (q t : ℕ) → accepted q t 0 0 ≡ check_image xs → Accepted xs q
held xs q t e =
    let m : t ≡ edges_of xs = (check_passed xs q t 0 0 (sym e)).edge_count in
    let F = facts xs q t 0 0 (sym e) in
    record {
      size = rw (← m) F.size;
      some_place = F.some_place;
      few_places = F.few_places;
      few_edges = rw (← m) F.few_edges;
      is = rw (← m) (sym e);
    }
