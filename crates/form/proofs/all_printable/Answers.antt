use Rattle.std.proofs.Common.{◌≡◌, ℕ, Bool, ◌&&◌, List, [], ◌∷◌, ◌++◌, rules, refl, subst, sym, ap, ◌∙◌}
use Rattle.std.specs.List.{list_all}
use Rattle.std.proofs.Math.Bool.{and-true}
use Rattle.std.proofs.lemmas.Fn.{fold_over, slice_gives, fronts}
use Rattle.std.proofs.lemmas.List.Folds.{list_all-append}
use Rattle.form.specs.Forms.{printable}
use Rattle.form.proofs.all_printable.Goals as goal

one_more : (bs : List ℕ) (b : ℕ) (all r : Bool) → all ≡ list_all printable bs → r ≡ (all && printable b) → r ≡ list_all printable (bs ++ b ∷ [])
one_more bs b all r sofar now = now ∙ ap (λ a. a && printable b) sofar ∙ sym (rw (list_all-append printable bs (b ∷ []), and-true))

pub returns : goal.returns
returns c =
    subst (λ bs. c.fold.result ≡ list_all printable bs) c.iter.ensures.rest
    (fold_over fronts (λ b. b.now) _ (λ bs all. all ≡ list_all printable bs) _ (λ bs all b r f' sofar k. (one_more bs b.now all r sofar (search rules), search rules))
    c.iter.result _ _ _ (slice_gives c.iter.result) refl c.fold.ensures.ran)
