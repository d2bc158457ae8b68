-- A loop that lowers some of the steps in each turn: what is left, lowered from here, is all of it from the start.
use mathlib.Core.Path.{◌≡◌, sym, ap, ◌∙◌}
use mathlib.Core.List.{List, [], ◌++◌}
use Rattle.lowering.specs.Steps.{Step}
use Rattle.asm.specs.declared.Asm.{Asm}
use Rattle.emission.specs.declared.Gen.{Gen}
use Rattle.stepping.specs.Done.{steps_done}
use Rattle.stepping.proofs.Steps.{steps_append}
use Rattle.lower.specs.Lowers.{generated, Lowers}

module _ (all : List Step) (a : Asm) (q : Gen) where
  abbrev pub Left : List Step → Asm → Gen → Type 0
  Left ss b r = steps_done ss (generated b r) ≡ steps_done all (generated a q)

  pub all_left : {ss : List Step} → ss ≡ all → Left ss a q
  all_left e = ap (λ l. steps_done l (generated a q)) e

  pub same_left : {ss rs : List Step} (b : Asm) (r : Gen) → ss ≡ rs → Left ss b r → Left rs b r
  same_left b r e l = ap (λ s. steps_done s (generated b r)) (sym e) ∙ l

  module _ {ss : List Step} {b : Asm} {r : Gen} where
    pub none_left : ss ≡ [] → Left ss b r → Lowers all a q b r
    unfolding steps_done
    none_left e l = record { done = ap (λ s. steps_done s (generated b r)) (sym e) ∙ l }

    -- xs in this turn
    pub less_left : (xs ys : List Step) → ss ≡ xs ++ ys → Left ss b r → {c : Asm} {u : Gen} → Lowers xs b r c u → Left ys c u
    less_left xs ys e l h =
        ap (steps_done ys) h.done ∙ sym (steps_append xs ys (generated b r)) ∙ ap (λ s. steps_done s (generated b r)) (sym e) ∙ l
