-- The steps of the operations from position i on: those of the operation there, and of the others unless it jumps.
use Rattle.std.proofs.Common.{◌≡◌, ℕ, ◌+◌, ◌<◌, ◌≤◌, Bool, true, false, List, [], ◌∷◌, ◌++◌, length, get_or, drop, sym, ap, ◌∙◌, add-one, arith, drop_of_length-le, drop-cons}
use Rattle.block.specs.declared.BOp.{BOp}
use Rattle.block.specs.Block.{may_jump}
use Rattle.code.specs.Items.{pick}
use Rattle.lowering.specs.Steps.{Step, behind, op_steps, ops_steps}

module _ (os : List BOp) (i pc : ℕ) where
  abbrev pub steps_from : List Step
  steps_from = ops_steps i pc (drop i os)

  -- off the end
  pub at_end : length os ≤ i → i ≤ length os → steps_from ≡ Step.chain pc (length os) ∷ []
  unfolding ops_steps
  at_end l h = let e : i ≡ length os = omega arith in ap (ops_steps i pc) (drop_of_length-le os l) ∙ ap (λ n. Step.chain pc n ∷ []) e

  module _ (d : BOp) (l : i < length os) (m : Bool) (e : m ≡ may_jump (get_or os i d).fast) where
    abbrev o : BOp
    o = get_or os i d

    abbrev others : List Step
    others = ops_steps (i + 1) (behind pc o) (drop (i + 1) os)

    at_i : steps_from ≡ op_steps o i (behind pc o) ++ pick m [] others
    unfolding ops_steps
    at_i =
        ap (ops_steps i pc) (drop-cons os i d l)
        ∙ ap (λ n. op_steps o i (behind pc o) ++ pick (may_jump o.fast) [] (ops_steps (i + 1) (behind pc o) (drop n os))) (sym (add-one i))
        ∙ ap (λ j. op_steps o i (behind pc o) ++ pick j [] others) (sym e)

    pub jumps : m ≡ true → steps_from ≡ op_steps o i (behind pc o) ++ []
    jumps j = at_i ∙ ap (λ b. op_steps o i (behind pc o) ++ pick b [] others) j

    pub goes_on : m ≡ false → steps_from ≡ op_steps o i (behind pc o) ++ others
    goes_on j = at_i ∙ ap (λ b. op_steps o i (behind pc o) ++ pick b [] others) j
