-- `constants::ldr_lit_x` meets its contract. Assumes nothing.
use Rattle.std.proofs.Common.{◌/◌, ◌%◌, ◌^◌, [], ◌∷◌, ap₂, ◌∙◌, rules, le-ltb, lt-ltb}
use Rattle.constants.proofs.Lists.{word_is, refuses, gives}
use Rattle.constants.proofs.ldr_lit_x.Goals as goal

pub returns-in_err-below : goal.returns-in_err-below
returns-in_err-below c = refuses _ _ _ _ c.from_residual.ensures.1 c.in_err-below.ensures.0 (le-ltb c.args.rd 32 c.in_err-below.ensures.1)

pub returns : goal.returns
returns c = gives _ _ _ (lt-ltb c.args.rd 32 c.in_ok-below.ensures)
    (c.in_order.ensures
    ∙ ap₂ (λ v w. v ∷ w ∷ c.args.imm % 2 ^ 32 ∷ c.args.imm / 2 ^ 32 ∷ [])
    (word_is _ c.word-load.ensures (search rules)) (word_is _ c.word-nop.ensures (search rules)))
