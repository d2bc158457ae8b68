-- `constants::mov32` meets its contract. Assumes nothing.
use Rattle.std.proofs.Common.{◌∙◌, le-ltb, lt-ltb}
use Rattle.constants.proofs.Lists.{refuses, gives}
use Rattle.constants.proofs.mov32.Goals as goal

pub returns-in_err-below-clause-words : goal.returns-in_err-below-clause-words
returns-in_err-below-clause-words c =
    let rd = le-ltb c.args.rd 32 c.in_err-below.ensures.1 in
    refuses _ _ _ _ c.from_residual.ensures.1 c.in_err-below.ensures.0 rd

pub returns-clause-words : goal.returns-clause-words
returns-clause-words c =
    gives _ _ _ (lt-ltb c.args.rd 32 c.in_ok-below.ensures) (c.in_order.ensures ∙ c.as_slice.ensures.value ∙ c.halves.ensures.words)
