-- `constants::push_quarter` meets its contract. Assumes nothing.
use Rattle.std.proofs.Common.{ap, ◌∙◌, ◌++◌, [], ◌∷◌, rules, ne_eqb}
use Rattle.constants.proofs.Lists.{word_is}
use Rattle.constants.proofs.push_quarter.Goals as goal

pub returns-then-part-ne0-clause-items : goal.returns-then-part-ne0-clause-items
returns-then-part-ne0-clause-items c = let a = c.args in
    simp (ne_eqb a.part 0 c.if-part-ne0.true)
    (c.push.ensures.items ∙ ap (λ w. a.words.now.items ++ (w ∷ [])) (word_is _ c.word.ensures (search rules)))
