-- At either end the text is that of the answer.
use Rattle.std.proofs.Common.{◌≡◌, length, arith, rules}
use Rattle.answers.proofs.Promises.{sited-told}
use Rattle.blockwords.specs.Text.{lent, answer_text}
use Rattle.blockwords.proofs.Laws.{refused-puts, accepted-puts}
use Rattle.blockwords.proofs.put_translation.Goals as goal

pub returns-in-Ok-clause-placed : goal.returns-in-Ok-clause-placed
unfolding answer_text lent
returns-in-Ok-clause-placed c =
    let t = c.translate.ensures in
    let len : length c.translate.new.words ≡ 16384 = search rules in
    accepted-puts _ _ _ _ _ _ t.answer t.words_after _ c.in-Ok.is _ (omega (arith, c.min-n.ensures, len))
    c.put_listing.ensures

pub returns-in-Ok-clause-sited : goal.returns-in-Ok-clause-sited
returns-in-Ok-clause-sited c = sited-told c.args.bytes.now lent

pub returns-in-Err-clause-placed : goal.returns-in-Err-clause-placed
unfolding answer_text lent
returns-in-Err-clause-placed c =
    let t = c.translate.ensures in
    refused-puts _ _ _ _ _ _ t.answer t.words_after _ c.in-Err.is (rw c.from.ensures at c.refused.ensures)

pub returns-in-Err-clause-sited : goal.returns-in-Err-clause-sited
returns-in-Err-clause-sited c = sited-told c.args.bytes.now lent
