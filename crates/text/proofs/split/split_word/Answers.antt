use Rattle.std.proofs.Common.{◌∙◌, refl}
use Rattle.text.proofs.Search.{no_word, word}
use Rattle.text.proofs.split.split_word.Goals as goal

pub returns-in_err-rest : goal.returns-in_err-rest
returns-in_err-rest c = rw c.from_residual.ensures (no_word c.args.s.now c.in_err-rest.ensures)

pub returns : goal.returns
returns c =
    let k = c.split_at.ensures in
    word c.args.s.now c.in_ok-rest.field-0 c.in_ok-rest.ensures _ _ _ c.unwrap_or.result refl
    (c.unwrap_or.ensures ∙ rw c.word_end.ensures refl) k.front k.back
