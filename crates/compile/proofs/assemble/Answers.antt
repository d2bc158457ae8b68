use mathlib.Core.Path.{◌≡◌, ap, ◌∙◌}
use Rattle.block.specs.Checked.{Checked}
use Rattle.code.specs.Walk.{walked_words}
use Rattle.lowering.specs.Compile.{block_lines}
use Rattle.finish.specs.Whole.{laid}
use Rattle.compile.proofs.Laws.{walked_are, told_is, ats_are, targets_are, one_walk_is}
use Rattle.compile.proofs.assemble.Goals as goal

pub returns : goal.returns
returns c =
    let h = c.emit-sites.ensures in
    let full = c.sized.ensures in
    let f = c.finish-finished.ensures in
    let b = c.args.b.now in
    let walked : Checked b → c.finish-finished.new.words ≡ laid (walked_words c.args.upto (block_lines b)) c.args.asm.now.words.now =
    λ ck. f.words_after ∙ walked_are _ ck c.requires full _ h _ in
    record {
      walked = λ ck. (
        f.told ∙ told_is _ ck c.requires full _ h,
        walked ck,
        ats_are _ ck c.requires full _ h,
        targets_are _ ck c.requires full _ h,
      );
      one_walk = λ ck fits. one_walk_is _ _ _ _ (walked ck) fits;
      words = h.wrote.words;
      table = h.wrote.table;
    }
