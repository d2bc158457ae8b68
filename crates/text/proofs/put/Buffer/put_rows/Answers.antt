use Rattle.std.proofs.Common.{rules}
use Rattle.text.proofs.Rows.{start, step, done}
use Rattle.text.proofs.put.Buffer.put_rows.Goals as goal

pub loop-i-init : goal.loop-i-init
loop-i-init c = start c.args.words.now c.args.self.now

pub loop-i-preserved : goal.loop-i-preserved
loop-i-preserved c =
    let l = c.loop-i in
    step c.args.words.now c.args.self.now l.self l.i l.invariant c.put_word.new.self c.separator.result (search rules)
    c.separator.ensures c.put_word.ensures

pub returns : goal.returns
returns c =
    let l = c.loop-i in
    done c.args.words.now c.args.self.now l.self l.i l.invariant (search rules)
