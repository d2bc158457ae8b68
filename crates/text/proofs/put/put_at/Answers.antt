use Rattle.std.proofs.Common.{◌∙◌, sym, arith}
use Rattle.text.proofs.Sets.{past, cut, copied}
use Rattle.text.proofs.put.put_at.Goals as goal

pub returns-then-out-at-clause-written : goal.returns-then-out-at-clause-written
returns-then-out-at-clause-written c = sym (past c.args.bytes.now c.args.out.now c.args.at (omega arith))

pub returns-clause-written : goal.returns-clause-written
returns-clause-written c =
    let k = c.copy_from_slice.ensures in
    copied c.copy_from_slice.new.self c.args.out.now c.args.at _ (omega (arith, k.len)) (omega arith)
    ∙ rw k.after (sym (cut c.args.bytes.now c.args.out.now c.args.at c.min-n.result (omega (arith, c.min-n.ensures))))
