-- No pool, an even length, an odd length.
use Rattle.std.proofs.Common.{◌+◌, ◌≤◌, arith}
use Rattle.finish.proofs.Cases.{pad_none, pad-even, pad_odd}
use Rattle.finish.proofs.pad.Goals as goal

pub returns-then-k-eq0 : goal.returns-then-k-eq0
returns-then-k-eq0 c =
    let b : c.args.n ≤ 1048577 = omega arith in
    let p = pad_none _ _ _ _ c.if-k-eq0.true in
    (p.0, b, p.1)

pub returns-then-n-eq0 : goal.returns-then-n-eq0
returns-then-n-eq0 c =
    let b : c.args.n ≤ 1048577 = omega arith in
    let p = pad-even _ _ _ _ c.if-k-eq0.false c.if-n-eq0.true in
    (p.0, b, p.1)

pub returns : goal.returns
returns c =
    let b : c.args.n + 1 ≤ 1048577 = omega arith in
    let p = pad_odd _ _ _ _ _ c.if-k-eq0.false c.if-n-eq0.false c.store.ensures in
    (p.0, b, p.1)
