use Rattle.std.proofs.Common.{arith}
use Rattle.emission.proofs.Writes.{writes-nothing, writes-same, writes-more}
use Rattle.moves.proofs.Arms.{add_none, add-moved, add-short, add-minus, add_both}
use Rattle.moves.proofs.add_imm.Goals as goal

pub returns-else-d-s : goal.returns-else-d-s
returns-else-d-s c = let a = c.args in writes-same (add_none a.d a.s a.imm c.if-imm-eq0.true c.if-d-s.false) writes-nothing

pub returns-then-d-s : goal.returns-then-d-s
returns-then-d-s c = let a = c.args in writes-same (add-moved a.d a.s a.imm c.if-imm-eq0.true c.if-d-s.true) c.mov.ensures

pub returns-then-imm-lt4096 : goal.returns-then-imm-lt4096
returns-then-imm-lt4096 c = let a = c.args in writes-same (add-short a.d a.s a.imm c.if-imm-eq0.false c.if-imm-lt4096.true) c.add_imm.ensures

pub returns-then-neg-lt4096 : goal.returns-then-neg-lt4096
returns-then-neg-lt4096 c =
    let a = c.args in
    writes-same (add-minus a.d a.s a.imm _ c.if-imm-eq0.false c.if-imm-lt4096.false (omega (arith, c.wrapping_neg-neg.ensures, c.wrapping_neg-neg.type_inv)) c.if-neg-lt4096.true) (c.ins.ensures _ c.add_sub_imm.ensures)

pub returns-else-neg-lt4096 : goal.returns-else-neg-lt4096
returns-else-neg-lt4096 c =
    let a = c.args in
    writes-same (add_both a.d a.s a.imm _ c.if-imm-eq0.false c.if-imm-lt4096.false (omega (arith, c.wrapping_neg-neg.ensures, c.wrapping_neg-neg.type_inv)) c.if-neg-lt4096.false)
    (writes-more _ _ c.mov32.ensures (c.ins-else-neg-lt4096.ensures _ c.add_sub_shifted.ensures))
