use Rattle.emission.proofs.Writes.{writes-same, writes-more}
use Rattle.moves.proofs.Arms.{low_half, high_half, inverted, both_halves}
use Rattle.moves.proofs.mov32.Goals as goal

pub returns-then-hi-eq0 : goal.returns-then-hi-eq0
returns-then-hi-eq0 c = writes-same (low_half c.args.rd c.args.imm c.if-hi-eq0.true) (c.ins.ensures _ c.move_wide.ensures)

pub returns-then-lo-eq0 : goal.returns-then-lo-eq0
returns-then-lo-eq0 c =
    writes-same (high_half c.args.rd c.args.imm c.if-hi-eq0.false c.if-lo-eq0.true) (c.ins-then-lo-eq0.ensures _ c.move_wide-then-lo-eq0.ensures)

pub returns-then-hi-eq65535 : goal.returns-then-hi-eq65535
returns-then-hi-eq65535 c =
    writes-same (inverted c.args.rd c.args.imm c.if-hi-eq0.false c.if-lo-eq0.false c.if-hi-eq65535.true)
    (c.ins-then-hi-eq65535.ensures _ c.move_wide-then-hi-eq65535.ensures)

pub returns-else-hi-eq65535 : goal.returns-else-hi-eq65535
returns-else-hi-eq65535 c =
    writes-same (both_halves c.args.rd c.args.imm c.if-hi-eq0.false c.if-lo-eq0.false c.if-hi-eq65535.false)
    (writes-more _ _ (c.ins-else-hi-eq65535.ensures _ c.move_wide-else-hi-eq65535.ensures)
    (c.ins-else-hi-eq65535-2.ensures _ c.move_wide-else-hi-eq65535-2.ensures))
