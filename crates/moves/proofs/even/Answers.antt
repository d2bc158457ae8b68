use Rattle.lowering.specs.Fragments.{even}
use Rattle.emission.proofs.Writes.{writes-nothing, writes-same, writes-more}
use Rattle.moves.proofs.Arms.{even_none}
use Rattle.moves.proofs.even.Goals as goal

pub returns-in-Half : goal.returns-in-Half
unfolding even
returns-in-Half c = rw c.in-Half.is (writes-more _ _ c.mov32.ensures (c.ins.ensures _ c.logical_shifted.ensures))

pub returns-in_default : goal.returns-in_default
returns-in_default c = writes-same (even_none c.args.w c.in_default.not-Half) writes-nothing
