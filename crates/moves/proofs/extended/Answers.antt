use Rattle.lowering.specs.Fragments.{extended}
use Rattle.emission.proofs.Writes.{writes-nothing, writes-same}
use Rattle.moves.proofs.Arms.{extended_none}
use Rattle.moves.proofs.extended.Goals as goal

pub returns-in-Byte : goal.returns-in-Byte
unfolding extended
returns-in-Byte c = rw (c.in-Byte.is, c.if-signed.true) (c.ins.ensures _ c.bitfield.ensures)

pub returns-in-Half : goal.returns-in-Half
unfolding extended
returns-in-Half c = rw (c.in-Half.is, c.if-signed.true) (c.ins-in-Half.ensures _ c.bitfield-in-Half.ensures)

pub returns-in-Word : goal.returns-in-Word
unfolding extended
returns-in-Word c = rw (c.in-Word.is, c.if-signed.true) writes-nothing

pub returns-else-signed : goal.returns-else-signed
returns-else-signed c = writes-same (extended_none c.args.w _ c.if-signed.false) writes-nothing
