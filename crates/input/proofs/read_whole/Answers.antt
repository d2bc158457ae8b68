use Rattle.std.proofs.Common.{sym, subst}
use Rattle.std.specs.Io.KnownBytes.{Consumes}
use Rattle.input.proofs.Reading.{consumed, starts, too_long}
use Rattle.input.proofs.read_whole.Goals as goal

pub returns-in_default-keep : goal.returns-in_default-keep
returns-in_default-keep g c =
    let l = c.loop in
    let given = rw c.in-Some.is at c.in_ok-n.ensures in
    too_long _ _ l.buf _ c.keep.new.line l.len l.invariant.0 (consumed _ _ _ _ _ l.invariant.1 given.1) c.in_default-keep.ensures

pub loop-preserved : goal.loop-preserved
loop-preserved g c =
    let l = c.loop in
    let given = rw c.in-Some.is at c.in_ok-n.ensures in
    let k = starts l.buf _ c.keep.new.line l.len c.in-Some-keep.end l.invariant.0 c.in-Some-keep.ensures in (
      k.0,
      subst (λ bs. Consumes (g.R.Read.remaining c.args.from.now) (g.R.Read.remaining c.read_piece.new.from) bs) (sym k.1)
          (consumed _ _ _ _ _ l.invariant.1 given.1),
    )
