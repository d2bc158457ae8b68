use Rattle.std.proofs.Common.{rules, sym, subst}
use Rattle.std.specs.Io.KnownBytes.{Consumes}
use Rattle.input.proofs.Reading.{consumed, behind}
use Rattle.input.proofs.read_full.Goals as goal

pub loop-preserved : goal.loop-preserved
loop-preserved g c =
    let l = c.loop in
    let given = rw c.in-Some.is at c.in_ok-n.ensures in (
      search rules,
      subst (λ bs. Consumes (g.R.Read.remaining c.args.from.now) (g.R.Read.remaining c.read_piece.new.from) bs)
          (sym (behind l.done c.in-Some.n l.buf c.read_piece.new.piece _ l.invariant.0 given.0))
          (consumed _ _ _ _ _ l.invariant.1 given.1),
    )
