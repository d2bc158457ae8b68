use mathlib.Core.Path.{refl}
use Rattle.compile.proofs.Laws.{emits}
use Rattle.compile.proofs.emit.Goals as goal

pub returns : goal.returns
returns c =
    emits c.args.b.now _ _ _ _ _ _ _ _ _ _ c.requires
    (record {
      given = refl;
      cache = c.empty.ensures;
      ats = refl;
      targets = refl;
    })
    c.new_label-exit.ensures.wrote c.opening.ensures c.limit.ensures c.guarded.ensures c.emit_ops.ensures
    _ c.new_label-exit.ensures.label c.bind.ensures c.closing.ensures
