-- `guard_at` meets its contract: the part lent is the payload of a RAM block's field 06.
use mathlib.Core.Path.{sym, ap, ◌∙◌}
use native.Mathlib.Omega.{arith}
use Rattle.block.specs.Block.{in_flash}
use Rattle.fields.specs.Fields.{guard_of}
use Rattle.fields.proofs.Laws.{guard_whole, payload-part}
use Rattle.fields.proofs.guard_at.Goals as goal

pub slice_bounds-guard_of-end : goal.slice_bounds-guard_of-end
slice_bounds-guard_of-end c =
    let e = ap in_flash (sym c.start_of.ensures) ∙ sym c.in_flash.ensures ∙ c.if-in_flash.false in
    omega (arith, (guard_whole c.args.s.now e c.requires.1).inside)

pub returns : goal.returns
returns c =
    let e = ap in_flash (sym c.start_of.ensures) ∙ sym c.in_flash.ensures ∙ c.if-in_flash.false in
    rw e (c.guard_of.ensures ∙ ap guard_of (payload-part c.args.s.now 77 16 (guard_whole _ e c.requires.1)))
