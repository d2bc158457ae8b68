-- `layout_field` meets its contract: the header's fault, or that of the payload lent.
use mathlib.Core.Path.{◌≡◌, sym, ap, ◌∙◌}
use native.Mathlib.Omega.{arith}
use Rattle.std.proofs.Common.{rules, Err}
use Rattle.faults.proofs.Laws.{then_none, stopped}
use Rattle.fields.specs.Fields.{layout_field, layout_of, layout_fault}
use Rattle.fields.proofs.Laws.{field-whole, payload-part}
use Rattle.fields.proofs.layout_field.Goals as goal

pub returns-in_err-field_fault : goal.returns-in_err-field_fault
unfolding layout_field
returns-in_err-field_fault c =
    let h : c.from_residual.result ≡ Err c.in_err-field_fault.field-0.0 = search rules in
    stopped _ _ _ _ _ c.in_err-field_fault.was c.field_fault.ensures h

pub slice_bounds-layout_of-end : goal.slice_bounds-layout_of-end
slice_bounds-layout_of-end c = omega (arith, (field-whole c.args.s.now 0 1 20 (sym c.in_ok-field_fault.ensures)).inside)

pub returns : goal.returns
unfolding layout_field
returns c =
    let e = sym c.in_ok-field_fault.ensures in
    let part = payload-part c.args.s.now 0 20 (field-whole _ 0 1 20 e) in
    c.layout_fault.ensures
    ∙ ap layout_fault (c.layout_of.ensures ∙ ap layout_of part)
    ∙ then_none _ _ e
