-- `memory_field` meets its contract: the header's fault, or that of the payload lent.
use mathlib.Core.Path.{◌≡◌, sym, ap, ◌∙◌}
use native.Mathlib.Omega.{arith}
use Rattle.std.proofs.Common.{rules, Err}
use Rattle.faults.proofs.Laws.{then_none, stopped}
use Rattle.fields.specs.Fields.{memory_field, memory_fault}
use Rattle.fields.proofs.Laws.{field-whole, payload-part}
use Rattle.fields.proofs.memory_field.Goals as goal

pub returns-in_err-field_fault : goal.returns-in_err-field_fault
unfolding memory_field
returns-in_err-field_fault c =
    let h : c.from_residual.result ≡ Err c.in_err-field_fault.field-0.0 = search rules in
    stopped _ _ _ _ _ c.in_err-field_fault.was c.field_fault.ensures h

pub slice_bounds-memory_fault-end : goal.slice_bounds-memory_fault-end
slice_bounds-memory_fault-end c = omega (arith, (field-whole c.args.s.now 23 2 17 (sym c.in_ok-field_fault.ensures)).inside)

pub returns : goal.returns
unfolding memory_field
returns c =
    let e = sym c.in_ok-field_fault.ensures in
    c.memory_fault.ensures
    ∙ ap memory_fault (payload-part c.args.s.now 23 17 (field-whole _ 23 2 17 e))
    ∙ then_none _ _ e
