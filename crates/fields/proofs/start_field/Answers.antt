-- `start_field` meets its contract: the header's fault, or that of the start, with the memory of field 02.
use Prim.Native.Nat.{ℕ}
use mathlib.Core.Path.{◌≡◌, sym, ap, ap₂, ◌∙◌}
use Rattle.std.proofs.Common.{rules, Err}
use Rattle.block.specs.declared.Memory.{Memory}
use Rattle.faults.proofs.Laws.{then_none, stopped}
use Rattle.fields.specs.Fields.{memory_of, start_field, start_fault}
use Rattle.fields.proofs.Laws.{field-whole, payload-part}
use Rattle.fields.proofs.start_field.Goals as goal

pub returns-in_err-field_fault : goal.returns-in_err-field_fault
unfolding start_field
returns-in_err-field_fault c =
    let h : c.from_residual.result ≡ Err c.in_err-field_fault.field-0.0 = search rules in
    stopped _ _ _ _ _ c.in_err-field_fault.was c.field_fault.ensures h

pub returns : goal.returns
unfolding start_field
returns c =
    let e = sym c.in_ok-field_fault.ensures in
    let s = c.args.s.now in
    let memory = c.memory_of.ensures ∙ ap memory_of (payload-part s 23 17 (field-whole s 23 2 17 c.requires.1)) in
    c.start_fault.ensures
    ∙ ap₂ (λ (x : Memory) (n : ℕ). start_fault x s n) memory c.start_of.ensures
    ∙ then_none _ _ e
