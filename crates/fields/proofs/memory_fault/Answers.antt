-- `memory_fault` meets its contract: RAM, XIP, flag.
use mathlib.Core.Path.{◌≡◌, sym, ap₂, ◌∙◌}
use borrow.Author.Tests.{lt-ltb, le-ltb}
use Rattle.std.proofs.Common.{rules, Err}
use Rattle.faults.proofs.Laws.{then_none, stopped}
use Rattle.fields.specs.Fields.{region_fault, memory_fault}
use Rattle.fields.proofs.memory_fault.Goals as goal

pub returns-in_err-region_fault : goal.returns-in_err-region_fault
unfolding memory_fault
returns-in_err-region_fault c =
    let h : c.from_residual.result ≡ Err c.in_err-region_fault.field-0.0 = search rules in
    stopped _ _ _ _ _ c.in_err-region_fault.was (c.region_fault.ensures ∙ ap₂ region_fault c.get32.ensures c.get32-2.ensures) h

pub returns-in_err-region_fault-2 : goal.returns-in_err-region_fault-2
unfolding memory_fault
returns-in_err-region_fault-2 c =
    let ram = ap₂ region_fault (sym c.get32.ensures) (sym c.get32-2.ensures) ∙ sym c.in_ok-region_fault.ensures in
    let h : c.from_residual-in_err-region_fault-2.result ≡ Err c.in_err-region_fault-2.field-0.0 = search rules in
    stopped _ _ _ _ _ c.in_err-region_fault-2.was (c.region_fault-2.ensures ∙ ap₂ region_fault c.get32-3.ensures c.get32-4.ensures) h
    ∙ then_none _ _ ram

pub returns-then-byte-gt1 : goal.returns-then-byte-gt1
unfolding memory_fault
returns-then-byte-gt1 c =
    let ram = ap₂ region_fault (sym c.get32.ensures) (sym c.get32-2.ensures) ∙ sym c.in_ok-region_fault.ensures in
    let xip = ap₂ region_fault (sym c.get32-3.ensures) (sym c.get32-4.ensures) ∙ sym c.in_ok-region_fault-2.ensures in
    rw (← c.byte.ensures, lt-ltb _ _ c.if-byte-gt1.true) (then_none _ _ xip ∙ then_none _ _ ram)

pub returns : goal.returns
unfolding memory_fault
returns c =
    let ram = ap₂ region_fault (sym c.get32.ensures) (sym c.get32-2.ensures) ∙ sym c.in_ok-region_fault.ensures in
    let xip = ap₂ region_fault (sym c.get32-3.ensures) (sym c.get32-4.ensures) ∙ sym c.in_ok-region_fault-2.ensures in
    rw (← c.byte.ensures, le-ltb _ _ c.if-byte-gt1.false) (then_none _ _ xip ∙ then_none _ _ ram)
