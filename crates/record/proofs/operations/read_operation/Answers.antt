-- `read_operation` meets its contract: the tests in order; the part lent is the payload.
use mathlib.Core.Path.{◌≡◌, sym, ap, ◌∙◌}
use borrow.Author.Tests.{le-leb, lt-leb, eq-eqb, ne_eqb}
use Rattle.std.proofs.Common.{rules, Err}
use Rattle.faults.proofs.Laws.{gives-zero, stopped}
use Rattle.record.specs.Record.{contents_fault, operation_fault}
use Rattle.fields.proofs.Laws.{payload_range}
use Rattle.record.proofs.operations.read_operation.Goals as goal

pub returns-in_err-cut-clause-fault : goal.returns-in_err-cut-clause-fault
unfolding operation_fault
returns-in_err-cut-clause-fault c =
    let h : c.from_residual.result ≡ Err c.in_err-cut.field-0.0 = search rules in
    stopped _ _ _ _ _ c.in_err-cut.was c.cut.ensures h

pub returns-then-byte-ne5-clause-fault : goal.returns-then-byte-ne5-clause-fault
unfolding operation_fault
returns-then-byte-ne5-clause-fault c =
    let e = gives-zero _ 0 (sym c.in_ok-cut.ensures) in
    rw (e, ← c.byte.ensures, ne_eqb _ _ c.if-byte-ne5.true)

pub returns-then-n-ge32-clause-fault : goal.returns-then-n-ge32-clause-fault
unfolding operation_fault
returns-then-n-ge32-clause-fault c =
    let e = gives-zero _ 0 (sym c.in_ok-cut.ensures) in
    rw (e, ← c.byte.ensures, eq-eqb _ _ c.if-byte-ne5.false, le-leb _ _ c.if-n-ge32.true)

pub returns-then-jumped-clause-fault : goal.returns-then-jumped-clause-fault
unfolding operation_fault
returns-then-jumped-clause-fault c =
    let e = gives-zero _ 0 (sym c.in_ok-cut.ensures) in
    rw (e, ← c.byte.ensures, eq-eqb _ _ c.if-byte-ne5.false, lt-leb _ _ c.if-n-ge32.false, c.if-jumped.true)

pub returns-clause-fault : goal.returns-clause-fault
unfolding operation_fault
returns-clause-fault c =
    let e = gives-zero _ 0 (sym c.in_ok-cut.ensures) in
    let a = c.args in
    let part = payload_range a.s.now a.at _ c.get16.ensures.0 in
    rw (e, ← c.byte.ensures, eq-eqb _ _ c.if-byte-ne5.false, lt-leb _ _ c.if-n-ge32.false, c.if-jumped.false)
    (c.decode.ensures.fault ∙ ap (contents_fault a.m) part)
