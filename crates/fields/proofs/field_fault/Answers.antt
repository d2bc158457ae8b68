-- `field_fault` meets its contract: the tests in order.
use mathlib.Core.Path.{◌≡◌, sym}
use borrow.Author.Tests.{eq-eqb, ne_eqb}
use Rattle.std.proofs.Common.{rules, Err}
use Rattle.faults.proofs.Laws.{gives-zero, stopped}
use Rattle.fields.specs.Fields.{field_fault}
use Rattle.fields.proofs.field_fault.Goals as goal

pub returns-in_err-cut : goal.returns-in_err-cut
unfolding field_fault
returns-in_err-cut c =
    let h : c.from_residual.result ≡ Err c.in_err-cut.field-0.0 = search rules in
    stopped _ _ _ _ _ c.in_err-cut.was c.cut.ensures h

pub returns-then-byte-tag : goal.returns-then-byte-tag
unfolding field_fault
returns-then-byte-tag c =
    let e = gives-zero _ 0 (sym c.in_ok-cut.ensures) in
    rw (e, ← c.byte.ensures, ne_eqb _ _ c.if-byte-tag.true)

pub returns-then-get16-len : goal.returns-then-get16-len
unfolding field_fault
returns-then-get16-len c =
    let e = gives-zero _ 0 (sym c.in_ok-cut.ensures) in
    rw (e, ← c.byte.ensures, eq-eqb _ _ c.if-byte-tag.false, ← c.get16.ensures.0, ne_eqb _ _ c.if-get16-len.true)

pub returns : goal.returns
unfolding field_fault
returns c =
    let e = gives-zero _ 0 (sym c.in_ok-cut.ensures) in
    rw (e, ← c.byte.ensures, eq-eqb _ _ c.if-byte-tag.false, ← c.get16.ensures.0, eq-eqb _ _ c.if-get16-len.false)
