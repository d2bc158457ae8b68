-- `read_operations` meets its contract: the loop is left at an operation's fault, or at the record's end.
use mathlib.Core.Path.{◌≡◌, sym, ap, ◌∙◌}
use Rattle.std.proofs.Common.{rules, Result, Err}
use Rattle.faults.specs.declared.Refusal.{Refusal}
use Rattle.faults.specs.Faults.{fault_number}
use Rattle.record.specs.Record.{payload, operation_of, refused, found_in}
use Rattle.record.proofs.Steps.{good, placed, found_at, passed, at-end, at_refusal, again}
use Rattle.record.proofs.read_operations.Goals as goal

pub returns-in_err-op : goal.returns-in_err-op
returns-in_err-op c =
    let l = c.loop-at in
    let i = l.invariant in
    let e = c.in_err-op.field-0.0 in
    let h : c.from_residual.result ≡ Err c.in_err-op.field-0.0 = search rules in
    let m : c.map_err.result ≡ placed l.at c.read_operation.result = search rules in
    let f = found_at c.read_operation.result c.map_err.result e l.at m c.in_err-op.was in
    ap (λ (r : Result (Unit {0}) Refusal). found_in r l.block) h
    ∙ ap (refused (fault_number e.fault)) f.1
    ∙ at_refusal c.args.s.now l.at l.block l.jumped e.fault c.loop-at-test.true i.1 i.3 (sym f.0 ∙ c.read_operation.ensures.fault)
    ∙ i.4

pub bounds-block-block : goal.bounds-block-block
bounds-block-block c = (good _ _ _ _ _ (passed c.read_operation.result c.read_operation.ensures.fault c.in_ok-op.ensures.variant)).room

pub loop-at-preserved : goal.loop-at-preserved
loop-at-preserved c =
    let l = c.loop-at in
    let i = l.invariant in
    let z = passed c.read_operation.result c.read_operation.ensures.fault c.in_ok-op.ensures.variant in
    let o : c.in_ok-op.op ≡ operation_of (payload c.args.s.now l.at) = search rules in
    let n =
    again c.args.s.now l.at l.block l.jumped _ c.loop-at-test.true i.2 i.3 i.4 z
    _ o
    _ c.byte.ensures
    _ c.get16.ensures.0 in
    (n.0, n.1, n.2, c.jumps-jumped.ensures ∙ n.3, n.4)

pub returns : goal.returns
returns c =
    let l = c.loop-at in
    at-end c.args.s.now l.at l.block c.loop-at-test.false ∙ l.invariant.4
