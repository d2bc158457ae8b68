use Rattle.std.proofs.Common.{◌≡◌, ◌∙◌, ◌+◌, ◌*◌, sym, arith, rules, tests}
use Rattle.text.proofs.Digits.{none, large, taken, ended, empty, begun}
use Rattle.text.proofs.number.digits.Goals as goal

pub returns-then-is_empty : goal.returns-then-is_empty
returns-then-is_empty c = empty c.args.base c.args.limit c.args.s.now (search (rules, tests))

pub loop-b-init : goal.loop-b-init
loop-b-init c = begun c.args.base c.args.limit c.args.s.now (search (rules, tests))

pub returns-in_err-d : goal.returns-in_err-d
returns-in_err-d c =
    let l = c.loop-b in
    rw c.from_residual.ensures
    (none c.args.base c.args.limit l.value c.args.s.now l.b-index (search rules) c.requires.1
    (rw c.from.ensures at c.in_err-d.ensures.value)
    ∙ l.invariant)

pub returns-in_err-checked_mul : goal.returns-in_err-checked_mul
returns-in_err-checked_mul c =
    let l = c.loop-b in
    let d = rw c.from.ensures at c.in_ok-d.ensures.value in
    rw c.from_residual-in_err-checked_mul.ensures
    (large c.args.base c.args.limit l.value c.args.s.now l.b-index (search rules) c.requires.1 c.in_ok-d.d d
    (omega (arith, c.in_err-checked_mul.ensures, c.ranges.limit))
    ∙ l.invariant)

pub returns-in_err-value : goal.returns-in_err-value
returns-in_err-value c =
    let l = c.loop-b in
    let d = rw c.from.ensures at c.in_ok-d.ensures.value in
    rw c.from_residual-in_err-value.ensures
    (large c.args.base c.args.limit l.value c.args.s.now l.b-index (search rules) c.requires.1 c.in_ok-d.d d
    (omega (arith, c.in_err-value.ensures, c.in_ok-checked_mul.ensures, c.ranges.limit))
    ∙ l.invariant)

pub returns-then-limit-value : goal.returns-then-limit-value
returns-then-limit-value c =
    let l = c.loop-b in
    let d = rw c.from.ensures at c.in_ok-d.ensures.value in
    large c.args.base c.args.limit l.value c.args.s.now l.b-index (search rules) c.requires.1 c.in_ok-d.d d
    (omega (arith, c.in_ok-value.ensures, c.in_ok-checked_mul.ensures))
    ∙ l.invariant

pub loop-b-preserved : goal.loop-b-preserved
loop-b-preserved c =
    let l = c.loop-b in
    let d = rw c.from.ensures at c.in_ok-d.ensures.value in
    let v : c.in_ok-value.value ≡ l.value * c.args.base + c.in_ok-d.d = omega (arith, c.in_ok-value.ensures, c.in_ok-checked_mul.ensures) in
    rw v
    (sym
    (taken c.args.base c.args.limit l.value c.args.s.now l.b-index (search rules) c.requires.1 c.in_ok-d.d d
    (omega (arith, v)))
    ∙ l.invariant)

pub returns : goal.returns
returns c =
    let l = c.loop-b in
    sym (ended c.args.base c.args.limit c.args.s.now l.b-index l.value (search rules)) ∙ l.invariant
