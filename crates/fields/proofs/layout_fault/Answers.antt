-- `layout_fault` meets its contract: the tests in order.
use mathlib.Core.Path.{sym, ◌∙◌}
use Rattle.fields.specs.Fields.{layout_fault}
use Rattle.fields.proofs.layout_fault.Goals as goal

pub returns-then-any_far : goal.returns-then-any_far
unfolding layout_fault
returns-then-any_far c = let e = sym c.any_far.ensures ∙ c.if-any_far.true in rw e

pub returns-then-any_unaligned : goal.returns-then-any_unaligned
unfolding layout_fault
returns-then-any_unaligned c =
    let e = sym c.any_far.ensures ∙ c.if-any_far.false in
    let f = sym c.any_unaligned.ensures ∙ c.if-any_unaligned.true in
    rw (e, f)

pub returns-then-overlap : goal.returns-then-overlap
unfolding layout_fault
returns-then-overlap c =
    let e = sym c.any_far.ensures ∙ c.if-any_far.false in
    let f = sym c.any_unaligned.ensures ∙ c.if-any_unaligned.false in
    let g = sym c.overlap.ensures ∙ c.if-overlap.true in
    rw (e, f, g)

pub returns : goal.returns
unfolding layout_fault
returns c =
    let e = sym c.any_far.ensures ∙ c.if-any_far.false in
    let f = sym c.any_unaligned.ensures ∙ c.if-any_unaligned.false in
    let g = sym c.overlap.ensures ∙ c.if-overlap.false in
    rw (e, f, g)
