-- `region_fault` meets its contract: the tests in order.
use borrow.Author.Tests.{lt-ltb, le-ltb, eq-eqb, ne_eqb}
use Rattle.fields.specs.Fields.{region_fault}
use Rattle.fields.proofs.region_fault.Goals as goal

pub returns-then-len-lt4 : goal.returns-then-len-lt4
unfolding region_fault
returns-then-len-lt4 c = rw (lt-ltb _ _ c.if-len-lt4.true)

pub returns-then-base-ne0 : goal.returns-then-base-ne0
unfolding region_fault
returns-then-base-ne0 c = rw (le-ltb _ _ c.if-len-lt4.false, ne_eqb _ _ c.if-base-ne0.true)

pub returns-then-base-len-gt4294967296 : goal.returns-then-base-len-gt4294967296
unfolding region_fault
returns-then-base-len-gt4294967296 c =
    rw (le-ltb _ _ c.if-len-lt4.false, eq-eqb _ _ c.if-base-ne0.false, lt-ltb _ _ c.if-base-len-gt4294967296.true)

pub returns : goal.returns
unfolding region_fault
returns c = rw (le-ltb _ _ c.if-len-lt4.false, eq-eqb _ _ c.if-base-ne0.false, le-ltb _ _ c.if-base-len-gt4294967296.false)
