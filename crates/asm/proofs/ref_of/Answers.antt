-- Kind 4 is a literal's load, every other a field's.
use Prim.Native.Nat.{◌/◌}
use borrow.Author.Tests.{ne_eqb}
use mathlib.Core.Path.{ap}
use Rattle.asm.specs.declared.Reference.TheVariants.{ToLabel}
use Rattle.asm.specs.State.{label_of, ref_of}
use Rattle.asm.proofs.ref_of.Goals as goal

pub returns-then-n-eq4 : goal.returns-then-n-eq4
unfolding ref_of
returns-then-n-eq4 c = rw c.if-n-eq4.true

pub returns : goal.returns
unfolding ref_of
returns c = rw (ne_eqb _ 4 c.if-n-eq4.false) (ap (ToLabel (label_of (c.args.n / 8))) c.fix_of.ensures)
