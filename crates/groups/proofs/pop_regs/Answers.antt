use mathlib.Core.Path.{refl, ap, ap₂, sym, ◌∙◌}
use Prim.Native.Nat.{◌+◌, ◌-◌}
use native.Mathlib.Omega.{arith}
use Rattle.lowering.specs.Steps.{pop_all}
use Rattle.lower.proofs.Loop.{all_left, none_left, less_left}
use Rattle.groups.proofs.Saved.{between, saved_between, a_pop, no_pop}
use Rattle.groups.proofs.pop_regs.Goals as goal

pub loop-r-init : goal.loop-r-init
loop-r-init c = all_left _ _ _ (ap (pop_all c.args.i) (ap₂ between c.bot-r.ensures c.top-r-end.ensures ∙ sym (saved_between c.args.n)))

pub loop-r-preserved : goal.loop-r-preserved
loop-r-preserved c =
    less_left _ _ _ _ _ (a_pop _ _ (c.top-r-end.result + 1 - (c.loop-r.r + 1)) (omega arith)) c.loop-r.invariant c.pop_reg.ensures

pub returns : goal.returns
returns c = none_left _ _ _ (no_pop _ _ (omega arith)) c.loop-r.invariant

pub returns-2 : goal.returns-2
returns-2 c =
    none_left _ _ _ (no_pop _ _ {k = 0} refl)
    (less_left _ _ _ _ _ (a_pop _ _ 0 (omega arith)) c.loop-r.invariant c.pop_reg.ensures)
