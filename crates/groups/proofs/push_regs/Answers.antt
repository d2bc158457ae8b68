use mathlib.Core.Path.{refl, ap, ap₂, sym, ◌∙◌}
use mathlib.Core.List.{reverse}
use Prim.Native.Nat.{◌+◌, ◌-◌}
use native.Mathlib.Omega.{arith}
use Rattle.lowering.specs.Steps.{push_all}
use Rattle.lower.proofs.Loop.{all_left, none_left, less_left}
use Rattle.groups.proofs.Saved.{between, saved_between, a_push, no_push}
use Rattle.groups.proofs.push_regs.Goals as goal

pub loop-r-init : goal.loop-r-init
loop-r-init c =
    all_left _ _ _
    (ap (λ rs. push_all c.args.i (reverse rs)) (ap₂ between c.bot-r-start.ensures c.top-r.ensures ∙ sym (saved_between c.args.n)))

pub loop-r-preserved : goal.loop-r-preserved
loop-r-preserved c =
    let l = c.loop-r in
    less_left _ _ _ _ _ (a_push _ _ (l.r - 1 + 1 - c.bot-r-start.result) (omega arith) (omega arith)) l.invariant c.push_reg.ensures

pub returns : goal.returns
returns c = none_left _ _ _ (no_push _ _ (omega arith)) c.loop-r.invariant

pub returns-2 : goal.returns-2
returns-2 c =
    none_left _ _ _ (no_push _ _ {k = 0} refl)
    (less_left _ _ _ _ _ (a_push _ _ 0 (omega arith) (omega arith)) c.loop-r.invariant c.push_reg.ensures)
