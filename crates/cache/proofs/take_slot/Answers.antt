use mathlib.Core.Path.{◌≡◌, sym, ap, ◌∙◌}
use mathlib.Core.List.{[], ◌∷◌}
use Rattle.arm.specs.declared.Access.TheVariants.{StrW}
use Rattle.arm.specs.declared.Instr.TheVariants.{MemoryImm}
use Rattle.lowering.specs.Instrs.{CPU, str}
use lib.ListN.{get_or}
use Rattle.lowering.specs.Cache.{host, FREE, off_reg}
use Rattle.cache.proofs.Cases.{held_small, free-chosen, free-spill, old_chosen, dirty-spill, clean-spill}
use Rattle.cache.proofs.take_slot.Goals as goal

pub returns-in-Some : goal.returns-in-Some
returns-in-Some c =
    let e = sym c.in-Some.is ∙ c.slot.ensures in
    let lay = c.args.lay in
    let rc = c.args.rc.now in
    record { chose = free-chosen lay rc _ e; small = held_small rc FREE _ e; spills = free-spill lay rc _ e }

pub returns-then-rc-i : goal.returns-then-rc-i
returns-then-rc-i c =
    let e = sym c.in_default.is ∙ c.slot.ensures in
    let lay = c.args.lay in
    let rc = c.args.rc.now in
    let old = c.oldest-i.ensures in
    let store : MemoryImm StrW c.off_reg.result CPU c.host.result ≡ str (host c.oldest-i.result) CPU (off_reg lay (get_or rc.guest c.oldest-i.result 0)) = cc (c.off_reg.ensures, c.host.ensures) in
    record { chose = old_chosen lay rc _ e old.0; small = old.1; spills = ap (λ i. i ∷ []) store ∙ dirty-spill lay rc _ e old.0 c.if-rc-i.true }

pub returns : goal.returns
returns c =
    let e = sym c.in_default.is ∙ c.slot.ensures in
    let lay = c.args.lay in
    let rc = c.args.rc.now in
    let old = c.oldest-i.ensures in
    record { chose = old_chosen lay rc _ e old.0; small = old.1; spills = clean-spill lay rc _ e old.0 c.if-rc-i.false }
