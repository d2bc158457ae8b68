use Rattle.std.proofs.Common.{sym, ap, ◌∙◌}
use Rattle.cache.proofs.Cases.{is-held, held-slot, touched_seated, not_held, new-slot, assigned_seated}
use Rattle.emission.specs.Gen.{with_cache}
use Rattle.emission.proofs.Registers.{held-seating, loaded-seating, bare-seating}
use Rattle.emission.proofs.Writes.{writes-nothing, writes-same, writes-more}
use Rattle.emission.proofs.seat.Goals as goal
use Rattle.emission.proofs.seat.Goals.{then-load, else-load}

pub returns-in-Some-clause-slot : goal.returns-in-Some-clause-slot
returns-in-Some-clause-slot c = held-slot _ _ _ (sym c.in-Some.is ∙ c.slot.ensures)

pub returns-in-Some-clause-wrote : goal.returns-in-Some-clause-wrote
returns-in-Some-clause-wrote c =
    let g = c.args.g.now in
    writes-same (held-seating g.lay g.rc c.args.r c.args.load (is-held g.rc _ _ (sym c.in-Some.is ∙ c.slot.ensures))) writes-nothing

pub returns-in-Some-clause-cache : goal.returns-in-Some-clause-cache
returns-in-Some-clause-cache c = ap (with_cache c.args.g.now) (c.touch.ensures ∙ touched_seated _ _ _ (sym c.in-Some.is ∙ c.slot.ensures))

pub returns-clause-slot : goal.returns-clause-slot
returns-clause-slot c = new-slot _ _ _ (sym c.in_default.is ∙ c.slot.ensures) c.take_slot-i.ensures.chose

pub returns-clause-wrote : goal.returns-clause-wrote
returns-clause-wrote c =
    let g = c.args.g.now in
    let e = not_held g.rc _ _ (sym c.in_default.is ∙ c.slot.ensures) c.take_slot-i.ensures.chose in
    let took = c.take_slot-i.ensures in
    elim c.if-load.branch [
      | then-load w ↦ rw w.asm-is
          (writes-same (loaded-seating g.lay g.rc c.args.r c.args.load _ _ e took.chose took.spills _ _ w.if-load.true w.host.ensures w.off_reg.ensures)
          (writes-more _ _ c.spill.ensures (w.ins.ensures _ w.ldr.ensures)))
      | else-load w ↦ rw w.asm-is (writes-same (bare-seating g.lay g.rc c.args.r c.args.load _ _ e took.chose took.spills w.if-load.false) c.spill.ensures)
    ]

pub returns-clause-cache : goal.returns-clause-cache
returns-clause-cache c =
    ap (with_cache c.args.g.now) (c.assign.ensures ∙ assigned_seated _ _ _ (sym c.in_default.is ∙ c.slot.ensures) c.take_slot-i.ensures.chose)
