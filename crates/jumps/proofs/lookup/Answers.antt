use Rattle.jumps.proofs.Laws.{lookup-after}
use Rattle.jumps.proofs.lookup.Goals as goal

pub returns : goal.returns
returns c n e =
    lookup-after e _ _ (c.ins.ensures _ c.bitfield.ensures) c.ldr_lit_x.ensures (c.ins-2.ensures _ c.add_sub_shifted.ensures) c.ldr.ensures c.cmp.ensures
    c.b_cond.ensures (c.ins-3.ensures _ c.memory_imm.ensures) (c.ins-4.ensures _ c.branch_reg.ensures)
