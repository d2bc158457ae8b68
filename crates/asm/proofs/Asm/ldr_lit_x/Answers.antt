-- The literal is found or kept, and its number is the fix-up's.
use native.Mathlib.Omega.{arith}
use Rattle.asm.proofs.Cases.{lit-put}
use Rattle.asm.proofs.Wrote.{wrote-then, wrote-with}
use Rattle.asm.proofs.Asm.ldr_lit_x.Goals as goal

pub returns : goal.returns
returns c =
    wrote-with (wrote-then c.keep_literal.ensures c.fix.ensures)
    (lit-put c.args.rt _ _ _ _ _ _ _
    c.at_most.ensures.0
    c.find-i.ensures
    c.keep_literal.ensures.code
    (omega arith)
    c.fix.ensures.code)
