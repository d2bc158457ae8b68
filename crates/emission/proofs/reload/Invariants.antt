-- So far i slots are done: what is left of them, written from here, ends as all of them from the start.
use Rattle.emission.proofs.Slots.{unloaded, Onward}
use Rattle.emission.proofs.reload.Given as goal

abbrev pub invariant-loop-i : goal.invariant-loop-i
invariant-loop-i l = Onward (unloaded l.g.lay l.g.rc.guest 0) (unloaded l.g.lay l.g.rc.guest l.i) l.initial.asm l.asm
