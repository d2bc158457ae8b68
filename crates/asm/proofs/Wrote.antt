-- An assembler behind several calls.
use mathlib.Core.Path.{◌≡◌, ◌∙◌}
use Rattle.asm.specs.declared.Asm.{Asm}
use Rattle.asm.specs.State.{State, state, Wrote}

-- one call behind another
pub wrote-then : {a b c : Asm} {s t : State} → Wrote a s b → Wrote b t c → Wrote a t c
wrote-then p q = record { code = q.code; words = q.words ∙ p.words; table = q.table ∙ p.table }

-- the state said in another way
pub wrote-as : {a b : Asm} {s t : State} → Wrote a s b → s ≡ t → Wrote a t b
wrote-as p e = record { code = p.code ∙ e; words = p.words; table = p.table }

pub wrote-with : {a b : Asm} {s t : State} → Wrote a s b → state b ≡ t → Wrote a t b
wrote-with p e = record { code = e; words = p.words; table = p.table }
