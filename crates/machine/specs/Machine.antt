-- One step of the machine: fetch at the program counter, decode, execute. A run of at most so many steps.
use Rattle.std.specs.Prelude.{cond, ◌&&◌, List, ℕ, zero, suc, ◌-◌, ◌%◌, eqb, get_or}
use Rattle.std.proofs.Math.Option.{Option, none, some}
use Rattle.machine.specs.Isa.{Instr}
use Rattle.arm.specs.Decode.{Decoded, valid, invalid, decode}
use Rattle.machine.specs.State.{Region, State, code}
use Rattle.machine.specs.Memory.{read_le, within, nowhere}
use Rattle.machine.specs.Execute.{Helpers, Effect, next, returned, jumped, refused, execute}
use Rattle.machine.specs.Encoders.{has_encoder}

-- how a run stands: it goes on, left by the return or by a jump to a table's body, or stopped with a number
pub data Status : Type 0 where
  running at_return at_jump : Status
  fault : ℕ → Status

pub record Run : Type 0 where
  pub status : Status
  pub state : State

-- a whole word of the code; none where the address is no word's
unfoldable pub fetch : List Region → ℕ → Option ℕ
fetch m pc =
    let r : Region = get_or m code nowhere in
    cond (within r pc 4 && eqb ((pc - r.base) % 4) 0) (some (read_le r.bytes (pc - r.base) 4)) none

-- the instruction of a word that an encoder without float registers has
abbrev pub encoded : Decoded → Option Instr
encoded (valid i) = cond (has_encoder i) (some i) none
encoded invalid = none

unfoldable pub instruction : ℕ → Option Instr
instruction w = encoded (decode w)

-- a step that is refused leaves the state as it was
abbrev pub outcome : State → Effect → Run
outcome s (next s') = record { status = running; state = s' }
outcome s (returned s') = record { status = at_return; state = s' }
outcome s (jumped s') = record { status = at_jump; state = s' }
outcome s (refused k) = record { status = fault k; state = s }

-- 18: a word of no such encoder. 19: no whole word of the code
abbrev pub decoded : Helpers → Option Instr → State → Effect
decoded h none s = refused 18
decoded h (some i) s = execute h i s

abbrev pub fetched : Helpers → Option ℕ → State → Effect
fetched h none s = refused 19
fetched h (some w) s = decoded h (instruction w) s

unfoldable pub step : Helpers → State → Run
step h s = outcome s (fetched h (fetch s.mem s.pc) s)

-- a run that goes on
abbrev pub following : Status → Run → (State → Run) → Run
following running r f = f r.state
following at_return r f = r
following at_jump r f = r
following (fault k) r f = r

-- at most n steps
unfoldable pub run : ℕ → Helpers → State → Run
run zero h s = record { status = running; state = s }
run (suc n) h s = let r : Run = step h s in following r.status r (run n h)
