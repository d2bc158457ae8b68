-- DEMAND 3 of records: of every accepted record and the words that the definition of the lowering gives for it. Assumes nothing.
use mathlib.Core.Path.{◌≡◌}
use mathlib.Core.List.{List}
use Prim.Native.Nat.{ℕ}
use lib.ListN.{length}
use Rattle.record.specs.Record.{Accepted, reading}
use Rattle.record.proofs.Accepted.{Bytes, read-checked}
use Rattle.machine.specs.State.{State, xip}
use Rattle.machine.specs.Memory.{bytes_of}
use Rattle.machine.specs.Execute.{Helpers}
use Rattle.machine.specs.Machine.{run}
use Rattle.card.specs.Card.{Card}
use Rattle.card.specs.Step.{Way}
use Rattle.card.specs.Run.{left as leaves, run as run_card}
use Rattle.lowering.specs.Compile.{block_words}
use Rattle.demand.specs.Premises.{Entry, Premises}
use Rattle.demand.specs.Claim.{Meets}
use Rattle.simulation.proofs.Demand.{demand_3}

pub of_records : (bytes : List ℕ) → Bytes bytes → (reading bytes).answer ≡ Accepted
    → (h : Helpers) (entry : Entry) (limit : ℕ) (c : Card) (s : State) → Premises (reading bytes).block h entry limit c s
    → (w : Way) (d : Card) → run_card (reading bytes).block (bytes_of s.mem xip) limit c ≡ leaves w d
    → Meets (reading bytes).block h entry w d s (run (length (block_words (reading bytes).block)) h s)
of_records bytes are accepted h entry limit c s P w d e = demand_3 (reading bytes).block h entry limit c s (read-checked bytes are accepted) P w d e
