-- Past the demand: a block that is left by the table starts the next one at its body.
use Rattle.std.specs.Prelude.{◌≡◌, ◌≢◌, ℕ, ◌+◌, ◌-◌, ◌*◌, ◌≤◌, ◌<◌}
use Rattle.block.specs.declared.Block.{Block}
use Rattle.machine.specs.State.{State, code}
use Rattle.machine.specs.Memory.{bytes_of, base_of}
use Rattle.machine.specs.Execute.{Helpers}
use Rattle.machine.specs.Machine.{Run}
use Rattle.card.specs.Card.{Card}
use Rattle.lowering.specs.Compile.{body_offset}
use Rattle.demand.specs.Premises.{Entry, body, AtBody, Premises}
use Rattle.demand.specs.Claim.{body_at, saved, ByTable}

-- The state e at a table jump out of block b, and the same as the start n of block b': the code is that of b' (a machine's code is one
-- block's), its body is the one that the table has for the pc, and all else is as it is in e.
pub record Enters (b b' : Block) (pc : ℕ) (s e n : State) : Type 0 where
  pub to_body : body_at s pc ≡ base_of n.mem code + body_offset
  pub pc_is : n.pc ≡ e.pc
  pub registers_are : n.x ≡ e.x
  pub sp_is : n.sp ≡ e.sp
  pub bases_are : (i : ℕ) → i ≢ code → base_of n.mem i ≡ base_of e.mem i
  pub bytes_are : (i : ℕ) → i ≢ code → bytes_of n.mem i ≡ bytes_of e.mem i
  pub same_map : b'.memory.map ≡ b.memory.map

-- a start at the body, with the same limit and the card's done count; and the frame still holds the first caller's registers
pub record Started (b' : Block) (entry : Entry) (limit : ℕ) (c : Card) (s n : State) : Type 0 where
  pub at_body : AtBody b' limit c n
  pub saved_is : (k : ℕ) → 19 ≤ k → k < 29 → saved body n k (8 * k - 136) ≡ saved entry s k (8 * k - 136)
  pub saved_29 : saved body n 29 0 ≡ saved entry s 29 0
  pub saved_30 : saved body n 30 8 ≡ saved entry s 30 8

-- THE CLAIM: of every block, start under the premises, end of it by the table, and next block there
abbrev pub NextStarts : Type 0
NextStarts = (b b' : Block) (h : Helpers) (entry : Entry) (limit : ℕ) (c d : Card) (s n : State) (r : Run)
    → Premises b h entry limit c s → ByTable b entry d s r → Enters b b' d.pc s r.state n
    → Started b' entry limit d s n
