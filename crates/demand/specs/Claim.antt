-- Demand 3: "Run on the Arm model, the block leaves after executing no more instructions than it has words", and what then equals the card's end.
use Rattle.std.specs.Prelude.{◌≡◌, ◌≢◌, ◌⊎◌, true, ℕ, ◌+◌, ◌-◌, ◌*◌, ◌/◌, ◌%◌, ◌^◌, ◌≤◌, ◌<◌, length, get_or, drop}
use Rattle.std.proofs.Math.Option.{some}
use Rattle.arm.specs.declared.Size.TheVariants.{W, X}
use Rattle.arm.specs.declared.Jump.TheVariants.{Blr}
use Rattle.arm.specs.declared.Instr.TheVariants.{BranchReg}
use Rattle.block.specs.declared.Layout.{Layout}
use Rattle.block.specs.declared.Block.{Block}
use Rattle.machine.specs.State.{State, code, stack, processor, context, ram, xip, map, table, guards, R}
use Rattle.machine.specs.Memory.{read_le, bytes_of, base_of, size_of}
use Rattle.machine.specs.Execute.{Helpers}
use Rattle.machine.specs.Machine.{Run, running, at_return, at_jump, fetch, instruction, run}
use Rattle.card.specs.Card.{Card, reg}
use Rattle.card.specs.Step.{Way, exits, chains, looks_up}
use Rattle.card.specs.Run.{left as leaves, run as run_card}
use Rattle.lowering.specs.declared.Site.{Site}
use Rattle.lowering.specs.Compile.{block_words, sites}
use Rattle.block.specs.Checked.{Checked}
use Rattle.demand.specs.Outside.{all_arm}
use Rattle.demand.specs.Premises.{Entry, first, body, ram_guards, Premises}

-- "The jump table has 16,384 entries of 16 bytes, chosen by guest address bits 1 to 14: guest address at byte 0, body at byte 8."
abbrev pub entry_at : (pc : ℕ) → ℕ
entry_at pc = 16 * (pc / 2 % 16384)

abbrev pub guest_at : State → (pc : ℕ) → ℕ
guest_at s pc = read_le (bytes_of s.mem table) (entry_at pc) 4

abbrev pub body_at : State → (pc : ℕ) → ℕ
body_at s pc = read_le (bytes_of s.mem table) (entry_at pc + 8) 8

abbrev pub slot_of : State → ℕ
slot_of s = read_le (bytes_of s.mem context) 32 8

-- a block's k-th chain site, as it is listed
abbrev pub listed_site : Block → (k : ℕ) → Site
listed_site b k = get_or (sites b) k (record { at = 0; target = 0 })

-- its address
abbrev pub site_address : Block → State → (k : ℕ) → ℕ
site_address b s k = (base_of s.mem code + 4 * (listed_site b k).at) % 2 ^ 64

-- past the demand: it is one of the sites, and the target that is listed for it is the pc that the card leaves for
pub record LeavesFor (b : Block) (k pc : ℕ) : Type 0 where
  pub listed : k < length (sites b)
  pub target : (listed_site b k).target ≡ pc

-- "the sixteen registers, stack pointer, return address and hold mark in the processor record, every byte of RAM .. The list of requests to the
-- outside is equal too": of the card's end c and the machine's state e
pub record Equals (lay : Layout) (c : Card) (e : State) : Type 0 where
  pub regs : (r : ℕ) → r < 16 → read_le (bytes_of e.mem processor) (lay.regs + 4 * r) 4 ≡ reg c r
  pub sp : read_le (bytes_of e.mem processor) lay.sp 4 ≡ c.sp
  pub rets : read_le (bytes_of e.mem processor) lay.rets 4 ≡ c.rets
  pub hold : read_le (bytes_of e.mem processor) lay.hold 4 ≡ c.hold
  pub ram_is : bytes_of e.mem ram ≡ c.ram
  pub requests : e.requests ≡ all_arm c.requests
  -- past the demand: the code map, the break word and the versions are the card's too
  pub map_is : bytes_of e.mem map ≡ c.map
  pub brk_is : read_le (bytes_of e.mem context) 24 4 ≡ c.brk
  pub version_is : read_le (bytes_of e.mem context) 40 8 ≡ c.version
  pub guards_are : ram_guards (drop guards e.mem) ≡ c.guards

-- an offset of the processor record in none of its five places
pub record Outside (lay : Layout) (o : ℕ) : Type 0 where
  pub regs : (o < lay.regs) ⊎ (lay.regs + 64 ≤ o)
  pub sp : (o < lay.sp) ⊎ (lay.sp + 4 ≤ o)
  pub rets : (o < lay.rets) ⊎ (lay.rets + 4 ≤ o)
  pub pc : (o < lay.pc) ⊎ (lay.pc + 4 ≤ o)
  pub hold : (o < lay.hold) ⊎ (lay.hold + 4 ≤ o)

-- the frame's place in the stack: 96 bytes from sp on at the body, and below sp at the first word
abbrev pub frame_at : Entry → State → ℕ
frame_at first s = s.sp - 96 - base_of s.mem stack
frame_at body s = s.sp - base_of s.mem stack

-- past the demand: no region has moved or changed its length, and nothing was written outside the named places of processor record and
-- context, the frame, RAM and the code map. A guard is not written by the block: its version is the card's, which outcomes alone change,
-- and its other bytes are as they were. Of context, guards and stack this leans on document 01's helper call, which alters no more of
-- them than outcomes give; the Rust's own helpers write other fields of the context too, and the stack below sp.
pub record Untouched (lay : Layout) (entry : Entry) (s e : State) : Type 0 where
  pub bases_are : (i : ℕ) → base_of e.mem i ≡ base_of s.mem i
  pub sizes_are : (i : ℕ) → size_of e.mem i ≡ size_of s.mem i
  pub code_is : bytes_of e.mem code ≡ bytes_of s.mem code
  pub xip_is : bytes_of e.mem xip ≡ bytes_of s.mem xip
  pub table_is : bytes_of e.mem table ≡ bytes_of s.mem table
  pub stack_is : (o : ℕ) → (o < frame_at entry s) ⊎ (frame_at entry s + 96 ≤ o) → get_or (bytes_of e.mem stack) o 0 ≡ get_or (bytes_of s.mem stack) o 0
  pub processor_is : (o : ℕ) → Outside lay o → get_or (bytes_of e.mem processor) o 0 ≡ get_or (bytes_of s.mem processor) o 0
  pub context_is : (o : ℕ) → (o < 24) ⊎ (28 ≤ o) → (o < 32) ⊎ (48 ≤ o) → get_or (bytes_of e.mem context) o 0 ≡ get_or (bytes_of s.mem context) o 0
  pub guards_is : (k o : ℕ) → guards ≤ k → 8 ≤ o → get_or (bytes_of e.mem k) o 0 ≡ get_or (bytes_of s.mem k) o 0

-- the eight bytes at a place of the stack
abbrev pub stack_word : State → (place : ℕ) → ℕ
stack_word s o = read_le (bytes_of s.mem stack) o 8

-- the register that the frame holds at a place: the caller's, before the opening words
abbrev pub saved : Entry → State → (register place : ℕ) → ℕ
saved first s n o = R X s n
saved body s n o = stack_word s (frame_at body s + o)

-- past the demand: sp, registers 19 to 29 and the return address are as the caller left them
pub record Restored (entry : Entry) (s e : State) : Type 0 where
  pub sp : e.sp ≡ (base_of s.mem stack + frame_at entry s + 96) % 2 ^ 64
  pub x29 : R X e 29 ≡ saved entry s 29 0
  pub x30 : R X e 30 ≡ saved entry s 30 8
  pub x19 : R X e 19 ≡ saved entry s 19 16
  pub x20 : R X e 20 ≡ saved entry s 20 24
  pub x21 : R X e 21 ≡ saved entry s 21 32
  pub x22 : R X e 22 ≡ saved entry s 22 40
  pub x23 : R X e 23 ≡ saved entry s 23 48
  pub x24 : R X e 24 ≡ saved entry s 24 56
  pub x25 : R X e 25 ≡ saved entry s 25 64
  pub x26 : R X e 26 ≡ saved entry s 26 72
  pub x27 : R X e 27 ≡ saved entry s 27 80
  pub x28 : R X e 28 ≡ saved entry s 28 88
  pub to_caller : e.pc ≡ saved entry s 30 8

-- "At the return the program counter is the record's field and the done count register 0."
pub record ByReturn (b : Block) (entry : Entry) (slot : ℕ) (c : Card) (s : State) (r : Run) : Type 0 where
  pub status : r.status ≡ at_return
  pub equals : Equals b.layout c r.state
  pub pc : read_le (bytes_of r.state.mem processor) b.layout.pc 4 ≡ c.pc
  pub done : R W r.state 0 ≡ c.done
  pub slot_is : slot_of r.state ≡ slot
  pub restored : Restored entry s r.state
  pub untouched : Untouched b.layout entry s r.state

-- the limit, in the register of the start
abbrev pub limit_at : Entry → State → ℕ
limit_at first s = R W s 4
limit_at body s = R W s 27

-- past the demand: what the next body starts with, "with those registers set and the frame on the stack as the opening words store it".
-- Register k of 19 to 28 stands at byte 8 * k - 136 of the frame.
pub record Handed (b : Block) (entry : Entry) (s e : State) : Type 0 where
  pub sp : e.sp ≡ base_of s.mem stack + frame_at entry s
  pub frame : (k : ℕ) → 19 ≤ k → k < 29 → stack_word e (frame_at entry s + (8 * k - 136)) ≡ saved entry s k (8 * k - 136)
  pub frame_29 : stack_word e (frame_at entry s + 0) ≡ saved entry s 29 0
  pub frame_30 : stack_word e (frame_at entry s + 8) ≡ saved entry s 30 8
  pub x19 : R X e 19 ≡ base_of s.mem processor
  pub x20 : R X e 20 ≡ base_of s.mem context
  pub x21 : R X e 21 ≡ base_of s.mem ram
  pub x22 : R X e 22 ≡ base_of s.mem xip
  pub x25 : b.memory.map ≡ true → R X e 25 ≡ base_of s.mem map
  pub w27 : R W e 27 ≡ limit_at entry s

-- "At a table jump they are registers 12 and 26, and the record's field keeps its old number."
pub record ByTable (b : Block) (entry : Entry) (c : Card) (s : State) (r : Run) : Type 0 where
  pub status : r.status ≡ at_jump
  pub equals : Equals b.layout c r.state
  pub pc : R W r.state 12 ≡ c.pc
  pub done : R W r.state 26 ≡ c.done
  pub old_pc : read_le (bytes_of r.state.mem processor) b.layout.pc 4 ≡ read_le (bytes_of s.mem processor) b.layout.pc 4
  pub slot_is : slot_of r.state ≡ slot_of s
  pub found : guest_at s c.pc ≡ c.pc
  pub to_body : r.state.pc ≡ body_at s c.pc
  pub handed : Handed b entry s r.state
  pub untouched : Untouched b.layout entry s r.state

-- "Leaving is the return, or a jump to a table body. .. Leaving by a chain site puts that site's address in the slot."
abbrev pub Left : Block → Entry → Way → Card → State → Run → Type 0
Left b entry exits c s r = ByReturn b entry (slot_of s) c s r
Left b entry (chains k) c s r = LeavesFor b k c.pc × ByReturn b entry (site_address b s k) c s r
Left b entry looks_up c s r = ByTable b entry c s r ⊎ ((guest_at s c.pc ≢ c.pc) × ByReturn b entry (slot_of s) c s r)

-- the next instruction is a call of a helper: BLR by a register that holds its address
pub record CallsHelper (h : Helpers) (s : State) : Type 0 where
  pub word : ℕ
  pub rn : ℕ
  pub fetched : fetch s.mem s.pc ≡ some word
  pub is_blr : instruction word ≡ some (BranchReg Blr rn)
  pub to_helper : (R X s rn ≡ h.h-read) ⊎ ((R X s rn ≡ h.h-write) ⊎ (R X s rn ≡ h.h-ram-ok))

-- past the demand: every helper is called with the context in register 0, in whatever state t of the run
abbrev pub CalledInContext : Helpers → State → Type 0
CalledInContext h s = (k : ℕ) (t : State) → run k h s ≡ record { status = running; state = t } → CallsHelper h t → R X t 0 ≡ base_of t.mem context

-- "no more instructions than it has words", by the count that the model keeps
pub record Meets (b : Block) (h : Helpers) (entry : Entry) (w : Way) (c : Card) (s : State) (r : Run) : Type 0 where
  pub few : r.state.count ≤ length (block_words b)
  pub left : Left b entry w c s r
  pub in-context : CalledInContext h s

-- THE CLAIM: of every checked block, start and outside under the premises, allowed as many steps as the block has words
abbrev pub Demand3 : Type 0
Demand3 = (b : Block) (h : Helpers) (entry : Entry) (limit : ℕ) (c : Card) (s : State)
    → Checked b → Premises b h entry limit c s
    → (w : Way) (d : Card) → run_card b (bytes_of s.mem xip) limit c ≡ leaves w d
    → Meets b h entry w d s (run (length (block_words b)) h s)
