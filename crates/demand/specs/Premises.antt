-- "Premises for a run", document 01: its sentences, in its order; and what 2026-06 adds.
use Rattle.std.specs.Prelude.{◌≡◌, ◌≢◌, ◌⊎◌, true, false, List, [], ◌∷◌, ℕ, ◌+◌, ◌*◌, ◌/◌, ◌%◌, ◌^◌, ◌≤◌, ◌<◌, length, get_or, drop}
use Rattle.arm.specs.declared.Size.TheVariants.{W, X}
use Rattle.block.specs.declared.Layout.{Layout}
use Rattle.block.specs.declared.Guard.{Guard}
use Rattle.block.specs.declared.Block.{Block}
use Rattle.block.specs.Block.{in_flash}
use Rattle.machine.specs.State.{Region, State, Outcome, code, stack, processor, context, ram, xip, map, table, guards, R}
use Rattle.machine.specs.Memory.{read_le, bytes_of_words, bytes_of, base_of, size_of, Apart}
use Rattle.machine.specs.Execute.{Helpers}
use Rattle.card.specs.Card.{RamGuard, Card, reg}
use Rattle.card.specs.Run.{stopped}
use Rattle.card.specs.Run.{run as run_card}
use Rattle.lowering.specs.Compile.{block_words, body_offset}
use Rattle.demand.specs.Outside.{all_card}

-- "Start at the first word .. or at the body"
pub data Entry : Type 0 where
  first body : Entry

-- "AAPCS64 arguments as `compile` moves them, done count 0", with room for the frame below sp
pub record AtFirst (b : Block) (limit : ℕ) (c : Card) (s : State) : Type 0 where
  pub pc : s.pc ≡ base_of s.mem code
  pub x0 : R X s 0 ≡ base_of s.mem processor
  pub x1 : R X s 1 ≡ base_of s.mem context
  pub x2 : R X s 2 ≡ base_of s.mem ram
  pub x3 : R X s 3 ≡ base_of s.mem xip
  pub w4 : R W s 4 ≡ limit
  pub x5 : b.memory.map ≡ true → R X s 5 ≡ base_of s.mem map
  pub done : c.done ≡ 0
  pub room : base_of s.mem stack + 96 ≤ s.sp
  pub inside : s.sp ≤ base_of s.mem stack + size_of s.mem stack

-- "at the body with those registers set and the frame on the stack as the opening words store it"
pub record AtBody (b : Block) (limit : ℕ) (c : Card) (s : State) : Type 0 where
  pub pc : s.pc ≡ base_of s.mem code + body_offset
  pub x19 : R X s 19 ≡ base_of s.mem processor
  pub x20 : R X s 20 ≡ base_of s.mem context
  pub x21 : R X s 21 ≡ base_of s.mem ram
  pub x22 : R X s 22 ≡ base_of s.mem xip
  pub w26 : R W s 26 ≡ c.done
  pub w27 : R W s 27 ≡ limit
  pub x25 : b.memory.map ≡ true → R X s 25 ≡ base_of s.mem map
  pub room : base_of s.mem stack ≤ s.sp
  pub inside : s.sp + 96 ≤ base_of s.mem stack + size_of s.mem stack

abbrev pub Starts : Entry → Block → (limit : ℕ) → Card → State → Type 0
Starts first b limit c s = AtFirst b limit c s
Starts body b limit c s = AtBody b limit c s

-- the processor record holds the card's registers, sp, rets, hold and pc at the places of field 01
pub record Held (lay : Layout) (c : Card) (bytes : List ℕ) : Type 0 where
  pub regs : (r : ℕ) → r < 16 → read_le bytes (lay.regs + 4 * r) 4 ≡ reg c r
  pub sp : read_le bytes lay.sp 4 ≡ c.sp
  pub rets : read_le bytes lay.rets 4 ≡ c.rets
  pub hold : read_le bytes lay.hold 4 ≡ c.hold
  pub pc : read_le bytes lay.pc 4 ≡ c.pc

-- the places of field 01 are in the processor record
pub record PlacesIn (lay : Layout) (size : ℕ) : Type 0 where
  pub regs : lay.regs + 64 ≤ size
  pub sp : lay.sp + 4 ≤ size
  pub rets : lay.rets + 4 ≤ size
  pub pc : lay.pc + 4 ≤ size
  pub hold : lay.hold + 4 ≤ size

-- an address in none of the places
abbrev pub Elsewhere : State → ℕ → Type 0
Elsewhere s a = (i : ℕ) → i < length s.mem → (a < base_of s.mem i) ⊎ (base_of s.mem i + size_of s.mem i ≤ a)

-- ---- guards
-- the regions behind the first eight as guards: each at its address, its version the eight bytes from byte 0 on
abbrev pub ram_guards : List Region → List RamGuard
ram_guards [] = []
ram_guards (r ∷ rs) = record { at = r.base; version = read_le r.bytes 0 8 } ∷ ram_guards rs

-- a RAM block: its guard is one of them, and "helper addresses differ from each other and lie in none of these" of `h_ram_ok` too
pub record Guarded (g : Guard) (h : Helpers) (s : State) : Type 0 where
  pub region : ℕ
  pub from : guards ≤ region
  pub inside : region < length s.mem
  pub at : base_of s.mem region ≡ g.at
  pub h-ram-ok : h.h-ram-ok ≡ g.h_ram_ok
  pub differ-read : h.h-ram-ok ≢ h.h-read
  pub differ-write : h.h-ram-ok ≢ h.h-write
  pub elsewhere : Elsewhere s h.h-ram-ok

-- "the break word, RAM and map afterwards", and the versions: the context's, and those of the guards in their order, as many as it gives
pub record OutcomeFits (s : State) (o : Outcome) : Type 0 where
  pub brk : o.brk < 2 ^ 32
  pub ram : length o.ram ≡ size_of s.mem ram
  pub map : length o.map ≡ size_of s.mem map
  pub version : o.version < 2 ^ 64
  pub guards_lt : (k : ℕ) → get_or o.guards k 0 < 2 ^ 64

abbrev pub AllFit : State → List Outcome → Type 0
AllFit s [] = Unit {0}
AllFit s (o ∷ os) = OutcomeFits s o × AllFit s os

-- for a run of these words
pub record PremisesOn (ws : List ℕ) (b : Block) (h : Helpers) (entry : Entry) (limit : ℕ) (c : Card) (s : State) : Type 0 where
  -- the machine has 31 general registers, eight regions and the guards, and has counted nothing; sp is a 64-bit number
  pub registers : length s.x ≡ 31
  pub regions : guards ≤ length s.mem
  pub count : s.count ≡ 0
  pub sp_lt : s.sp < 2 ^ 64
  -- "its words as they were written"
  pub words : bytes_of s.mem code ≡ bytes_of_words ws
  -- "given .. the same start": the card's state stands in the machine's memory
  pub sixteen : length c.regs ≡ 16
  pub held : Held b.layout c (bytes_of s.mem processor)
  pub ram_is : bytes_of s.mem ram ≡ c.ram
  pub map_is : bytes_of s.mem map ≡ c.map
  pub brk_is : read_le (bytes_of s.mem context) 24 4 ≡ c.brk
  pub version_is : read_le (bytes_of s.mem context) 40 8 ≡ c.version
  pub guards_are : ram_guards (drop guards s.mem) ≡ c.guards
  pub none_yet : s.requests ≡ []
  pub none_yet-card : c.requests ≡ []
  -- "Start at the first word .. or at the body"
  pub starts : Starts entry b limit c s
  -- "Done count plus operations is below 2^32."
  pub done_lt : c.done + b.n < 2 ^ 32
  -- "Arm's sp is 16-aligned"
  pub aligned : s.sp % 16 ≡ 0
  -- "Code, stack, processor record, context, RAM, XIP, code map and jump table lie apart"; "the guard record lies apart from the rest"
  pub apart : Apart s.mem
  pub places : PlacesIn b.layout (size_of s.mem processor)
  pub ram-size : size_of s.mem ram ≡ b.memory.ram_len
  pub xip-size : size_of s.mem xip ≡ b.memory.xip_len
  -- "The code map (one byte per 4 RAM bytes, rounded up)"
  pub map-size : b.memory.map ≡ true → size_of s.mem map ≡ (b.memory.ram_len + 3) / 4
  -- "the code's address is a multiple of 4"
  pub code-aligned : base_of s.mem code % 4 ≡ 0
  -- "helper addresses differ from each other and lie in none of these"
  pub h-read : h.h-read ≡ b.addresses.h_read
  pub h-write : h.h-write ≡ b.addresses.h_write
  pub differ : h.h-write ≢ h.h-read
  pub read-elsewhere : Elsewhere s h.h-read
  pub write-elsewhere : Elsewhere s h.h-write
  -- a guard has its version
  pub guard-sizes : (k : ℕ) → guards ≤ k → k < length s.mem → 8 ≤ size_of s.mem k
  pub guarded : in_flash b.pc0 ≡ false → Guarded b.guard h s
  -- "The outside is a list of outcomes, long enough": the card does not stop for want of one
  pub outcomes : c.outcomes ≡ all_card s.outcomes
  pub fit : AllFit s s.outcomes
  pub enough : (d : Card) → run_card b (bytes_of s.mem xip) limit c ≢ stopped d
  -- "The context has the break word at byte 24 and the slot at byte 32", and the version at byte 40
  pub context-size : 48 ≤ size_of s.mem context
  -- "The jump table has 16,384 entries of 16 bytes"
  pub table-size : size_of s.mem table ≡ 16384 * 16
  pub table-at : base_of s.mem table ≡ b.addresses.table

-- for a run of the block's
abbrev pub Premises : Block → Helpers → Entry → (limit : ℕ) → Card → State → Type 0
Premises b h entry limit c s = PremisesOn (block_words b) b h entry limit c s
