-- The relation between the card and the A64 machine while a block runs. `s0` is the machine's state at the block's body, with the frame on the stack:
-- what a block leaves alone is as it was there. Each record is over the parts of the state that it speaks of.
use Rattle.std.specs.Prelude.{◌≡◌, ◌≢◌, ◌⊎◌, Bool, true, false, List, [], ◌∷◌, ℕ, ◌+◌, ◌*◌, ◌/◌, ◌%◌, ◌^◌, ◌≤◌, ◌<◌, length, get_or, drop}
use Rattle.std.proofs.Math.Option.{some}
use Rattle.arm.specs.declared.Size.TheVariants.{W, X}
use Rattle.block.specs.declared.Layout.{Layout}
use Rattle.block.specs.declared.Block.{Block}
use Rattle.block.specs.Block.{in_flash}
use Rattle.code.specs.Tree.{Depth, Code}
use Rattle.code.specs.Machine.{Machine, Out, fell, went, left, ended, does}
use Rattle.machine.specs.Bits.{Nzcv}
use Rattle.machine.specs.State.{Region, State, Outcome, Request, code, stack, processor, context, ram, xip, map, table, guards, R}
use Rattle.machine.specs.Memory.{read_le, bytes_of, base_of, size_of, Apart}
use Rattle.machine.specs.Execute.{Helpers}
use Rattle.machine.proofs.Regions.{Alike}
use Rattle.card.specs.Card.{Card, reg}
use Rattle.card.specs.Step.{Way, exits, chains, looks_up}
use Rattle.lowering.specs.declared.RegCache.{RegCache}
use Rattle.lowering.specs.Cache.{host, off_reg}
use Rattle.lowering.specs.Compile.{starts}
use Rattle.demand.specs.Outside.{all_arm, all_card}
use Rattle.demand.specs.Premises.{ram_guards, Guarded}
use Rattle.demand.specs.Claim.{Outside, guest_at, body_at, slot_of}
use Rattle.relation.specs.Lines.{Stop, returns, jumps, fails, arm}
use Rattle.relation.specs.Abs.{Abs, Then, go, off, void}

-- the number in the record's pc
abbrev pub pc_of : Block → State → ℕ
pc_of b s = read_le (bytes_of s.mem processor) b.layout.pc 4

-- ---- what a host register serves for: 0 a temporary, 1 a slot, 2 left alone, 3 not used, 4 the done count
unfoldable pub cls : ℕ → ℕ
cls k =
    get_or (0 ∷ 0 ∷ 0 ∷ 0 ∷ 0 ∷ 1 ∷ 1 ∷ 1 ∷ 1 ∷ 0 ∷ 0 ∷ 0 ∷ 0 ∷ 0 ∷ 1 ∷ 1 ∷ 1 ∷ 1 ∷ 3 ∷ 2 ∷ 2 ∷ 2 ∷ 2 ∷ 0 ∷ 0 ∷ 2 ∷ 4 ∷ 2 ∷ 2 ∷ 2 ∷ 3 ∷ []) k 3

-- ---- the premises at the body that do not change in a run
pub record Body (b : Block) (h : Helpers) (s : State) : Type 0 where
  pub registers : length s.x ≡ 31
  pub regions : guards ≤ length s.mem
  pub apart : Apart s.mem
  pub x19 : R X s 19 ≡ base_of s.mem processor
  pub x20 : R X s 20 ≡ base_of s.mem context
  pub x21 : R X s 21 ≡ base_of s.mem ram
  pub x22 : R X s 22 ≡ base_of s.mem xip
  pub x25 : b.memory.map ≡ true → R X s 25 ≡ base_of s.mem map
  pub regs_in : b.layout.regs + 64 ≤ size_of s.mem processor
  pub sp_in : b.layout.sp + 4 ≤ size_of s.mem processor
  pub rets_in : b.layout.rets + 4 ≤ size_of s.mem processor
  pub pc_in : b.layout.pc + 4 ≤ size_of s.mem processor
  pub hold_in : b.layout.hold + 4 ≤ size_of s.mem processor
  pub context_in : 48 ≤ size_of s.mem context
  pub ram-size : size_of s.mem ram ≡ b.memory.ram_len
  pub xip-size : size_of s.mem xip ≡ b.memory.xip_len
  pub map_in : b.memory.map ≡ true → (o : ℕ) → o < b.memory.ram_len → o / 4 < size_of s.mem map
  pub table_in : 262144 ≤ size_of s.mem table
  pub table-at : base_of s.mem table ≡ b.addresses.table
  pub reads : h.h-read ≡ b.addresses.h_read
  pub writes : h.h-write ≡ b.addresses.h_write
  pub differ : h.h-write ≢ h.h-read
  pub guard-sizes : (k : ℕ) → guards ≤ k → k < length s.mem → 8 ≤ size_of s.mem k
  pub guarded : in_flash b.pc0 ≡ false → Guarded b.guard h s
  pub sp_at : base_of s.mem stack ≤ s.sp
  pub frame_in : s.sp + 96 ≤ base_of s.mem stack + size_of s.mem stack

-- ---- parts of the relation
-- an outcome: the break word is a word, and RAM and map have their sizes
pub record Good (s0 : State) (o : Outcome) : Type 0 where
  pub brk_lt : o.brk < 2 ^ 32
  pub ram-len : length o.ram ≡ size_of s0.mem ram
  pub map-len : length o.map ≡ size_of s0.mem map
  pub version_lt : o.version < 2 ^ 64
  pub guards_lt : (k : ℕ) → get_or o.guards k 0 < 2 ^ 64

abbrev pub Goods : State → List Outcome → Type 0
Goods s0 [] = Unit {0}
Goods s0 (o ∷ os) = Good s0 o × Goods s0 os

-- the card's numbers are words
pub record Small (c : Card) : Type 0 where
  pub count : length c.regs ≡ 16
  pub regs_lt : (r : ℕ) → reg c r < 2 ^ 32
  pub sp_lt : c.sp < 2 ^ 32
  pub rets_lt : c.rets < 2 ^ 32
  pub hold_lt : c.hold < 2 ^ 32
  pub brk_lt : c.brk < 2 ^ 32
  pub pc_lt : c.pc < 2 ^ 32

-- registers that are left alone, and sp
pub record Fixed (s0 s : State) : Type 0 where
  pub registers : length s.x ≡ 31
  pub keeps : (k : ℕ) → cls k ≡ 2 → get_or s.x k 0 ≡ get_or s0.x k 0
  pub sp : s.sp ≡ s0.sp

-- the processor record, registers apart: pc is the number in its field
pub record Fields (lay : Layout) (c : Card) (pc : ℕ) (start now : List ℕ) : Type 0 where
  pub sp_is : read_le now lay.sp 4 ≡ c.sp
  pub rets_is : read_le now lay.rets 4 ≡ c.rets
  pub hold_is : read_le now lay.hold 4 ≡ c.hold
  pub pc_is : read_le now lay.pc 4 ≡ pc
  pub outside : (o : ℕ) → Outside lay o → get_or now o 0 ≡ get_or start o 0

-- the context: the break word at byte 24, the slot at byte 32, the version at byte 40
pub record Context (c : Card) (slot : ℕ) (start now : List ℕ) : Type 0 where
  pub brk_is : read_le now 24 4 ≡ c.brk
  pub slot_is : read_le now 32 8 ≡ slot
  pub version_is : read_le now 40 8 ≡ c.version
  pub outside : (o : ℕ) → (o < 24) ⊎ (28 ≤ o) → (o < 32) ⊎ (48 ≤ o) → get_or now o 0 ≡ get_or start o 0

-- the regions that are not the processor record and not the context
pub record Others (c : Card) (m m' : List Region) : Type 0 where
  pub alike : Alike m m'
  pub code_is : bytes_of m' code ≡ bytes_of m code
  pub stack_is : bytes_of m' stack ≡ bytes_of m stack
  pub ram_is : bytes_of m' ram ≡ c.ram
  pub xip_is : bytes_of m' xip ≡ bytes_of m xip
  pub map_is : bytes_of m' map ≡ c.map
  pub table_is : bytes_of m' table ≡ bytes_of m table
  pub guards_are : ram_guards (drop guards m') ≡ c.guards
  pub guards_is : (k o : ℕ) → guards ≤ k → 8 ≤ o → get_or (bytes_of m' k) o 0 ≡ get_or (bytes_of m k) o 0

pub record Io (s0 : State) (c : Card) (outcomes : List Outcome) (requests : List Request) : Type 0 where
  pub outcomes_are : c.outcomes ≡ all_card outcomes
  pub requests_are : requests ≡ all_arm c.requests
  pub goods : Goods s0 outcomes

-- all of it but the registers and the temporaries
pub record Kept (b : Block) (s0 : State) (c : Card) (pc slot : ℕ) (s : State) : Type 0 where
  pub fixed : Fixed s0 s
  pub fields : Fields b.layout c pc (bytes_of s0.mem processor) (bytes_of s.mem processor)
  pub ctx : Context c slot (bytes_of s0.mem context) (bytes_of s.mem context)
  pub others : Others c s0.mem s.mem
  pub io : Io s0 c s.outcomes s.requests
  pub small : Small c

-- ---- the register cache: slot i holds guest register g i, and its copy in the record is behind where d i
pub record Cached (lay : Layout) (g : ℕ → ℕ) (d : ℕ → Bool) (c : Card) (s : State) : Type 0 where
  pub held : (i : ℕ) → i < 8 → g i < 16 → R W s (host i) ≡ reg c (g i)
  pub home : (r : ℕ) → r < 16 → ((i : ℕ) → i < 8 → g i ≡ r → d i ≡ false) → read_le (bytes_of s.mem processor) (off_reg lay r) 4 ≡ reg c r
  pub uniq : (i j : ℕ) → i < 8 → j < 8 → g i < 16 → g i ≡ g j → i ≡ j

abbrev pub guest_of : RegCache → ℕ → ℕ
guest_of rc i = get_or rc.guest i 16

abbrev pub dirty_of : RegCache → ℕ → Bool
dirty_of rc i = get_or rc.dirty i false

-- eight slots, each with a guest register or free; a free one is not behind
pub record Slots (rc : RegCache) : Type 0 where
  pub guests : length rc.guest ≡ 8
  pub dirties : length rc.dirty ≡ 8
  pub guest_le : (i : ℕ) → guest_of rc i ≤ 16
  pub clean : (i : ℕ) → guest_of rc i ≡ 16 → dirty_of rc i ≡ false

-- ---- the relation: the record's pc is the old number until the block leaves
pub record Sim (b : Block) (s0 : State) (rc : RegCache) (a : Abs) (s : State) : Type 0 where
  pub kept : Kept b s0 a.c (pc_of b s0) (slot_of s0) s
  pub slots : Slots rc
  pub cached : Cached b.layout (guest_of rc) (dirty_of rc) a.c s
  pub temps : (k v : ℕ) → cls k ≡ 0 → a.t k ≡ some v → R W s k ≡ v
  pub flags : (g : Nzcv) → a.f ≡ some g → s.nzcv ≡ g
  pub done_is : R W s 26 ≡ a.c.done

-- every guest register is in the processor record
pub record Home (b : Block) (c : Card) (s : State) : Type 0 where
  pub regs_are : (r : ℕ) → r < 16 → read_le (bytes_of s.mem processor) (off_reg b.layout r) 4 ≡ reg c r

-- ---- leaving
-- what the slot holds: the site's address where a chain is left by, else what it held
abbrev pub slot_after : State → Way → (site : ℕ) → ℕ
slot_after s0 exits site = slot_of s0
slot_after s0 (chains k) site = site
slot_after s0 looks_up site = slot_of s0

-- a lookup returns where the table has not the pc
abbrev pub Missed : State → Way → ℕ → Type 0
Missed s0 exits pc = Unit {0}
Missed s0 (chains k) pc = Unit {0}
Missed s0 looks_up pc = guest_at s0 pc ≢ pc

-- at the common exit: pc is in the record's field and the count in w0
pub record AtExit (b : Block) (s0 : State) (w : Way) (c : Card) (site : ℕ) (s : State) : Type 0 where
  pub kept : Kept b s0 c c.pc (slot_after s0 w site) s
  pub home : Home b c s
  pub done_is : R W s 0 ≡ c.done
  pub missed : Missed s0 w c.pc

-- at the jump to a table's body: pc is in w12 and the count in w26, and the record's field holds the old number
pub record AtBody (b : Block) (s0 : State) (c : Card) (to : ℕ) (s : State) : Type 0 where
  pub kept : Kept b s0 c (pc_of b s0) (slot_of s0) s
  pub home : Home b c s
  pub pc_is : R W s 12 ≡ c.pc
  pub done_is : R W s 26 ≡ c.done
  pub found : guest_at s0 c.pc ≡ c.pc
  pub to_is : to ≡ body_at s0 c.pc

abbrev pub ByTable : Block → State → Way → Card → Stop → Type 0
ByTable b s0 looks_up c (jumps to s) = AtBody b s0 c to s
ByTable b s0 looks_up c (returns to s) = ⊥
ByTable b s0 looks_up c fails = ⊥
ByTable b s0 exits c r = ⊥
ByTable b s0 (chains k) c r = ⊥

-- code that leaves so; site: the address of its chain site
abbrev pub Leaves : {n : Depth} → Block → State → Way → Card → (site : ℕ) → Out State Stop n → Type 0
Leaves b s0 w c site (fell s) = ⊥
Leaves b s0 w c site (went v s) = ⊥
Leaves b s0 w c site (left s) = AtExit b s0 w c site s
Leaves b s0 w c site (ended r) = ByTable b s0 w c r

-- ---- what code does, from any position
-- it falls off its end
pub record Frag (M : Machine) {n : Depth} (f : Code n) (A B : M.State → Type 0) : Type 0 where
  pub runs : (p : ℕ) (s : M.State) → A s → (s' : M.State) × (does M f p s ≡ fell s') × B s'

-- which of its sites a chain is
abbrev pub site_of : Way → ℕ
site_of exits = 0
site_of (chains k) = k
site_of looks_up = 0

-- it leaves
pub record Outs (h : Helpers) (base : ℕ) (b : Block) (s0 : State) {n : Depth} (f : Code n) (A : State → Type 0) (w : Way) (c : Card) : Type 0 where
  pub leaves : (p : ℕ) (s : State) → A s → Leaves b s0 w c ((base + 4 * get_or (starts f p) (site_of w) 0) % 2 ^ 64) (does (arm h base) f p s)

-- what a step's code is to do where the machine between makes r of the step
abbrev pub Meets : Helpers → (base : ℕ) → Block → (s0 : State) → RegCache → Abs → {n : Depth} → Code n → RegCache → Then → Type 0
Meets h base b s0 rc a f rc' (go a') = Frag (arm h base) f (Sim b s0 rc a) (Sim b s0 rc' a')
Meets h base b s0 rc a f rc' (off w c) = Outs h base b s0 f (Sim b s0 rc a) w c
Meets h base b s0 rc a f rc' void = Unit {0}
