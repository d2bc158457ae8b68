-- The card's state. Document 01: "It keeps registers, sp, rets, hold, RAM, map, break word, pc, done count and requests." 2026-06 adds the
-- versions: the context's, and that of each guard.
use Rattle.std.specs.Prelude.{cond, List, [], ◌∷◌, ◌++◌, ℕ, ◌+◌, ◌%◌, eqb, get_or, set}
use Rattle.card.specs.Kinds.{Base, Reg, Sp, Rk, RkReg, RkImm, RkBit}
use Rattle.card.specs.Word.{plus, shl}

-- "A read request is address (a halfword's lowest bit kept), width and done count plus the operation's position; a write request
-- adds all 32 bits of the value." 2026-06: "the guard's address is the request"
pub data Request : Type 0 where
  read : (address width done : ℕ) → Request
  write : (address width done value : ℕ) → Request
  guard : (address : ℕ) → Request

-- "The outside is a list of outcomes .. : an answer that fits the width, the break word, RAM and map afterwards". What else a call
-- alters is not the card's. 2026-06: "Outcomes now give the versions afterwards too": the context's,
-- and those of the guards in their order; a guard that is given none keeps its own.
pub record Outcome : Type 0 where
  pub answer : ℕ
  pub brk : ℕ
  pub ram : List ℕ
  pub map : List ℕ
  pub version : ℕ
  pub guards : List ℕ

-- a guard: its address, and the version at its byte 0
pub record RamGuard : Type 0 where
  pub at : ℕ
  pub version : ℕ

-- RAM and map as bytes. pc and done stand as at the start until the block leaves. The outcomes are those not yet met.
pub record Card : Type 0 where
  pub regs : List ℕ
  pub sp : ℕ
  pub rets : ℕ
  pub hold : ℕ
  pub ram : List ℕ
  pub map : List ℕ
  pub brk : ℕ
  pub version : ℕ
  pub guards : List RamGuard
  pub pc : ℕ
  pub done : ℕ
  pub requests : List Request
  pub outcomes : List Outcome

abbrev pub reg : Card → ℕ → ℕ
reg c r = get_or c.regs r 0

-- a base: register or sp
abbrev pub base_of : Card → Base → ℕ
base_of c (Reg r) = reg c r
base_of c Sp = c.sp

-- rk and mk: a register, a number, or the bit that a register names; a register is the low 4 bits of rv or mv
abbrev pub rhs : Card → Rk → ℕ → ℕ
rhs c RkReg v = reg c (v % 16)
rhs c RkImm v = v
rhs c RkBit v = shl 1 (reg c (v % 16))

-- ---- a card with one part changed
abbrev pub set_reg : ℕ → ℕ → Card → Card
set_reg d v c = record { regs = set c.regs d v; sp = c.sp; rets = c.rets; hold = c.hold; ram = c.ram; map = c.map; brk = c.brk; version = c.version; guards = c.guards; pc = c.pc; done = c.done; requests = c.requests; outcomes = c.outcomes }

abbrev pub set_sp : ℕ → Card → Card
set_sp v c = record { regs = c.regs; sp = v; rets = c.rets; hold = c.hold; ram = c.ram; map = c.map; brk = c.brk; version = c.version; guards = c.guards; pc = c.pc; done = c.done; requests = c.requests; outcomes = c.outcomes }

abbrev pub set_rets : ℕ → Card → Card
set_rets v c = record { regs = c.regs; sp = c.sp; rets = v; hold = c.hold; ram = c.ram; map = c.map; brk = c.brk; version = c.version; guards = c.guards; pc = c.pc; done = c.done; requests = c.requests; outcomes = c.outcomes }

abbrev pub set_hold : ℕ → Card → Card
set_hold v c = record { regs = c.regs; sp = c.sp; rets = c.rets; hold = v; ram = c.ram; map = c.map; brk = c.brk; version = c.version; guards = c.guards; pc = c.pc; done = c.done; requests = c.requests; outcomes = c.outcomes }

abbrev pub set_ram : List ℕ → Card → Card
set_ram l c = record { regs = c.regs; sp = c.sp; rets = c.rets; hold = c.hold; ram = l; map = c.map; brk = c.brk; version = c.version; guards = c.guards; pc = c.pc; done = c.done; requests = c.requests; outcomes = c.outcomes }

-- ---- versions
-- that of the guard at an address
abbrev pub version_at : List RamGuard → ℕ → ℕ
version_at [] a = 0
version_at (g ∷ gs) a = cond (eqb g.at a) g.version (version_at gs a)

-- the guards with the versions afterwards, as many as are given
abbrev pub versioned : List RamGuard → List ℕ → List RamGuard
versioned [] vs = []
versioned (g ∷ gs) [] = g ∷ gs
versioned (g ∷ gs) (v ∷ vs) = record { at = g.at; version = v } ∷ versioned gs vs

-- a request, and what its outcome leaves: "the break word, RAM and map afterwards", and the versions
abbrev pub asked : Request → Outcome → List Outcome → Card → Card
asked q o os c = record { regs = c.regs; sp = c.sp; rets = c.rets; hold = c.hold; ram = o.ram; map = o.map; brk = o.brk; version = o.version; guards = versioned c.guards o.guards; pc = c.pc; done = c.done; requests = c.requests ++ (q ∷ []); outcomes = os }

-- "pc ends as a taken jump's target, else as the block's address plus the guest lengths run; done has grown by the operations run."
abbrev pub arrive : (pc run : ℕ) → Card → Card
arrive p n c = record { regs = c.regs; sp = c.sp; rets = c.rets; hold = c.hold; ram = c.ram; map = c.map; brk = c.brk; version = c.version; guards = c.guards; pc = p; done = plus c.done n; requests = c.requests; outcomes = c.outcomes }

abbrev pub add_reg : ℕ → ℕ → Card → Card
add_reg r v c = set_reg r (plus (reg c r) v) c

abbrev pub add_sp : ℕ → Card → Card
add_sp v c = set_sp (plus c.sp v) c
