-- The machine's state, what the outside is asked and answers, and the views of the registers.
use Rattle.std.specs.Prelude.{cond, List, ℕ, ◌+◌, ◌%◌, ◌^◌, eqb, get_or, set}
use Rattle.arm.specs.Instr.{bits}
use Rattle.machine.specs.Isa.{Size}
use Rattle.machine.specs.Bits.{Nzcv}

-- so many bytes from an address on
pub record Region : Type 0 where
  pub base : ℕ
  pub bytes : List ℕ

-- "A read request is address .., width and done count plus the operation's position; a write request adds all 32 bits of the value".
-- 2026-06: "the guard's address is the request"
pub data Request : Type 0 where
  read : (address width done : ℕ) → Request
  write : (address width done value : ℕ) → Request
  guard : (address : ℕ) → Request

-- "an answer that fits the width, the break word, RAM and map afterwards, and any values whatever for the other registers and
-- flags that a call alters": registers 0 to 18 and register 30. 2026-06: "Outcomes now give the versions afterwards too": the
-- context's, and those of the guards
pub record Outcome : Type 0 where
  pub answer : ℕ
  pub brk : ℕ
  pub ram : List ℕ
  pub map : List ℕ
  pub version : ℕ
  pub guards : List ℕ
  pub scratch : List ℕ
  pub link : ℕ
  pub nzcv : Nzcv

pub record State : Type 0 where
  pub x : List ℕ  -- X0 to X30
  pub sp : ℕ
  pub nzcv : Nzcv
  pub pc : ℕ
  pub mem : List Region
  pub outcomes : List Outcome
  pub requests : List Request
  pub count : ℕ  -- instructions executed

-- ---- "Code, stack, processor record, context, RAM, XIP, code map and jump table": the places of the regions in `mem`
abbrev pub code : ℕ
code = 0

abbrev pub stack : ℕ
stack = 1

abbrev pub processor : ℕ
processor = 2

abbrev pub context : ℕ
context = 3

abbrev pub ram : ℕ
ram = 4

abbrev pub xip : ℕ
xip = 5

abbrev pub map : ℕ
map = 6

abbrev pub table : ℕ
table = 7

-- "the guard record lies apart from the rest": the guards' records, any number of them, from here on
abbrev pub guards : ℕ
guards = 8

-- ---- registers. There are 31: register 31 reads as zero, and a write to it changes nothing (C1.2.5)
-- X[n], W[n]
abbrev pub R : Size → State → ℕ → ℕ
R z s n = get_or s.x n 0 % 2 ^ bits z

-- SP[] in place of register 31
abbrev pub RSP : Size → State → ℕ → ℕ
RSP z s n = cond (eqb n 31) (s.sp % 2 ^ bits z) (R z s n)

-- ---- a state with one part changed
abbrev pub with_x : ℕ → ℕ → State → State
with_x n v s = record { x = set s.x n v; sp = s.sp; nzcv = s.nzcv; pc = s.pc; mem = s.mem; outcomes = s.outcomes; requests = s.requests; count = s.count }

abbrev pub with_sp : ℕ → State → State
with_sp v s = record { x = s.x; sp = v; nzcv = s.nzcv; pc = s.pc; mem = s.mem; outcomes = s.outcomes; requests = s.requests; count = s.count }

abbrev pub with_flags : Nzcv → State → State
with_flags f s = record { x = s.x; sp = s.sp; nzcv = f; pc = s.pc; mem = s.mem; outcomes = s.outcomes; requests = s.requests; count = s.count }

abbrev pub with_mem : List Region → State → State
with_mem m s = record { x = s.x; sp = s.sp; nzcv = s.nzcv; pc = s.pc; mem = m; outcomes = s.outcomes; requests = s.requests; count = s.count }

-- the program counter moves, and one more instruction is counted
abbrev pub goto : ℕ → State → State
goto a s = record { x = s.x; sp = s.sp; nzcv = s.nzcv; pc = a % 2 ^ 64; mem = s.mem; outcomes = s.outcomes; requests = s.requests; count = s.count + 1 }

-- SP[] in place of register 31
abbrev pub with_xsp : ℕ → ℕ → State → State
with_xsp n v s = cond (eqb n 31) (with_sp v s) (with_x n v s)
