-- A row: the word of an instruction, in what its start differs from the common one, and in what its end differs from its start. The numbers
-- of the ends are those of an independent A64 emulator; of calls and faults, those of documents 01 and 02.
use Rattle.std.specs.Prelude.{List, [], ◌∷◌, ◌++◌, map, ℕ, zero, suc, ◌+◌, ◌*◌, ◌/◌, ◌%◌, ◌^◌, get_or, set, drop}
use Rattle.arm.specs.Decode.{decode, find, size_of, add_sub_of, flags_of, shift_of, move_of, logic_of, second_of, extract_of, one_of, two_of, three_of}
use Rattle.arm.specs.Decode.{select_of, access_of, scale_of, mode_of, pair_of, test_of, jump_of, float_of, convert_of}
use Rattle.machine.specs.Bits.{Nzcv, bit, AddWithCarry, ConditionHolds, SInt, SignExtend, CountLeadingZeroBits}
use Rattle.machine.specs.State as S
use Rattle.machine.specs.State.{Region, Request, Outcome, State}
use Rattle.machine.specs.Memory.{read_le, write_le, within, locate, load, store}
use Rattle.machine.specs.Execute.{Helpers, execute}
use Rattle.machine.specs.Encoders.{encoders, has_encoder}
use Rattle.machine.specs.Machine.{running, at_return, at_jump, fault, Run, fetch, instruction, step}

-- f k, f (k + 1), .., n numbers
abbrev pub counting : (ℕ → ℕ) → (k n : ℕ) → List ℕ
counting f k zero = []
counting f k (suc n) = f k ∷ counting f (suc k) n

-- 8 N + 4 Z + 2 C + V
abbrev pub flags : ℕ → Nzcv
flags f = record { n = bit f 3; z = bit f 2; c = bit f 1; v = bit f 0 }

-- ---- the common start
-- region r from an address on, of n bytes
abbrev pub region : (r base n : ℕ) → Region
region r b n = record { base = b; bytes = counting (λ k. (37 * k + 53 * r + 11) % 256) 0 n }

abbrev pub code_base : ℕ
code_base = 0x2fffffff80

abbrev pub memory : List Region
memory =
    record { base = code_base; bytes = counting (λ k. 0) 0 64 }
    ∷ region S.stack 0x500000100 64
    ∷ region S.processor 0x1000 16
    ∷ region S.context 0x710000000 40
    ∷ region S.ram 0x3fffffffe0 64
    ∷ region S.xip 0x720000000 16
    ∷ region S.map 0x730000000 16
    ∷ region S.table 0x740000000 16
    ∷ []

abbrev pub helpers : Helpers
helpers = record { h-read = 0x600000000; h-write = 0x600000010; h-ram-ok = 0x600000020 }

abbrev pub common : State
common =
    record {
      x = counting (λ n. (n + 1) * 0x9e3779b97f4a7c15 % 2 ^ 64) 0 31;
      sp = 0x500000120;
      nzcv = flags 0;
      pc = code_base;
      mem = memory;
      outcomes = [];
      requests = [];
      count = 0;
    }

-- ---- what differs
pub data Changes : Type 0 where
  same : Changes
  x : (n value : ℕ) → Changes
  sp nzcv pc : (value : ℕ) → Changes
  -- n bytes of a region from a place on, lowest first
  bytes : (region place n value : ℕ) → Changes
  ◌&◌ : Changes → Changes → Changes

infixr 80 ◌&◌
abbrev pub put : List ℕ → (place n value : ℕ) → List ℕ
put l i zero v = l
put l i (suc n) v = put (set l i (v % 256)) (suc i) n (v / 256)

abbrev pub with_bytes : (r : ℕ) → List ℕ → List Region → List Region
with_bytes r l m = set m r (record { base = (get_or m r (region 0 0 0)).base; bytes = l })

abbrev pub put_in : (r place n value : ℕ) → List Region → List Region
put_in r i n v m = with_bytes r (put (get_or m r (region 0 0 0)).bytes i n v) m

abbrev pub like : State → List ℕ → ℕ → Nzcv → ℕ → List Region → State
like s rs p f a m = record { x = rs; sp = p; nzcv = f; pc = a; mem = m; outcomes = s.outcomes; requests = s.requests; count = s.count }

abbrev pub changed : Changes → State → State
changed same s = s
changed (x n v) s = like s (set s.x n v) s.sp s.nzcv s.pc s.mem
changed (sp v) s = like s s.x v s.nzcv s.pc s.mem
changed (nzcv f) s = like s s.x s.sp (flags f) s.pc s.mem
changed (pc a) s = like s s.x s.sp s.nzcv a s.mem
changed (bytes r i n v) s = like s s.x s.sp s.nzcv s.pc (put_in r i n v s.mem)
changed (c & d) s = changed d (changed c s)

-- ---- the outside: an answer, the break word, register 30 and the flags; the rest follows a number
pub data Reply : Type 0 where
  reply : (answer brk link nzcv number : ℕ) → Reply

-- registers 0 to 18, and n bytes of region r
abbrev pub scratch : (answer number : ℕ) → List ℕ
scratch a k = a ∷ counting (λ n. (k + n + 1) * 0xd1b54a32d192ed03 % 2 ^ 64) 1 18

abbrev pub replied : (r number n : ℕ) → List ℕ
replied r k n = counting (λ i. (29 * i + 7 * k + r) % 256) 0 n

abbrev pub outcome : Reply → Outcome
outcome (reply a b l f k) =
    record {
      answer = a;
      brk = b;
      ram = replied S.ram k 64;
      map = replied S.map k 16;
      version = 0;
      guards = [];
      scratch = scratch a k;
      link = l;
      nzcv = flags f;
    }

-- ---- a guard's request (2026-06): the context has its version, and there are two guards
abbrev pub with_guards : List Region → List Region
with_guards m = set m S.context (region S.context 0x710000000 48) ++ (region 8 0x750000000 16 ∷ region 9 0x760000000 16 ∷ [])

-- the versions afterwards: the context's, and those of the guards
pub data Versions : Type 0 where
  versions : (context first second : ℕ) → Versions

abbrev pub giving : Versions → Outcome → Outcome
giving (versions v g h) o =
    record {
      answer = o.answer;
      brk = o.brk;
      ram = o.ram;
      map = o.map;
      version = v;
      guards = g ∷ h ∷ [];
      scratch = o.scratch;
      link = o.link;
      nzcv = o.nzcv;
    }

abbrev pub given : Versions → List Region → List Region
given (versions v g h) m = put_in 9 0 8 h (put_in 8 0 8 g (put_in S.context 40 8 v m))

-- ---- rows: the word stands at place k of the code, in words
pub data Row : Type 0 where
  runs returns jumps : (k word : ℕ) → (start end : Changes) → Row
  faults : (number k word : ℕ) → (start : Changes) → Row
  calls : (k word : ℕ) → (start : Changes) → Request → Reply → (left : List Reply) → Row
  asks : (k word : ℕ) → (start : Changes) → (guard : ℕ) → Reply → Versions → Row

abbrev pub starting : (k word : ℕ) → Changes → List Reply → State
starting k w c rs =
    let s : State = changed (pc (code_base + 4 * k) & bytes S.code (4 * k) 4 w & c) common in
    record { x = s.x; sp = s.sp; nzcv = s.nzcv; pc = s.pc; mem = s.mem; outcomes = map outcome rs; requests = []; count = 0 }

abbrev pub asking : (k word : ℕ) → Changes → Reply → Versions → State
asking k w c r v =
    let s : State = starting k w c [] in
    record {
      x = s.x;
      sp = s.sp;
      nzcv = s.nzcv;
      pc = s.pc;
      mem = with_guards s.mem;
      outcomes = giving v (outcome r) ∷ [];
      requests = [];
      count = 0;
    }

abbrev pub start : Row → State
start (runs k w c e) = starting k w c []
start (returns k w c e) = starting k w c []
start (jumps k w c e) = starting k w c []
start (faults f k w c) = starting k w c []
start (calls k w c q r rs) = starting k w c (r ∷ rs)
start (asks k w c a r v) = asking k w c r v

-- one instruction later
abbrev pub passed : State → State
passed s =
    record { x = s.x; sp = s.sp; nzcv = s.nzcv; pc = s.pc + 4; mem = s.mem; outcomes = s.outcomes; requests = s.requests; count = 1 }

-- a call's end: registers 19 to 29 and sp are kept
abbrev pub answered : Request → Reply → List Reply → State → State
answered q (reply a b l f k) rs s =
    record {
      x = set (scratch a k ++ drop 19 s.x) 30 l;
      sp = s.sp;
      nzcv = flags f;
      pc = s.pc + 4;
      mem = with_bytes S.map (replied S.map k 16) (with_bytes S.ram (replied S.ram k 64) (put_in S.context 24 4 b s.mem));
      outcomes = map outcome rs;
      requests = q ∷ [];
      count = 1;
    }

-- the same with the versions afterwards
abbrev pub answered_with : Versions → State → State
answered_with v s = like s s.x s.sp s.nzcv s.pc (given v s.mem)

abbrev pub ends : Row → Run
ends (runs k w c e) = record { status = running; state = changed e (passed (starting k w c [])) }
ends (returns k w c e) = record { status = at_return; state = changed e (passed (starting k w c [])) }
ends (jumps k w c e) = record { status = at_jump; state = changed e (passed (starting k w c [])) }
ends (faults f k w c) = record { status = fault f; state = starting k w c [] }
ends (calls k w c q r rs) = record { status = running; state = answered q r rs (starting k w c (r ∷ rs)) }
ends (asks k w c a r v) = record { status = running; state = answered_with v (answered (S.guard a) r [] (asking k w c r v)) }

-- ---- one step of the machine
unfoldable pub stepped : Row → Run
unfolding
    step fetch instruction execute has_encoder encoders load store locate within read_le write_le AddWithCarry ConditionHolds SInt SignExtend
    CountLeadingZeroBits decode find size_of add_sub_of flags_of shift_of move_of logic_of second_of extract_of one_of two_of three_of select_of access_of
    scale_of mode_of pair_of test_of jump_of float_of convert_of
stepped r = step helpers (start r)

-- ---- lists of rows
-- 18, whatever the state
abbrev pub no_encoder : (words : List ℕ) → List Row
no_encoder = map (λ w. faults 18 0 w same)

abbrev pub reached : List Row → List Run
reached = map stepped

abbrev pub expected : List Row → List Run
expected = map ends
