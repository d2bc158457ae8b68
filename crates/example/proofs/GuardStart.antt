-- A RAM block, and a start of the card and of the machine for it, at the first word: the guard's version and the context's differ in the
-- high half alone, and the helper answers what is asked of it here.
-- Assumes nothing.
use mathlib.Core.Path.{◌≡◌, refl}
use mathlib.Core.Bool.{true, false}
use mathlib.Core.List.{List, [], ◌∷◌, ◌++◌}
use Prim.Native.Nat.{ℕ, ◌+◌, ◌*◌, ◌^◌}
use lib.ListN.{replicate}
use Rattle.block.specs.declared.Fast.TheVariants.{AddRI}
use Rattle.block.specs.declared.BOp.{BOp}
use Rattle.block.specs.declared.Addresses.{Addresses}
use Rattle.block.specs.declared.Guard.{Guard}
use Rattle.block.specs.declared.Block.{Block}
use Rattle.code.specs.Items.{index, add, halves, pad_of, base_of}
use Rattle.code.specs.Tree.{words, lines, instrs, whole_lines, pool_in, find_in, lines_words}
use Rattle.lowering.specs.Instrs.{mov32}
use Rattle.lowering.specs.Cache.{position, latest, oldest, chosen, spill, slot_for, seated, ld_reg, st_reg, stored, flush_from, flush}
use Rattle.lowering.specs.Cache.{reload_from, reload}
use Rattle.lowering.specs.Steps.{lowered, op_steps, ops_steps, block_steps}
use Rattle.lowering.specs.Fragments.{add_imm, brk_first, even, loads, try_region, extended, align_test, map_test, stores, call, exit_imm, chain}
use Rattle.lowering.specs.Fragments.{ind, hold, check_brk, fork, limit, guard, load, store, step_code, step_cache, steps_code, opening, closing}
use Rattle.lowering.specs.Compile.{block_words, block_lines, block_code, sites, starts}
use Rattle.machine.specs.State.{Region, Outcome, State}
use Rattle.machine.specs.Execute.{Helpers}
use Rattle.card.specs.Card.{Card, Request}
use Rattle.card.specs.Card.{Outcome as CardOutcome}
use Rattle.demand.specs.Outside.{all_card}
use Rattle.example.proofs.Common.{block_at, memory_of, start_of}

-- a sum, in the fifth word of RAM
abbrev pub ops : List BOp
ops = record { fast = AddRI 0 0 1; len = 2; glue = false } ∷ []

abbrev pub addresses : Addresses
addresses = record { h_read = 0xa00000; h_write = 0xb00000; table = 0x800000 }

abbrev pub guard_at : Guard
guard_at = record { at = 0x900000; h_ram_ok = 0xc00000 }

abbrev pub block : Block
block = block_at 0x20000010 addresses guard_at false ops

abbrev pub helpers : Helpers
helpers = record { h-read = 0xa00000; h-write = 0xb00000; h-ram-ok = 0xc00000 }

unfoldable pub listing : List ℕ
listing =
    0xa9ba7bfd ∷ 0xa90153f3 ∷ 0xa9025bf5 ∷ 0xa90363f7 ∷ 0xa9046bf9 ∷ 0xa90573fb ∷ 0xaa0003f3 ∷ 0xaa0103f4
    ∷ 0xaa0203f5 ∷ 0xaa0303f6 ∷ 0x2a0403fb ∷ 0xaa0503f9 ∷ 0x5280001a ∷ 0x11000749 ∷ 0x6b1b013f ∷ 0x540000c9
    ∷ 0x52800209 ∷ 0x72a40009 ∷ 0xb9004a69 ∷ 0x11000340 ∷ 0x1400001d ∷ 0xf9401689 ∷ 0x58000441 ∷ 0xf940002a
    ∷ 0xeb0a013f ∷ 0x54000140 ∷ 0xaa1403e0 ∷ 0x580003e9 ∷ 0xd63f0120 ∷ 0x350000c0 ∷ 0x52800209 ∷ 0x72a40009
    ∷ 0xb9004a69 ∷ 0x11000340 ∷ 0x1400000f ∷ 0xb9400265 ∷ 0x2a0503e0 ∷ 0x11000400 ∷ 0x2a0003e5 ∷ 0xb9000265
    ∷ 0x1100075a ∷ 0x14000001 ∷ 0x52800249 ∷ 0x72a40009 ∷ 0xb9004a69 ∷ 0x10ffff8a ∷ 0xf900128a ∷ 0x2a1a03e0
    ∷ 0x14000001 ∷ 0xa94573fb ∷ 0xa9446bf9 ∷ 0xa94363f7 ∷ 0xa9425bf5 ∷ 0xa94153f3 ∷ 0xa8c67bfd ∷ 0xd65f03c0
    ∷ 0x00900000 ∷ 0x00000000 ∷ 0x00c00000 ∷ 0x00000000 ∷ []

pub listing_is : block_words block ≡ listing
unfolding block_words block_lines block_code sites starts add_imm brk_first even loads try_region extended align_test map_test stores call exit_imm chain ind hold check_brk fork limit guard load store step_code step_cache steps_code opening closing position latest oldest chosen spill slot_for seated ld_reg st_reg stored flush_from flush reload_from reload mov32 lowered op_steps ops_steps block_steps index add halves pad_of base_of words lines instrs whole_lines pool_in find_in lines_words listing
listing_is = refl

-- ---- versions: the context's, and the guard's before and afterwards
abbrev pub ours : ℕ
ours = 2 ^ 32 + 5

abbrev pub theirs : ℕ
theirs = 5

-- ---- the outside: an answer, the first byte of RAM, and the guard's version, now the context's
abbrev pub ram_with : (first : ℕ) → List ℕ
ram_with v = v ∷ replicate 63 0x11

abbrev pub outside : (answer : ℕ) → List Outcome
outside v =
    record {
      answer = v;
      brk = 0;
      ram = ram_with 0x5a;
      map = [];
      version = ours;
      guards = ours ∷ [];
      scratch = replicate 19 0xdead;
      link = 0xbeef;
      nzcv = record { n = false; z = true; c = false; v = true };
    }
    ∷ []

-- ---- the card
abbrev pub flash : List ℕ
flash = replicate 16 0xee

abbrev pub card_of : (r0 : ℕ) → (ram : List ℕ) → (version pc done : ℕ) → List Request → List CardOutcome → Card
card_of r0 bytes v pc done qs os =
    record {
      regs = r0 ∷ 101 ∷ 102 ∷ 103 ∷ 104 ∷ 105 ∷ 106 ∷ 107 ∷ 108 ∷ 109 ∷ 110 ∷ 111 ∷ 112 ∷ 113 ∷ 114 ∷ 115 ∷ [];
      sp = 0x20000040;
      rets = 0x02000200;
      hold = 0;
      ram = bytes;
      map = [];
      brk = 0;
      version = ours;
      guards = record { at = 0x900000; version = v } ∷ [];
      pc = pc;
      done = done;
      requests = qs;
      outcomes = os;
    }

abbrev pub card : (answer : ℕ) → Card
card v = card_of 100 (ram_with 0x11) theirs 0x020000f0 0 [] (all_card (outside v))

-- ---- the machine: the version at byte 40 of the context; the guard's record has the bytes that the helper compares behind its own
abbrev pub context : List ℕ
context = replicate 40 0 ++ (5 ∷ 0 ∷ 0 ∷ 0 ∷ 1 ∷ 0 ∷ 0 ∷ 0 ∷ [])

abbrev pub ram_guard : List ℕ
ram_guard = 5 ∷ 0 ∷ 0 ∷ 0 ∷ 0 ∷ 0 ∷ 0 ∷ 0 ∷ replicate 8 0x77

abbrev pub table : List ℕ
table = replicate (16384 * 16) 0

abbrev pub memory : (answer : ℕ) → List Region
memory v = memory_of (card v) listing context flash table ++ (record { base = 0x900000; bytes = ram_guard } ∷ [])

abbrev pub registers : List ℕ
registers =
    0x300000 ∷ 0x400000 ∷ 0x500000 ∷ 0x600000 ∷ 100 ∷ 5 ∷ 6 ∷ 7 ∷ 8 ∷ 9 ∷ 10 ∷ 11 ∷ 12 ∷ 13 ∷ 14 ∷ 15 ∷ 16 ∷ 17 ∷ 18 ∷ 19 ∷ 20 ∷ 21
    ∷ 22 ∷ 23 ∷ 24 ∷ 25 ∷ 26 ∷ 27 ∷ 28 ∷ 29 ∷ 0x1234 ∷ []

abbrev pub start : (answer : ℕ) → State
start v = start_of registers 0x200080 0x100000 (memory v) (outside v)
