-- A block that looks its target up, and a start of the card and of the machine for it, at the body: no code map, a break word that is set,
-- a limit that is met exactly, and a table that has the target.
-- Assumes nothing.
use mathlib.Core.Path.{◌≡◌, refl}
use mathlib.Core.Bool.{false}
use mathlib.Core.List.{List, [], ◌∷◌, ◌++◌}
use Prim.Native.Nat.{ℕ, ◌-◌, ◌*◌}
use lib.ListN.{replicate}
use Rattle.block.specs.declared.Fast.TheVariants.{AddRI, CallR}
use Rattle.block.specs.declared.BOp.{BOp}
use Rattle.block.specs.declared.Block.{Block}
use Rattle.code.specs.Items.{index, add, halves, pad_of, base_of}
use Rattle.code.specs.Tree.{words, lines, instrs, whole_lines, pool_in, find_in, lines_words}
use Rattle.lowering.specs.Instrs.{mov32}
use Rattle.lowering.specs.Cache.{position, latest, oldest, chosen, spill, slot_for, seated, ld_reg, st_reg, stored, flush_from, flush}
use Rattle.lowering.specs.Cache.{reload_from, reload}
use Rattle.lowering.specs.Steps.{lowered, op_steps, ops_steps, block_steps}
use Rattle.lowering.specs.Fragments.{add_imm, brk_first, even, loads, try_region, extended, align_test, map_test, stores, call, exit_imm, chain}
use Rattle.lowering.specs.Fragments.{ind, hold, check_brk, fork, limit, load, store, step_code, step_cache, steps_code, opening, closing}
use Rattle.lowering.specs.Compile.{block_words, block_lines, block_code, sites, starts}
use Rattle.machine.specs.State.{Region, State}
use Rattle.card.specs.Card.{Card}
use Rattle.example.proofs.Common.{block_of, memory_of, start_of}

-- a sum, and a call of the address in register 2
abbrev pub ops : List BOp
ops = record { fast = AddRI 3 1 5; len = 2; glue = false } ∷ record { fast = CallR 2; len = 4; glue = false } ∷ []

abbrev pub block : Block
block = block_of false ops

unfoldable pub listing : List ℕ
listing =
    0xa9ba7bfd ∷ 0xa90153f3 ∷ 0xa9025bf5 ∷ 0xa90363f7 ∷ 0xa9046bf9 ∷ 0xa90573fb ∷ 0xaa0003f3 ∷ 0xaa0103f4
    ∷ 0xaa0203f5 ∷ 0xaa0303f6 ∷ 0x2a0403fb ∷ 0xaa0503f9 ∷ 0x5280001a ∷ 0x11000b49 ∷ 0x6b1b013f ∷ 0x540000c9
    ∷ 0x52802009 ∷ 0x72a04009 ∷ 0xb9004a69 ∷ 0x11000340 ∷ 0x14000018 ∷ 0xb9400665 ∷ 0x2a0503e0 ∷ 0x11001400
    ∷ 0x2a0003e6 ∷ 0x528020c0 ∷ 0x72a04000 ∷ 0xb9004660 ∷ 0xb9400a67 ∷ 0x2a0703e9 ∷ 0xb9000e66 ∷ 0x2a0903ec
    ∷ 0x11000b5a ∷ 0x5301398a ∷ 0x5800024b ∷ 0x8b0a116b ∷ 0xb940016d ∷ 0x6b0c01bf ∷ 0x54000061 ∷ 0xf9400569
    ∷ 0xd61f0120 ∷ 0xb9004a6c ∷ 0x2a1a03e0 ∷ 0x14000001 ∷ 0xa94573fb ∷ 0xa9446bf9 ∷ 0xa94363f7 ∷ 0xa9425bf5
    ∷ 0xa94153f3 ∷ 0xa8c67bfd ∷ 0xd65f03c0 ∷ 0xd503201f ∷ 0x00800000 ∷ 0x00000000 ∷ []

pub listing_is : block_words block ≡ listing
unfolding block_words block_lines block_code sites starts add_imm brk_first even loads try_region extended align_test map_test stores call exit_imm chain ind hold check_brk fork limit load store step_code step_cache steps_code opening closing position latest oldest chosen spill slot_for seated ld_reg st_reg stored flush_from flush reload_from reload mov32 lowered op_steps ops_steps block_steps index add halves pad_of base_of words lines instrs whole_lines pool_in find_in lines_words listing
listing_is = refl

-- ---- the card: seven operations done before, and two of this block make nine
abbrev pub flash : List ℕ
flash = replicate 16 0xee

abbrev pub card : Card
card =
    record {
      regs = 100 ∷ 0x10 ∷ 0x02008000 ∷ 103 ∷ 104 ∷ 105 ∷ 106 ∷ 107 ∷ 108 ∷ 109 ∷ 110 ∷ 111 ∷ 112 ∷ 113 ∷ 114 ∷ 115 ∷ [];
      sp = 0x20000040;
      rets = 0x02000200;
      hold = 0;
      ram = replicate 64 0x11;
      map = [];
      brk = 1;
      version = 0;
      guards = [];
      pc = 0x020000f0;
      done = 7;
      requests = [];
      outcomes = [];
    }

-- ---- the machine: the break word at byte 24 of the context, the slot at byte 32; the target's entry is the table's first
abbrev pub context : List ℕ
context = replicate 24 0 ++ (1 ∷ 0 ∷ 0 ∷ 0 ∷ 0 ∷ 0 ∷ 0 ∷ 0 ∷ replicate 8 0x77) ++ replicate 8 0

abbrev pub entry : List ℕ
entry = 0x00 ∷ 0x80 ∷ 0x00 ∷ 0x02 ∷ 0 ∷ 0 ∷ 0 ∷ 0 ∷ 0x34 ∷ 0x00 ∷ 0x18 ∷ 0 ∷ 0 ∷ 0 ∷ 0 ∷ 0 ∷ []

abbrev pub table : List ℕ
table = entry ++ replicate (16384 * 16 - 16) 0

abbrev pub memory : List Region
memory = memory_of card listing context flash table

abbrev pub registers : List ℕ
registers =
    0 ∷ 1 ∷ 2 ∷ 3 ∷ 4 ∷ 5 ∷ 6 ∷ 7 ∷ 8 ∷ 9 ∷ 10 ∷ 11 ∷ 12 ∷ 13 ∷ 14 ∷ 15 ∷ 16 ∷ 17 ∷ 18
    ∷ 0x300000 ∷ 0x400000 ∷ 0x500000 ∷ 0x600000 ∷ 23 ∷ 24 ∷ 25 ∷ 7 ∷ 9 ∷ 28 ∷ 29 ∷ 0x1234 ∷ []

abbrev pub start : State
start = start_of registers 0x200010 0x100034 memory []
