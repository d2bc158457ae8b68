-- A block of nine registers, and a start of the card and of the machine for it, at the first word.
-- Assumes nothing.
use mathlib.Core.Path.{◌≡◌, refl}
use mathlib.Core.Bool.{true, false}
use mathlib.Core.List.{List, [], ◌∷◌, ◌++◌}
use Prim.Native.Nat.{ℕ, ◌*◌}
use lib.ListN.{replicate}
use Rattle.block.specs.declared.Op.TheVariants.{Add, Sub}
use Rattle.block.specs.declared.Base.TheVariants.{Reg}
use Rattle.block.specs.declared.Width.TheVariants.{Half as B16, Word as B32}
use Rattle.block.specs.declared.Fast.TheVariants.{MovI, Alu3, Ld, BlockMove}
use Rattle.block.specs.declared.BOp.{BOp}
use Rattle.block.specs.declared.Block.{Block}
use Rattle.block.specs.Block.{places}
use Rattle.code.specs.Items.{index, add, halves, pad_of, base_of}
use Rattle.code.specs.Tree.{words, lines, instrs, whole_lines, pool_in, find_in, lines_words}
use Rattle.lowering.specs.Instrs.{mov32}
use Rattle.lowering.specs.Cache.{position, latest, oldest, chosen, spill, slot_for, seated, ld_reg, st_reg, stored, flush_from, flush}
use Rattle.lowering.specs.Cache.{reload_from, reload}
use Rattle.lowering.specs.Steps.{move_words, lowered, op_steps, ops_steps, block_steps}
use Rattle.lowering.specs.Fragments.{add_imm, brk_first, even, loads, try_region, extended, align_test, map_test, stores, call, exit_imm, chain}
use Rattle.lowering.specs.Fragments.{ind, hold, check_brk, fork, limit, load, store, step_code, step_cache, steps_code, opening, closing}
use Rattle.lowering.specs.Compile.{block_words, block_lines, block_code, sites, starts}
use Rattle.machine.specs.State.{Region, Outcome, State}
use Rattle.card.specs.Card.{Card}
use Rattle.demand.specs.Outside.{all_card}
use Rattle.example.proofs.Common.{block_of, memory_of, start_of}

-- registers 0 to 8 in eight slots: the first load gives up register 0, changed; a group, registers 5 and 6 to the last word of RAM and to
-- the word behind it, outside; a halfword from outside, glued
abbrev pub ops : List BOp
ops =
    record { fast = MovI 0 0x12345678; len = 4; glue = false }
    ∷ record { fast = Alu3 3 1 2 Add; len = 2; glue = false }
    ∷ record { fast = Alu3 6 4 5 Sub; len = 2; glue = false }
    ∷ record { fast = Ld 8 (Reg 7) 4 B32 false; len = 2; glue = false }
    ∷ record { fast = BlockMove 3 0x60 true true false; len = 2; glue = false }
    ∷ record { fast = Ld 4 (Reg 8) 6 B16 true; len = 4; glue = true }
    ∷ []

abbrev pub block : Block
block = block_of true ops

unfoldable pub listing : List ℕ
listing =
    0xa9ba7bfd ∷ 0xa90153f3 ∷ 0xa9025bf5 ∷ 0xa90363f7 ∷ 0xa9046bf9 ∷ 0xa90573fb ∷ 0xaa0003f3 ∷ 0xaa0103f4
    ∷ 0xaa0203f5 ∷ 0xaa0303f6 ∷ 0x2a0403fb ∷ 0xaa0503f9 ∷ 0x5280001a ∷ 0x11001b49 ∷ 0x6b1b013f ∷ 0x540000c9
    ∷ 0x52802009 ∷ 0x72a04009 ∷ 0xb9004a69 ∷ 0x11000340 ∷ 0x140000c9 ∷ 0x528acf00 ∷ 0x72a24680 ∷ 0x2a0003e5
    ∷ 0xb9400666 ∷ 0x2a0603e0 ∷ 0xb9400a67 ∷ 0x2a0703e1 ∷ 0x0b010000 ∷ 0x2a0003e8 ∷ 0xb940126e ∷ 0x2a0e03e0
    ∷ 0xb940166f ∷ 0x2a0f03e1 ∷ 0x4b010000 ∷ 0x2a0003f0 ∷ 0xb9401e71 ∷ 0x2a1103e0 ∷ 0x11001000 ∷ 0x52a40002
    ∷ 0x4b020003 ∷ 0x52800782 ∷ 0x6b02007f ∷ 0x54000068 ∷ 0xb8634aa0 ∷ 0x14000019 ∷ 0x52a04002 ∷ 0x4b020003
    ∷ 0x52800182 ∷ 0x6b02007f ∷ 0x54000068 ∷ 0xb8634ac0 ∷ 0x14000012 ∷ 0x2a0003e1 ∷ 0xaa1403e0 ∷ 0x11000f42
    ∷ 0x52800083 ∷ 0xb9000265 ∷ 0xb9000e68 ∷ 0xb9001a70 ∷ 0x58001509 ∷ 0xd63f0120 ∷ 0xb9400265 ∷ 0xb9400666
    ∷ 0xb9400a67 ∷ 0xb9400e68 ∷ 0xb940126e ∷ 0xb940166f ∷ 0xb9401a70 ∷ 0xb9401e71 ∷ 0xb9000265 ∷ 0x2a0003e5
    ∷ 0xb9401a89 ∷ 0x34000129 ∷ 0xb9002265 ∷ 0xb9000e68 ∷ 0xb9001a70 ∷ 0x52802149 ∷ 0x72a04009 ∷ 0xb9004a69
    ∷ 0x11001340 ∷ 0x1400008c ∷ 0x2a0803e0 ∷ 0x2a0003f7 ∷ 0x2a1703e0 ∷ 0x2a0f03e1 ∷ 0x52a40002 ∷ 0x4b020003
    ∷ 0x52800782 ∷ 0x6b02007f ∷ 0x540000c8 ∷ 0x53027c62 ∷ 0x38624b22 ∷ 0x35000062 ∷ 0xb8234aa1 ∷ 0x14000013
    ∷ 0x2a0103e2 ∷ 0x2a0003e1 ∷ 0xaa1403e0 ∷ 0x11001343 ∷ 0x52800084 ∷ 0xb9002265 ∷ 0xb9000e68 ∷ 0xb9001a70
    ∷ 0x58000fc9 ∷ 0xd63f0120 ∷ 0xb9402265 ∷ 0xb9400666 ∷ 0xb9400a67 ∷ 0xb9400e68 ∷ 0xb940126e ∷ 0xb940166f
    ∷ 0xb9401a70 ∷ 0xb9401e71 ∷ 0x110012e0 ∷ 0x2a1003e1 ∷ 0x52a40002 ∷ 0x4b020003 ∷ 0x52800782 ∷ 0x6b02007f
    ∷ 0x540000c8 ∷ 0x53027c62 ∷ 0x38624b22 ∷ 0x35000062 ∷ 0xb8234aa1 ∷ 0x14000013 ∷ 0x2a0103e2 ∷ 0x2a0003e1
    ∷ 0xaa1403e0 ∷ 0x11001343 ∷ 0x52800084 ∷ 0xb9002265 ∷ 0xb9000e68 ∷ 0xb9001a70 ∷ 0x58000c09 ∷ 0xd63f0120
    ∷ 0xb9402265 ∷ 0xb9400666 ∷ 0xb9400a67 ∷ 0xb9400e68 ∷ 0xb940126e ∷ 0xb940166f ∷ 0xb9401a70 ∷ 0xb9401e71
    ∷ 0x110022e0 ∷ 0x2a0003e8 ∷ 0xb9401a89 ∷ 0x34000129 ∷ 0xb9002265 ∷ 0xb9000e68 ∷ 0xb9001a70 ∷ 0x52802189
    ∷ 0x72a04009 ∷ 0xb9004a69 ∷ 0x11001740 ∷ 0x14000042 ∷ 0x2a0503e0 ∷ 0x11001800 ∷ 0x52a40002 ∷ 0x4b020003
    ∷ 0x12800022 ∷ 0x0a020063 ∷ 0x528007c2 ∷ 0x6b02007f ∷ 0x54000068 ∷ 0x78e34aa0 ∷ 0x1400001c ∷ 0x52a04002
    ∷ 0x4b020003 ∷ 0x12800022 ∷ 0x0a020063 ∷ 0x528001c2 ∷ 0x6b02007f ∷ 0x54000068 ∷ 0x78e34ac0 ∷ 0x14000013
    ∷ 0x2a0003e1 ∷ 0xaa1403e0 ∷ 0x11001742 ∷ 0x52800043 ∷ 0xb9002265 ∷ 0xb9000e68 ∷ 0xb9001a70 ∷ 0x580005a9
    ∷ 0xd63f0120 ∷ 0xb9402265 ∷ 0xb9400666 ∷ 0xb9400a67 ∷ 0xb9400e68 ∷ 0xb940126e ∷ 0xb940166f ∷ 0xb9401a70
    ∷ 0xb9401e71 ∷ 0x13003c00 ∷ 0x2a0003ee ∷ 0xb9401a89 ∷ 0x34000189 ∷ 0x52800029 ∷ 0xb9004e69 ∷ 0xb9002265
    ∷ 0xb9000e68 ∷ 0xb900126e ∷ 0xb9001a70 ∷ 0x52802209 ∷ 0x72a04009 ∷ 0xb9004a69 ∷ 0x11001b40 ∷ 0x1400000e
    ∷ 0xb9002265 ∷ 0xb9000e68 ∷ 0xb900126e ∷ 0xb9001a70 ∷ 0x11001b5a ∷ 0x14000001 ∷ 0x52802209 ∷ 0x72a04009
    ∷ 0xb9004a69 ∷ 0x10ffff8a ∷ 0xf900128a ∷ 0x2a1a03e0 ∷ 0x14000001 ∷ 0xa94573fb ∷ 0xa9446bf9 ∷ 0xa94363f7
    ∷ 0xa9425bf5 ∷ 0xa94153f3 ∷ 0xa8c67bfd ∷ 0xd65f03c0 ∷ 0x00900000 ∷ 0x00000000 ∷ 0x00a00000 ∷ 0x00000000 ∷ []

pub listing_is : block_words block ≡ listing
unfolding block_words block_lines block_code sites starts add_imm brk_first even loads try_region extended align_test map_test stores call exit_imm chain ind hold check_brk fork limit load store step_code step_cache steps_code opening closing position latest oldest chosen spill slot_for seated ld_reg st_reg stored flush_from flush reload_from reload mov32 places move_words lowered op_steps ops_steps block_steps index add halves pad_of base_of words lines instrs whole_lines pool_in find_in lines_words listing
listing_is = refl

-- ---- the outside: any answer to the store, one to the load; RAM with another first byte, and any other registers and flags
abbrev pub ram_with : (first last : ℕ) → List ℕ
ram_with v w = (v ∷ 0 ∷ 0 ∷ 0 ∷ 0x00 ∷ 0x00 ∷ 0x00 ∷ 0x40 ∷ replicate 52 0) ++ (w ∷ 0 ∷ 0 ∷ 0 ∷ [])

abbrev pub before : List ℕ
before = ram_with 0 0

abbrev pub after : List ℕ
after = ram_with 0x5a 9

abbrev pub outcome : (answer : ℕ) → Outcome
outcome v =
    record {
      answer = v;
      brk = 0;
      ram = after;
      map = replicate 16 0;
      version = 0;
      guards = [];
      scratch = replicate 19 0xdead;
      link = 0xbeef;
      nzcv = record { n = true; z = false; c = true; v = false };
    }

abbrev pub outside : List Outcome
outside = outcome 0xfeed ∷ outcome 0x8001 ∷ []

-- ---- the card
abbrev pub flash : List ℕ
flash = replicate 16 0xee

abbrev pub card : Card
card =
    record {
      regs = 0 ∷ 0x20000000 ∷ 0x3c ∷ 0 ∷ 7 ∷ 9 ∷ 0 ∷ 0x20000000 ∷ 0 ∷ 109 ∷ 110 ∷ 111 ∷ 112 ∷ 113 ∷ 114 ∷ 115 ∷ [];
      sp = 0x20000040;
      rets = 0x02000200;
      hold = 0;
      ram = before;
      map = replicate 16 0;
      brk = 0;
      version = 0;
      guards = [];
      pc = 0x02000100;
      done = 0;
      requests = [];
      outcomes = all_card outside;
    }

-- ---- the machine
abbrev pub context : List ℕ
context = replicate 48 0

abbrev pub table : List ℕ
table = replicate (16384 * 16) 0

abbrev pub memory : List Region
memory = memory_of card listing context flash table

abbrev pub registers : List ℕ
registers =
    0x300000 ∷ 0x400000 ∷ 0x500000 ∷ 0x600000 ∷ 100 ∷ 0x700000 ∷ 6 ∷ 7 ∷ 8 ∷ 9 ∷ 10 ∷ 11 ∷ 12 ∷ 13 ∷ 14 ∷ 15 ∷ 16 ∷ 17 ∷ 18 ∷ 19 ∷ 20 ∷ 21
    ∷ 22 ∷ 23 ∷ 24 ∷ 25 ∷ 26 ∷ 27 ∷ 28 ∷ 29 ∷ 0x1234 ∷ []

abbrev pub start : State
start = start_of registers 0x200080 0x100000 memory outside
