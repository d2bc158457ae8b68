-- Six small blocks, their words and chain sites computed: the listings are what the commit's `compile` gives for them, that of the fourth
-- with the tests of 2026-04 and without.
-- Assumes nothing.
use mathlib.Core.Path.{◌≡◌, refl}
use mathlib.Core.Bool.{true, false}
use mathlib.Core.List.{List, [], ◌∷◌}
use Prim.Native.Nat.{ℕ, zero, suc}
use Rattle.block.specs.declared.Op.TheVariants.{Add, Sub, And}
use Rattle.block.specs.declared.RmwOp.TheVariants.{Mov as RmwMov}
use Rattle.block.specs.declared.Cond.TheVariants.{Ne}
use Rattle.block.specs.declared.Base.TheVariants.{Reg, Sp}
use Rattle.block.specs.declared.Amount.TheVariants.{Reg as ByReg, Inc as ByInc}
use Rattle.block.specs.declared.Width.TheVariants.{Byte as B8, Half as B16, Word as B32}
use Rattle.block.specs.declared.Rk.TheVariants.{Bit as RkBit}
use Rattle.block.specs.declared.Fast.TheVariants.{Nop, Mov, Alu3, Mov2, Ld, St, Rmw, PushRet, BrI, PopRet}
use Rattle.block.specs.declared.Fast.TheVariants.{BlockMove, PushRets, PopPc, LdPair, LdPre, StPre, LdPostR, MemA4, Tb}
use Rattle.block.specs.declared.BOp.{BOp}
use Rattle.block.specs.declared.Layout.{Layout}
use Rattle.block.specs.declared.Addresses.{Addresses}
use Rattle.block.specs.declared.Block.{Block}
use Rattle.block.specs.Block.{no_guard, places, up_from}
use Rattle.code.specs.Items.{index, add, halves, pad_of, base_of}
use Rattle.code.specs.Tree.{words, lines, instrs, whole_lines, pool_in, find_in, lines_words}
use Rattle.lowering.specs.Instrs.{mov32}
use Rattle.lowering.specs.Cache.{position, latest, oldest, chosen, spill, slot_for, seated, ld_reg, st_reg, stored, flush_from, flush}
use Rattle.lowering.specs.Cache.{reload_from, reload}
use Rattle.lowering.specs.Steps.{move_words, push_all, pop_all, lowered, op_steps, ops_steps, block_steps}
use Rattle.lowering.specs.Fragments.{add_imm, brk_first, even, loads, try_region, extended, align_test, map_test, stores, call, exit_imm}
use Rattle.lowering.specs.Fragments.{chain, ind, hold, check_brk, fork, limit, guard, load, store, step_code, step_cache, steps_code}
use Rattle.lowering.specs.Fragments.{opening, closing}
use Rattle.lowering.specs.Compile.{block_words, block_lines, block_code, sites, starts}
use Rattle.lowering.specs.Commit.{commit_code, commit_lines, commit_words}

abbrev nop : BOp
nop = record { fast = Nop; len = 0; glue = false }

-- nop up to the 32 places of a block
abbrev padded : ℕ → List BOp → List BOp
padded zero os = []
padded (suc k) [] = nop ∷ padded k []
padded (suc k) (o ∷ os) = o ∷ padded k os

abbrev layout : Layout
layout = record { regs = 0; sp = 64; rets = 68; pc = 72; hold = 76 }

abbrev addresses : Addresses
addresses = record { h_read = 0x1111222233334444; h_write = 0x5555666677778888; table = 0x9999aaaabbbbcccc }

-- Ten registers in eight slots, one given up unchanged and one changed; a negative offset; a break check without glue; the read helper's literal
-- shared; the end by the jump table, the break word asked first. Behind an odd length a nop.
abbrev first : Block
first =
    record {
      layout = layout;
      memory = record { ram_base = 0x20000000; ram_len = 64; xip_base = 0x02000000; xip_len = 16; map = false };
      addresses = addresses;
      pc0 = 0x02000100;
      guard = no_guard;
      ops =
          padded 32
          (record { fast = Alu3 0 1 2 Add; len = 2; glue = false }
          ∷ record { fast = Alu3 3 4 5 Sub; len = 2; glue = false }
          ∷ record { fast = Alu3 6 7 8 And; len = 4; glue = false }
          ∷ record { fast = Ld 9 (Reg 2) 0xfffffff8 B32 false; len = 2; glue = false }
          ∷ record { fast = PopRet; len = 2; glue = false }
          ∷ []);
      n = 5;
    }

pub first_words : block_words first ≡
    0xa9ba7bfd ∷ 0xa90153f3 ∷ 0xa9025bf5 ∷ 0xa90363f7 ∷ 0xa9046bf9 ∷ 0xa90573fb ∷ 0xaa0003f3 ∷ 0xaa0103f4
    ∷ 0xaa0203f5 ∷ 0xaa0303f6 ∷ 0x2a0403fb ∷ 0xaa0503f9 ∷ 0x5280001a ∷ 0x11001749 ∷ 0x6b1b013f ∷ 0x540000c9
    ∷ 0x52802009 ∷ 0x72a04009 ∷ 0xb9004a69 ∷ 0x11000340 ∷ 0x14000076 ∷ 0xb9400665 ∷ 0x2a0503e0 ∷ 0xb9400a66
    ∷ 0x2a0603e1 ∷ 0x0b010000 ∷ 0x2a0003e7 ∷ 0xb9401268 ∷ 0x2a0803e0 ∷ 0xb940166e ∷ 0x2a0e03e1 ∷ 0x4b010000
    ∷ 0x2a0003ef ∷ 0xb9401e70 ∷ 0x2a1003e0 ∷ 0xb9402271 ∷ 0x2a1103e1 ∷ 0x0a010000 ∷ 0x2a0003e5 ∷ 0x2a0603e0
    ∷ 0x51002000 ∷ 0x52a40002 ∷ 0x4b020003 ∷ 0x52800782 ∷ 0x6b02007f ∷ 0x54000068 ∷ 0xb8634aa0 ∷ 0x14000019
    ∷ 0x52a04002 ∷ 0x4b020003 ∷ 0x52800182 ∷ 0x6b02007f ∷ 0x54000068 ∷ 0xb8634ac0 ∷ 0x14000012 ∷ 0x2a0003e1
    ∷ 0xaa1403e0 ∷ 0x11000f42 ∷ 0x52800083 ∷ 0xb9001a65 ∷ 0xb9000267 ∷ 0xb9000e6f ∷ 0x58000a89 ∷ 0xd63f0120
    ∷ 0xb9401a65 ∷ 0xb9400a66 ∷ 0xb9400267 ∷ 0xb9401268 ∷ 0xb940166e ∷ 0xb9400e6f ∷ 0xb9401e70 ∷ 0xb9402271
    ∷ 0xb9000267 ∷ 0x2a0003e7 ∷ 0xb9401a89 ∷ 0x34000129 ∷ 0xb9001a65 ∷ 0xb9002667 ∷ 0xb9000e6f ∷ 0x52802149
    ∷ 0x72a04009 ∷ 0xb9004a69 ∷ 0x11001340 ∷ 0x14000037 ∷ 0xb9404260 ∷ 0x52a40002 ∷ 0x4b020003 ∷ 0x52800782
    ∷ 0x6b02007f ∷ 0x54000068 ∷ 0xb8634aa0 ∷ 0x14000019 ∷ 0x52a04002 ∷ 0x4b020003 ∷ 0x52800182 ∷ 0x6b02007f
    ∷ 0x54000068 ∷ 0xb8634ac0 ∷ 0x14000012 ∷ 0x2a0003e1 ∷ 0xaa1403e0 ∷ 0x11001342 ∷ 0x52800083 ∷ 0xb9001a65
    ∷ 0xb9002667 ∷ 0xb9000e6f ∷ 0x58000509 ∷ 0xd63f0120 ∷ 0xb9401a65 ∷ 0xb9400a66 ∷ 0xb9402667 ∷ 0xb9401268
    ∷ 0xb940166e ∷ 0xb9400e6f ∷ 0xb9401e70 ∷ 0xb9402271 ∷ 0x2a0003f7 ∷ 0xb9404260 ∷ 0x11001000 ∷ 0xb9004260
    ∷ 0xb9001a65 ∷ 0xb9002667 ∷ 0xb9000e6f ∷ 0x2a1703ec ∷ 0x1100175a ∷ 0xb9401a89 ∷ 0x35000129 ∷ 0x5301398a
    ∷ 0x5800028b ∷ 0x8b0a116b ∷ 0xb940016d ∷ 0x6b0c01bf ∷ 0x54000061 ∷ 0xf9400569 ∷ 0xd61f0120 ∷ 0xb9004a6c
    ∷ 0x2a1a03e0 ∷ 0x14000001 ∷ 0xa94573fb ∷ 0xa9446bf9 ∷ 0xa94363f7 ∷ 0xa9425bf5 ∷ 0xa94153f3 ∷ 0xa8c67bfd
    ∷ 0xd65f03c0 ∷ 0xd503201f ∷ 0x33334444 ∷ 0x11112222 ∷ 0xbbbbcccc ∷ 0x9999aaaa ∷ []
unfolding block_words block_lines block_code sites starts add_imm brk_first even loads try_region extended align_test map_test stores call exit_imm chain ind hold check_brk fork limit load store step_code step_cache steps_code opening closing position latest oldest chosen spill slot_for seated ld_reg st_reg stored flush_from flush reload_from reload mov32 lowered op_steps ops_steps block_steps index add halves pad_of base_of words lines instrs whole_lines pool_in find_in lines_words
first_words = refl

pub first_sites : sites first ≡ []
unfolding block_words block_lines block_code sites starts add_imm brk_first even loads try_region extended align_test map_test stores call exit_imm chain ind hold check_brk fork limit load store step_code step_cache steps_code opening closing position latest oldest chosen spill slot_for seated ld_reg st_reg stored flush_from flush reload_from reload mov32 lowered op_steps ops_steps block_steps index add halves pad_of base_of words lines instrs whole_lines pool_in find_in lines_words
first_sites = refl

-- A signed halfword from RAM, flash or the helper, a glued break check, a halfword stored past the code map at an offset of two words, a branch with
-- two chain sites, several changed slots at each. Behind an even length no nop.
abbrev pub second : Block
second =
    record {
      layout = layout;
      memory = record { ram_base = 0x20000000; ram_len = 65536; xip_base = 0x02000000; xip_len = 16; map = true };
      addresses = addresses;
      pc0 = 0x02000200;
      guard = no_guard;
      ops =
          padded 32
          (record { fast = Mov2 1 2 3 4; len = 2; glue = false }
          ∷ record { fast = Ld 5 (Reg 1) 6 B16 true; len = 4; glue = true }
          ∷ record { fast = St 5 (Reg 2) 0xfffff000 B16; len = 4; glue = false }
          ∷ record { fast = BrI 5 7 Ne 0x02000200; len = 4; glue = false }
          ∷ []);
      n = 4;
    }

pub second_words : block_words second ≡
    0xa9ba7bfd ∷ 0xa90153f3 ∷ 0xa9025bf5 ∷ 0xa90363f7 ∷ 0xa9046bf9 ∷ 0xa90573fb ∷ 0xaa0003f3 ∷ 0xaa0103f4
    ∷ 0xaa0203f5 ∷ 0xaa0303f6 ∷ 0x2a0403fb ∷ 0xaa0503f9 ∷ 0x5280001a ∷ 0x11001349 ∷ 0x6b1b013f ∷ 0x540000c9
    ∷ 0x52804009 ∷ 0x72a04009 ∷ 0xb9004a69 ∷ 0x11000340 ∷ 0x14000079 ∷ 0xb9400e65 ∷ 0x2a0503e0 ∷ 0xb9401266
    ∷ 0x2a0603e1 ∷ 0x2a0003e7 ∷ 0x2a0103e8 ∷ 0x2a0703e0 ∷ 0x11001800 ∷ 0x52a40002 ∷ 0x4b020003 ∷ 0x12800022
    ∷ 0x0a020063 ∷ 0x529fffc2 ∷ 0x6b02007f ∷ 0x54000068 ∷ 0x78e34aa0 ∷ 0x14000017 ∷ 0x52a04002 ∷ 0x4b020003
    ∷ 0x12800022 ∷ 0x0a020063 ∷ 0x528001c2 ∷ 0x6b02007f ∷ 0x54000068 ∷ 0x78e34ac0 ∷ 0x1400000e ∷ 0x2a0003e1
    ∷ 0xaa1403e0 ∷ 0x11000742 ∷ 0x52800043 ∷ 0xb9000667 ∷ 0xb9000a68 ∷ 0x58000be9 ∷ 0xd63f0120 ∷ 0xb9400e65
    ∷ 0xb9401266 ∷ 0xb9400667 ∷ 0xb9400a68 ∷ 0x13003c00 ∷ 0x2a0003ee ∷ 0xb9401a89 ∷ 0x34000169 ∷ 0x52800029
    ∷ 0xb9004e69 ∷ 0xb9000667 ∷ 0xb9000a68 ∷ 0xb900166e ∷ 0x528040c9 ∷ 0x72a04009 ∷ 0xb9004a69 ∷ 0x11000b40
    ∷ 0x14000045 ∷ 0x2a0803e0 ∷ 0x1281ffe9 ∷ 0x0b090000 ∷ 0x2a0e03e1 ∷ 0x37000160 ∷ 0x52a40002 ∷ 0x4b020003
    ∷ 0x529fffc2 ∷ 0x6b02007f ∷ 0x540000c8 ∷ 0x53027c62 ∷ 0x38624b22 ∷ 0x35000062 ∷ 0x78234aa1 ∷ 0x14000010
    ∷ 0x2a0103e2 ∷ 0x2a0003e1 ∷ 0xaa1403e0 ∷ 0x11000b43 ∷ 0x52800044 ∷ 0xb9000667 ∷ 0xb9000a68 ∷ 0xb900166e
    ∷ 0x580006c9 ∷ 0xd63f0120 ∷ 0xb9400e65 ∷ 0xb9401266 ∷ 0xb9400667 ∷ 0xb9400a68 ∷ 0xb940166e ∷ 0xb9401a89
    ∷ 0x34000129 ∷ 0xb9000667 ∷ 0xb9000a68 ∷ 0xb900166e ∷ 0x52804149 ∷ 0x72a04009 ∷ 0xb9004a69 ∷ 0x11000f40
    ∷ 0x1400001d ∷ 0x2a0e03e0 ∷ 0x528000e1 ∷ 0x6b01001f ∷ 0x540001a1 ∷ 0xb9000667 ∷ 0xb9000a68 ∷ 0xb900166e
    ∷ 0x1100135a ∷ 0x14000001 ∷ 0x528041c9 ∷ 0x72a04009 ∷ 0xb9004a69 ∷ 0x10ffff8a ∷ 0xf900128a ∷ 0x2a1a03e0
    ∷ 0x1400000d ∷ 0xb9000667 ∷ 0xb9000a68 ∷ 0xb900166e ∷ 0x1100135a ∷ 0x14000001 ∷ 0x52804009 ∷ 0x72a04009
    ∷ 0xb9004a69 ∷ 0x10ffff8a ∷ 0xf900128a ∷ 0x2a1a03e0 ∷ 0x14000001 ∷ 0xa94573fb ∷ 0xa9446bf9 ∷ 0xa94363f7
    ∷ 0xa9425bf5 ∷ 0xa94153f3 ∷ 0xa8c67bfd ∷ 0xd65f03c0 ∷ 0x33334444 ∷ 0x11112222 ∷ 0x77778888 ∷ 0x55556666 ∷ []
unfolding block_words block_lines block_code sites starts add_imm brk_first even loads try_region extended align_test map_test stores call exit_imm chain ind hold check_brk fork limit load store step_code step_cache steps_code opening closing position latest oldest chosen spill slot_for seated ld_reg st_reg stored flush_from flush reload_from reload mov32 lowered op_steps ops_steps block_steps index add halves pad_of base_of words lines instrs whole_lines pool_in find_in lines_words
second_words = refl

pub second_sites : sites second ≡ record { at = 121; target = 0x0200020e } ∷ record { at = 133; target = 0x02000200 } ∷ []
unfolding block_words block_lines block_code sites starts add_imm brk_first even loads try_region extended align_test map_test stores call exit_imm chain ind hold check_brk fork limit load store step_code step_cache steps_code opening closing position latest oldest chosen spill slot_for seated ld_reg st_reg stored flush_from flush reload_from reload mov32 lowered op_steps ops_steps block_steps index add halves pad_of base_of words lines instrs whole_lines pool_in find_in lines_words
second_sites = refl

-- Groups: two registers stored below a base that is one of them and is written back; rets and two registers pushed; pair 9 loaded from sp,
-- with a glued break check; a register and the target popped, the end by the jump table. Behind an odd length a nop.
abbrev third : Block
third =
    record {
      layout = layout;
      memory = record { ram_base = 0x20000000; ram_len = 64; xip_base = 0x02000000; xip_len = 16; map = false };
      addresses = addresses;
      pc0 = 0x02000300;
      guard = no_guard;
      ops =
          padded 32
          (record { fast = BlockMove 4 0x0012 true true true; len = 2; glue = false }
          ∷ record { fast = PushRets 2; len = 2; glue = false }
          ∷ record { fast = LdPair 9 Sp 8; len = 2; glue = true }
          ∷ record { fast = PopPc 4; len = 2; glue = false }
          ∷ []);
      n = 4;
    }

pub third-words : block_words third ≡
    0xa9ba7bfd ∷ 0xa90153f3 ∷ 0xa9025bf5 ∷ 0xa90363f7 ∷ 0xa9046bf9 ∷ 0xa90573fb ∷ 0xaa0003f3 ∷ 0xaa0103f4
    ∷ 0xaa0203f5 ∷ 0xaa0303f6 ∷ 0x2a0403fb ∷ 0xaa0503f9 ∷ 0x5280001a ∷ 0x11001349 ∷ 0x6b1b013f ∷ 0x540000c9
    ∷ 0x52806009 ∷ 0x72a04009 ∷ 0xb9004a69 ∷ 0x11000340 ∷ 0x14000116 ∷ 0xb9401265 ∷ 0x2a0503e0 ∷ 0x51002017
    ∷ 0x2a1703e0 ∷ 0xb9400666 ∷ 0x2a0603e1 ∷ 0x52a40002 ∷ 0x4b020003 ∷ 0x52800782 ∷ 0x6b02007f ∷ 0x54000068
    ∷ 0xb8234aa1 ∷ 0x1400000a ∷ 0x2a0103e2 ∷ 0x2a0003e1 ∷ 0xaa1403e0 ∷ 0x11000343 ∷ 0x52800084 ∷ 0x58002169
    ∷ 0xd63f0120 ∷ 0xb9401265 ∷ 0xb9400666 ∷ 0x110012e0 ∷ 0x2a0503e1 ∷ 0x52a40002 ∷ 0x4b020003 ∷ 0x52800782
    ∷ 0x6b02007f ∷ 0x54000068 ∷ 0xb8234aa1 ∷ 0x1400000a ∷ 0x2a0103e2 ∷ 0x2a0003e1 ∷ 0xaa1403e0 ∷ 0x11000343
    ∷ 0x52800084 ∷ 0x58001f29 ∷ 0xd63f0120 ∷ 0xb9401265 ∷ 0xb9400666 ∷ 0x2a1703e0 ∷ 0x2a0003e5 ∷ 0xb9401a89
    ∷ 0x340000e9 ∷ 0xb9001265 ∷ 0x52806049 ∷ 0x72a04009 ∷ 0xb9004a69 ∷ 0x11000740 ∷ 0x140000e4 ∷ 0xb9404260
    ∷ 0x51001000 ∷ 0xb9004260 ∷ 0xb9404661 ∷ 0x52a40002 ∷ 0x4b020003 ∷ 0x52800782 ∷ 0x6b02007f ∷ 0x54000068
    ∷ 0xb8234aa1 ∷ 0x1400000b ∷ 0x2a0103e2 ∷ 0x2a0003e1 ∷ 0xaa1403e0 ∷ 0x11000743 ∷ 0x52800084 ∷ 0xb9001265
    ∷ 0x58001b49 ∷ 0xd63f0120 ∷ 0xb9401265 ∷ 0xb9400666 ∷ 0xb9404260 ∷ 0x51001000 ∷ 0xb9004260 ∷ 0xb9400e67
    ∷ 0x2a0703e1 ∷ 0x52a40002 ∷ 0x4b020003 ∷ 0x52800782 ∷ 0x6b02007f ∷ 0x54000068 ∷ 0xb8234aa1 ∷ 0x1400000c
    ∷ 0x2a0103e2 ∷ 0x2a0003e1 ∷ 0xaa1403e0 ∷ 0x11000743 ∷ 0x52800084 ∷ 0xb9001265 ∷ 0x58001889 ∷ 0xd63f0120
    ∷ 0xb9401265 ∷ 0xb9400666 ∷ 0xb9400e67 ∷ 0xb9404260 ∷ 0x51001000 ∷ 0xb9004260 ∷ 0xb9400a68 ∷ 0x2a0803e1
    ∷ 0x52a40002 ∷ 0x4b020003 ∷ 0x52800782 ∷ 0x6b02007f ∷ 0x54000068 ∷ 0xb8234aa1 ∷ 0x1400000d ∷ 0x2a0103e2
    ∷ 0x2a0003e1 ∷ 0xaa1403e0 ∷ 0x11000743 ∷ 0x52800084 ∷ 0xb9001265 ∷ 0x580015a9 ∷ 0xd63f0120 ∷ 0xb9401265
    ∷ 0xb9400666 ∷ 0xb9400e67 ∷ 0xb9400a68 ∷ 0xb9401a89 ∷ 0x340000e9 ∷ 0xb9001265 ∷ 0x52806089 ∷ 0x72a04009
    ∷ 0xb9004a69 ∷ 0x11000b40 ∷ 0x14000098 ∷ 0xb9404260 ∷ 0x11002017 ∷ 0x2a1703e0 ∷ 0x52a40002 ∷ 0x4b020003
    ∷ 0x52800782 ∷ 0x6b02007f ∷ 0x54000068 ∷ 0xb8634aa0 ∷ 0x14000013 ∷ 0x52a04002 ∷ 0x4b020003 ∷ 0x52800182
    ∷ 0x6b02007f ∷ 0x54000068 ∷ 0xb8634ac0 ∷ 0x1400000c ∷ 0x2a0003e1 ∷ 0xaa1403e0 ∷ 0x11000b42 ∷ 0x52800083
    ∷ 0xb9001265 ∷ 0x58001169 ∷ 0xd63f0120 ∷ 0xb9401265 ∷ 0xb9400666 ∷ 0xb9400e67 ∷ 0xb9400a68 ∷ 0x2a0003e8
    ∷ 0x110012e0 ∷ 0x52a40002 ∷ 0x4b020003 ∷ 0x52800782 ∷ 0x6b02007f ∷ 0x54000068 ∷ 0xb8634aa0 ∷ 0x14000014
    ∷ 0x52a04002 ∷ 0x4b020003 ∷ 0x52800182 ∷ 0x6b02007f ∷ 0x54000068 ∷ 0xb8634ac0 ∷ 0x1400000d ∷ 0x2a0003e1
    ∷ 0xaa1403e0 ∷ 0x11000b42 ∷ 0x52800083 ∷ 0xb9001265 ∷ 0xb9000a68 ∷ 0x58000de9 ∷ 0xd63f0120 ∷ 0xb9401265
    ∷ 0xb9400666 ∷ 0xb9400e67 ∷ 0xb9400a68 ∷ 0x2a0003e7 ∷ 0xb9401a89 ∷ 0x34000169 ∷ 0x52800029 ∷ 0xb9004e69
    ∷ 0xb9001265 ∷ 0xb9000e67 ∷ 0xb9000a68 ∷ 0x528060c9 ∷ 0x72a04009 ∷ 0xb9004a69 ∷ 0x11000f40 ∷ 0x14000053
    ∷ 0xb9404260 ∷ 0x52a40002 ∷ 0x4b020003 ∷ 0x52800782 ∷ 0x6b02007f ∷ 0x54000068 ∷ 0xb8634aa0 ∷ 0x14000015
    ∷ 0x52a04002 ∷ 0x4b020003 ∷ 0x52800182 ∷ 0x6b02007f ∷ 0x54000068 ∷ 0xb8634ac0 ∷ 0x1400000e ∷ 0x2a0003e1
    ∷ 0xaa1403e0 ∷ 0x11000f42 ∷ 0x52800083 ∷ 0xb9001265 ∷ 0xb9000e67 ∷ 0xb9000a68 ∷ 0x580008c9 ∷ 0xd63f0120
    ∷ 0xb9401265 ∷ 0xb9400666 ∷ 0xb9400e67 ∷ 0xb9400a68 ∷ 0x2a0003e5 ∷ 0xb9404260 ∷ 0x11001000 ∷ 0xb9004260
    ∷ 0xb9404260 ∷ 0x52a40002 ∷ 0x4b020003 ∷ 0x52800782 ∷ 0x6b02007f ∷ 0x54000068 ∷ 0xb8634aa0 ∷ 0x14000015
    ∷ 0x52a04002 ∷ 0x4b020003 ∷ 0x52800182 ∷ 0x6b02007f ∷ 0x54000068 ∷ 0xb8634ac0 ∷ 0x1400000e ∷ 0x2a0003e1
    ∷ 0xaa1403e0 ∷ 0x11000f42 ∷ 0x52800083 ∷ 0xb9001265 ∷ 0xb9000e67 ∷ 0xb9000a68 ∷ 0x580004c9 ∷ 0xd63f0120
    ∷ 0xb9401265 ∷ 0xb9400666 ∷ 0xb9400e67 ∷ 0xb9400a68 ∷ 0x2a0003f7 ∷ 0xb9404260 ∷ 0x11001000 ∷ 0xb9004260
    ∷ 0xb9001265 ∷ 0xb9000e67 ∷ 0xb9000a68 ∷ 0x2a1703ec ∷ 0x1100135a ∷ 0xb9401a89 ∷ 0x35000129 ∷ 0x5301398a
    ∷ 0x580002cb ∷ 0x8b0a116b ∷ 0xb940016d ∷ 0x6b0c01bf ∷ 0x54000061 ∷ 0xf9400569 ∷ 0xd61f0120 ∷ 0xb9004a6c
    ∷ 0x2a1a03e0 ∷ 0x14000001 ∷ 0xa94573fb ∷ 0xa9446bf9 ∷ 0xa94363f7 ∷ 0xa9425bf5 ∷ 0xa94153f3 ∷ 0xa8c67bfd
    ∷ 0xd65f03c0 ∷ 0xd503201f ∷ 0x77778888 ∷ 0x55556666 ∷ 0x33334444 ∷ 0x11112222 ∷ 0xbbbbcccc ∷ 0x9999aaaa ∷ []
unfolding block_words block_lines block_code sites starts add_imm brk_first even loads try_region extended align_test map_test stores call exit_imm chain ind hold check_brk fork limit load store step_code step_cache steps_code opening closing position latest oldest chosen spill slot_for seated ld_reg st_reg stored flush_from flush reload_from reload mov32 places up_from move_words push_all pop_all lowered op_steps ops_steps block_steps index add halves pad_of base_of words lines instrs whole_lines pool_in find_in lines_words
third-words = refl

pub third-sites : sites third ≡ []
unfolding block_words block_lines block_code sites starts add_imm brk_first even loads try_region extended align_test map_test stores call exit_imm chain ind hold check_brk fork limit load store step_code step_cache steps_code opening closing position latest oldest chosen spill slot_for seated ld_reg st_reg stored flush_from flush reload_from reload mov32 places up_from move_words push_all pop_all lowered op_steps ops_steps block_steps index add halves pad_of base_of words lines instrs whole_lines pool_in find_in lines_words
third-sites = refl

-- Words stored alone past the code map, by St, Rmw and PushRet, each tested for address bits 0 and 1; then words of groups, which are not:
-- a register stored, and rets and a register pushed. One chain site. Behind an odd length a nop.
abbrev fourth : Block
fourth =
    record {
      layout = layout;
      memory = record { ram_base = 0x20000000; ram_len = 64; xip_base = 0x02000000; xip_len = 16; map = true };
      addresses = addresses;
      pc0 = 0x02000400;
      guard = no_guard;
      ops =
          padded 32
          (record { fast = St 1 (Reg 2) 8 B32; len = 2; glue = false }
          ∷ record { fast = Rmw 2 B32 RmwMov 0 7; len = 2; glue = false }
          ∷ record { fast = PushRet; len = 2; glue = false }
          ∷ record { fast = BlockMove 2 0x0002 true false false; len = 2; glue = false }
          ∷ record { fast = PushRets 3; len = 2; glue = false }
          ∷ []);
      n = 5;
    }

pub fourth-words : block_words fourth ≡
    0xa9ba7bfd ∷ 0xa90153f3 ∷ 0xa9025bf5 ∷ 0xa90363f7 ∷ 0xa9046bf9 ∷ 0xa90573fb ∷ 0xaa0003f3 ∷ 0xaa0103f4
    ∷ 0xaa0203f5 ∷ 0xaa0303f6 ∷ 0x2a0403fb ∷ 0xaa0503f9 ∷ 0x5280001a ∷ 0x11001749 ∷ 0x6b1b013f ∷ 0x540000c9
    ∷ 0x52808009 ∷ 0x72a04009 ∷ 0xb9004a69 ∷ 0x11000340 ∷ 0x140000c0 ∷ 0xb9400a65 ∷ 0x2a0503e0 ∷ 0x11002000
    ∷ 0xb9400666 ∷ 0x2a0603e1 ∷ 0x37000180 ∷ 0x37080160 ∷ 0x52a40002 ∷ 0x4b020003 ∷ 0x52800782 ∷ 0x6b02007f
    ∷ 0x540000c8 ∷ 0x53027c62 ∷ 0x38624b22 ∷ 0x35000062 ∷ 0xb8234aa1 ∷ 0x1400000a ∷ 0x2a0103e2 ∷ 0x2a0003e1
    ∷ 0xaa1403e0 ∷ 0x11000343 ∷ 0x52800084 ∷ 0x58001629 ∷ 0xd63f0120 ∷ 0xb9400a65 ∷ 0xb9400666 ∷ 0xb9401a89
    ∷ 0x340000c9 ∷ 0x52808049 ∷ 0x72a04009 ∷ 0xb9004a69 ∷ 0x11000740 ∷ 0x1400009f ∷ 0x2a0503e0 ∷ 0x2a0003f7
    ∷ 0x528000e1 ∷ 0x2a1703e0 ∷ 0x37000180 ∷ 0x37080160 ∷ 0x52a40002 ∷ 0x4b020003 ∷ 0x52800782 ∷ 0x6b02007f
    ∷ 0x540000c8 ∷ 0x53027c62 ∷ 0x38624b22 ∷ 0x35000062 ∷ 0xb8234aa1 ∷ 0x1400000a ∷ 0x2a0103e2 ∷ 0x2a0003e1
    ∷ 0xaa1403e0 ∷ 0x11000743 ∷ 0x52800084 ∷ 0x58001229 ∷ 0xd63f0120 ∷ 0xb9400a65 ∷ 0xb9400666 ∷ 0xb9401a89
    ∷ 0x340000c9 ∷ 0x52808089 ∷ 0x72a04009 ∷ 0xb9004a69 ∷ 0x11000b40 ∷ 0x1400007f ∷ 0xb9404260 ∷ 0x51001000
    ∷ 0xb9004260 ∷ 0xb9404661 ∷ 0x37000180 ∷ 0x37080160 ∷ 0x52a40002 ∷ 0x4b020003 ∷ 0x52800782 ∷ 0x6b02007f
    ∷ 0x540000c8 ∷ 0x53027c62 ∷ 0x38624b22 ∷ 0x35000062 ∷ 0xb8234aa1 ∷ 0x1400000a ∷ 0x2a0103e2 ∷ 0x2a0003e1
    ∷ 0xaa1403e0 ∷ 0x11000b43 ∷ 0x52800084 ∷ 0x58000e29 ∷ 0xd63f0120 ∷ 0xb9400a65 ∷ 0xb9400666 ∷ 0xb9401a89
    ∷ 0x340000c9 ∷ 0x528080c9 ∷ 0x72a04009 ∷ 0xb9004a69 ∷ 0x11000f40 ∷ 0x1400005f ∷ 0x2a0503e0 ∷ 0x2a0003f7
    ∷ 0x2a1703e0 ∷ 0x2a0603e1 ∷ 0x52a40002 ∷ 0x4b020003 ∷ 0x52800782 ∷ 0x6b02007f ∷ 0x540000c8 ∷ 0x53027c62
    ∷ 0x38624b22 ∷ 0x35000062 ∷ 0xb8234aa1 ∷ 0x1400000a ∷ 0x2a0103e2 ∷ 0x2a0003e1 ∷ 0xaa1403e0 ∷ 0x11000f43
    ∷ 0x52800084 ∷ 0x58000a69 ∷ 0xd63f0120 ∷ 0xb9400a65 ∷ 0xb9400666 ∷ 0xb9401a89 ∷ 0x340000c9 ∷ 0x52808109
    ∷ 0x72a04009 ∷ 0xb9004a69 ∷ 0x11001340 ∷ 0x14000041 ∷ 0xb9404260 ∷ 0x51001000 ∷ 0xb9004260 ∷ 0xb9404661
    ∷ 0x52a40002 ∷ 0x4b020003 ∷ 0x52800782 ∷ 0x6b02007f ∷ 0x540000c8 ∷ 0x53027c62 ∷ 0x38624b22 ∷ 0x35000062
    ∷ 0xb8234aa1 ∷ 0x1400000a ∷ 0x2a0103e2 ∷ 0x2a0003e1 ∷ 0xaa1403e0 ∷ 0x11001343 ∷ 0x52800084 ∷ 0x580006a9
    ∷ 0xd63f0120 ∷ 0xb9400a65 ∷ 0xb9400666 ∷ 0xb9404260 ∷ 0x51001000 ∷ 0xb9004260 ∷ 0xb9400e67 ∷ 0x2a0703e1
    ∷ 0x52a40002 ∷ 0x4b020003 ∷ 0x52800782 ∷ 0x6b02007f ∷ 0x540000c8 ∷ 0x53027c62 ∷ 0x38624b22 ∷ 0x35000062
    ∷ 0xb8234aa1 ∷ 0x1400000b ∷ 0x2a0103e2 ∷ 0x2a0003e1 ∷ 0xaa1403e0 ∷ 0x11001343 ∷ 0x52800084 ∷ 0x580003a9
    ∷ 0xd63f0120 ∷ 0xb9400a65 ∷ 0xb9400666 ∷ 0xb9400e67 ∷ 0xb9401a89 ∷ 0x340000c9 ∷ 0x52808149 ∷ 0x72a04009
    ∷ 0xb9004a69 ∷ 0x11001740 ∷ 0x1400000a ∷ 0x1100175a ∷ 0x14000001 ∷ 0x52808149 ∷ 0x72a04009 ∷ 0xb9004a69
    ∷ 0x10ffff8a ∷ 0xf900128a ∷ 0x2a1a03e0 ∷ 0x14000001 ∷ 0xa94573fb ∷ 0xa9446bf9 ∷ 0xa94363f7 ∷ 0xa9425bf5
    ∷ 0xa94153f3 ∷ 0xa8c67bfd ∷ 0xd65f03c0 ∷ 0xd503201f ∷ 0x77778888 ∷ 0x55556666 ∷ []
unfolding block_words block_lines block_code sites starts add_imm brk_first even loads try_region extended align_test map_test stores call exit_imm chain ind hold check_brk fork limit load store step_code step_cache steps_code opening closing position latest oldest chosen spill slot_for seated ld_reg st_reg stored flush_from flush reload_from reload mov32 places up_from move_words push_all pop_all lowered op_steps ops_steps block_steps index add halves pad_of base_of words lines instrs whole_lines pool_in find_in lines_words
fourth-words = refl

pub fourth-sites : sites fourth ≡ record { at = 204; target = 0x0200040a } ∷ []
unfolding block_words block_lines block_code sites starts add_imm brk_first even loads try_region extended align_test map_test stores call exit_imm chain ind hold check_brk fork limit load store step_code step_cache steps_code opening closing position latest oldest chosen spill slot_for seated ld_reg st_reg stored flush_from flush reload_from reload mov32 places up_from move_words push_all pop_all lowered op_steps ops_steps block_steps index add halves pad_of base_of words lines instrs whole_lines pool_in find_in lines_words
fourth-sites = refl

-- without the six tests: each distance over one of them is shorter, and the literal stands six words before
pub fourth_commit : commit_words fourth ≡
    0xa9ba7bfd ∷ 0xa90153f3 ∷ 0xa9025bf5 ∷ 0xa90363f7 ∷ 0xa9046bf9 ∷ 0xa90573fb ∷ 0xaa0003f3 ∷ 0xaa0103f4
    ∷ 0xaa0203f5 ∷ 0xaa0303f6 ∷ 0x2a0403fb ∷ 0xaa0503f9 ∷ 0x5280001a ∷ 0x11001749 ∷ 0x6b1b013f ∷ 0x540000c9
    ∷ 0x52808009 ∷ 0x72a04009 ∷ 0xb9004a69 ∷ 0x11000340 ∷ 0x140000ba ∷ 0xb9400a65 ∷ 0x2a0503e0 ∷ 0x11002000
    ∷ 0xb9400666 ∷ 0x2a0603e1 ∷ 0x52a40002 ∷ 0x4b020003 ∷ 0x52800782 ∷ 0x6b02007f ∷ 0x540000c8 ∷ 0x53027c62
    ∷ 0x38624b22 ∷ 0x35000062 ∷ 0xb8234aa1 ∷ 0x1400000a ∷ 0x2a0103e2 ∷ 0x2a0003e1 ∷ 0xaa1403e0 ∷ 0x11000343
    ∷ 0x52800084 ∷ 0x580015a9 ∷ 0xd63f0120 ∷ 0xb9400a65 ∷ 0xb9400666 ∷ 0xb9401a89 ∷ 0x340000c9 ∷ 0x52808049
    ∷ 0x72a04009 ∷ 0xb9004a69 ∷ 0x11000740 ∷ 0x1400009b ∷ 0x2a0503e0 ∷ 0x2a0003f7 ∷ 0x528000e1 ∷ 0x2a1703e0
    ∷ 0x52a40002 ∷ 0x4b020003 ∷ 0x52800782 ∷ 0x6b02007f ∷ 0x540000c8 ∷ 0x53027c62 ∷ 0x38624b22 ∷ 0x35000062
    ∷ 0xb8234aa1 ∷ 0x1400000a ∷ 0x2a0103e2 ∷ 0x2a0003e1 ∷ 0xaa1403e0 ∷ 0x11000743 ∷ 0x52800084 ∷ 0x580011e9
    ∷ 0xd63f0120 ∷ 0xb9400a65 ∷ 0xb9400666 ∷ 0xb9401a89 ∷ 0x340000c9 ∷ 0x52808089 ∷ 0x72a04009 ∷ 0xb9004a69
    ∷ 0x11000b40 ∷ 0x1400007d ∷ 0xb9404260 ∷ 0x51001000 ∷ 0xb9004260 ∷ 0xb9404661 ∷ 0x52a40002 ∷ 0x4b020003
    ∷ 0x52800782 ∷ 0x6b02007f ∷ 0x540000c8 ∷ 0x53027c62 ∷ 0x38624b22 ∷ 0x35000062 ∷ 0xb8234aa1 ∷ 0x1400000a
    ∷ 0x2a0103e2 ∷ 0x2a0003e1 ∷ 0xaa1403e0 ∷ 0x11000b43 ∷ 0x52800084 ∷ 0x58000e29 ∷ 0xd63f0120 ∷ 0xb9400a65
    ∷ 0xb9400666 ∷ 0xb9401a89 ∷ 0x340000c9 ∷ 0x528080c9 ∷ 0x72a04009 ∷ 0xb9004a69 ∷ 0x11000f40 ∷ 0x1400005f
    ∷ 0x2a0503e0 ∷ 0x2a0003f7 ∷ 0x2a1703e0 ∷ 0x2a0603e1 ∷ 0x52a40002 ∷ 0x4b020003 ∷ 0x52800782 ∷ 0x6b02007f
    ∷ 0x540000c8 ∷ 0x53027c62 ∷ 0x38624b22 ∷ 0x35000062 ∷ 0xb8234aa1 ∷ 0x1400000a ∷ 0x2a0103e2 ∷ 0x2a0003e1
    ∷ 0xaa1403e0 ∷ 0x11000f43 ∷ 0x52800084 ∷ 0x58000a69 ∷ 0xd63f0120 ∷ 0xb9400a65 ∷ 0xb9400666 ∷ 0xb9401a89
    ∷ 0x340000c9 ∷ 0x52808109 ∷ 0x72a04009 ∷ 0xb9004a69 ∷ 0x11001340 ∷ 0x14000041 ∷ 0xb9404260 ∷ 0x51001000
    ∷ 0xb9004260 ∷ 0xb9404661 ∷ 0x52a40002 ∷ 0x4b020003 ∷ 0x52800782 ∷ 0x6b02007f ∷ 0x540000c8 ∷ 0x53027c62
    ∷ 0x38624b22 ∷ 0x35000062 ∷ 0xb8234aa1 ∷ 0x1400000a ∷ 0x2a0103e2 ∷ 0x2a0003e1 ∷ 0xaa1403e0 ∷ 0x11001343
    ∷ 0x52800084 ∷ 0x580006a9 ∷ 0xd63f0120 ∷ 0xb9400a65 ∷ 0xb9400666 ∷ 0xb9404260 ∷ 0x51001000 ∷ 0xb9004260
    ∷ 0xb9400e67 ∷ 0x2a0703e1 ∷ 0x52a40002 ∷ 0x4b020003 ∷ 0x52800782 ∷ 0x6b02007f ∷ 0x540000c8 ∷ 0x53027c62
    ∷ 0x38624b22 ∷ 0x35000062 ∷ 0xb8234aa1 ∷ 0x1400000b ∷ 0x2a0103e2 ∷ 0x2a0003e1 ∷ 0xaa1403e0 ∷ 0x11001343
    ∷ 0x52800084 ∷ 0x580003a9 ∷ 0xd63f0120 ∷ 0xb9400a65 ∷ 0xb9400666 ∷ 0xb9400e67 ∷ 0xb9401a89 ∷ 0x340000c9
    ∷ 0x52808149 ∷ 0x72a04009 ∷ 0xb9004a69 ∷ 0x11001740 ∷ 0x1400000a ∷ 0x1100175a ∷ 0x14000001 ∷ 0x52808149
    ∷ 0x72a04009 ∷ 0xb9004a69 ∷ 0x10ffff8a ∷ 0xf900128a ∷ 0x2a1a03e0 ∷ 0x14000001 ∷ 0xa94573fb ∷ 0xa9446bf9
    ∷ 0xa94363f7 ∷ 0xa9425bf5 ∷ 0xa94153f3 ∷ 0xa8c67bfd ∷ 0xd65f03c0 ∷ 0xd503201f ∷ 0x77778888 ∷ 0x55556666 ∷ []
unfolding commit_words commit_lines commit_code add_imm brk_first even loads try_region extended align_test map_test stores call exit_imm chain ind hold check_brk fork limit load store step_code step_cache steps_code opening closing position latest oldest chosen spill slot_for seated ld_reg st_reg stored flush_from flush reload_from reload mov32 places up_from move_words push_all pop_all lowered op_steps ops_steps block_steps index add halves pad_of base_of words lines instrs whole_lines pool_in find_in lines_words
fourth_commit = refl

-- A RAM block: behind the limit's test the guard, whose literals come first in the pool, the guard's record before the helper. One register
-- moved, one chain site. Behind an odd length a nop.
abbrev fifth : Block
fifth =
    record {
      layout = layout;
      memory = record { ram_base = 0x20000000; ram_len = 65536; xip_base = 0x02000000; xip_len = 16; map = false };
      addresses = addresses;
      pc0 = 0x20000500;
      guard = record { at = 0x123456789abcdef0; h_ram_ok = 0xfedcba9876543210 };
      ops = padded 32 (record { fast = Mov 3 1; len = 2; glue = false } ∷ []);
      n = 1;
    }

pub fifth-words : block_words fifth ≡
    0xa9ba7bfd ∷ 0xa90153f3 ∷ 0xa9025bf5 ∷ 0xa90363f7 ∷ 0xa9046bf9 ∷ 0xa90573fb ∷ 0xaa0003f3 ∷ 0xaa0103f4
    ∷ 0xaa0203f5 ∷ 0xaa0303f6 ∷ 0x2a0403fb ∷ 0xaa0503f9 ∷ 0x5280001a ∷ 0x11000749 ∷ 0x6b1b013f ∷ 0x540000c9
    ∷ 0x5280a009 ∷ 0x72a40009 ∷ 0xb9004a69 ∷ 0x11000340 ∷ 0x1400001c ∷ 0xf9401689 ∷ 0x58000441 ∷ 0xf940002a
    ∷ 0xeb0a013f ∷ 0x54000140 ∷ 0xaa1403e0 ∷ 0x580003e9 ∷ 0xd63f0120 ∷ 0x350000c0 ∷ 0x5280a009 ∷ 0x72a40009
    ∷ 0xb9004a69 ∷ 0x11000340 ∷ 0x1400000e ∷ 0xb9400665 ∷ 0x2a0503e0 ∷ 0x2a0003e6 ∷ 0xb9000e66 ∷ 0x1100075a
    ∷ 0x14000001 ∷ 0x5280a049 ∷ 0x72a40009 ∷ 0xb9004a69 ∷ 0x10ffff8a ∷ 0xf900128a ∷ 0x2a1a03e0 ∷ 0x14000001
    ∷ 0xa94573fb ∷ 0xa9446bf9 ∷ 0xa94363f7 ∷ 0xa9425bf5 ∷ 0xa94153f3 ∷ 0xa8c67bfd ∷ 0xd65f03c0 ∷ 0xd503201f
    ∷ 0x9abcdef0 ∷ 0x12345678 ∷ 0x76543210 ∷ 0xfedcba98 ∷ []
unfolding block_words block_lines block_code sites starts add_imm brk_first even loads try_region extended align_test map_test stores call exit_imm chain ind hold check_brk fork limit guard load store step_code step_cache steps_code opening closing position latest oldest chosen spill slot_for seated ld_reg st_reg stored flush_from flush reload_from reload mov32 lowered op_steps ops_steps block_steps index add halves pad_of base_of words lines instrs whole_lines pool_in find_in lines_words
fifth-words = refl

pub fifth-sites : sites fifth ≡ record { at = 40; target = 0x20000502 } ∷ []
unfolding block_words block_lines block_code sites starts add_imm brk_first even loads try_region extended align_test map_test stores call exit_imm chain ind hold check_brk fork limit guard load store step_code step_cache steps_code opening closing position latest oldest chosen spill slot_for seated ld_reg st_reg stored flush_from flush reload_from reload mov32 lowered op_steps ops_steps block_steps index add halves pad_of base_of words lines instrs whole_lines pool_in find_in lines_words
fifth-sites = refl

-- The forms of 2026-09: a signed halfword by a register's amount; a word stored alone past the code map by a negative increment, its base
-- moved first; a byte whose index is its target, with a glued break check; memory less a bit, stored back; the end by a halfword of a
-- table. Behind an odd.
abbrev sixth : Block
sixth =
    record {
      layout = layout;
      memory = record { ram_base = 0x20000000; ram_len = 64; xip_base = 0x02000000; xip_len = 16; map = true };
      addresses = addresses;
      pc0 = 0x02000600;
      guard = no_guard;
      ops =
          padded 32
          (record { fast = LdPre 1 2 (ByReg 3) B16 true; len = 2; glue = false }
          ∷ record { fast = StPre 4 2 (ByInc 0xfffffffc) B32; len = 2; glue = false }
          ∷ record { fast = LdPostR 5 2 5 B8 false; len = 2; glue = true }
          ∷ record { fast = MemA4 2 8 Sub RkBit 3; len = 2; glue = false }
          ∷ record { fast = Tb 1 true; len = 4; glue = false }
          ∷ []);
      n = 5;
    }

pub sixth-words : block_words sixth ≡
    0xa9ba7bfd ∷ 0xa90153f3 ∷ 0xa9025bf5 ∷ 0xa90363f7 ∷ 0xa9046bf9 ∷ 0xa90573fb ∷ 0xaa0003f3 ∷ 0xaa0103f4
    ∷ 0xaa0203f5 ∷ 0xaa0303f6 ∷ 0x2a0403fb ∷ 0xaa0503f9 ∷ 0x5280001a ∷ 0x11001749 ∷ 0x6b1b013f ∷ 0x540000c9
    ∷ 0x5280c009 ∷ 0x72a04009 ∷ 0xb9004a69 ∷ 0x11000340 ∷ 0x14000108 ∷ 0xb9400a65 ∷ 0x2a0503e0 ∷ 0xb9400e66
    ∷ 0x2a0603e1 ∷ 0x0b010000 ∷ 0x2a0003e5 ∷ 0x52a40002 ∷ 0x4b020003 ∷ 0x12800022 ∷ 0x0a020063 ∷ 0x528007c2
    ∷ 0x6b02007f ∷ 0x54000068 ∷ 0x78e34aa0 ∷ 0x14000014 ∷ 0x52a04002 ∷ 0x4b020003 ∷ 0x12800022 ∷ 0x0a020063
    ∷ 0x528001c2 ∷ 0x6b02007f ∷ 0x54000068 ∷ 0x78e34ac0 ∷ 0x1400000b ∷ 0x2a0003e1 ∷ 0xaa1403e0 ∷ 0x11000342
    ∷ 0x52800043 ∷ 0xb9000a65 ∷ 0x58001e49 ∷ 0xd63f0120 ∷ 0xb9400a65 ∷ 0xb9400e66 ∷ 0x13003c00 ∷ 0x2a0003e7
    ∷ 0xb9401a89 ∷ 0x34000109 ∷ 0xb9000a65 ∷ 0xb9000667 ∷ 0x5280c049 ∷ 0x72a04009 ∷ 0xb9004a69 ∷ 0x11000740
    ∷ 0x140000dc ∷ 0x2a0503e0 ∷ 0x51001000 ∷ 0x2a0003e5 ∷ 0xb9401268 ∷ 0x2a0803e1 ∷ 0x37000180 ∷ 0x37080160
    ∷ 0x52a40002 ∷ 0x4b020003 ∷ 0x52800782 ∷ 0x6b02007f ∷ 0x540000c8 ∷ 0x53027c62 ∷ 0x38624b22 ∷ 0x35000062
    ∷ 0xb8234aa1 ∷ 0x1400000e ∷ 0x2a0103e2 ∷ 0x2a0003e1 ∷ 0xaa1403e0 ∷ 0x11000743 ∷ 0x52800084 ∷ 0xb9000a65
    ∷ 0xb9000667 ∷ 0x580019a9 ∷ 0xd63f0120 ∷ 0xb9400a65 ∷ 0xb9400e66 ∷ 0xb9400667 ∷ 0xb9401268 ∷ 0xb9401a89
    ∷ 0x34000109 ∷ 0xb9000a65 ∷ 0xb9000667 ∷ 0x5280c089 ∷ 0x72a04009 ∷ 0xb9004a69 ∷ 0x11000b40 ∷ 0x140000b5
    ∷ 0xb940166e ∷ 0x2a0e03f7 ∷ 0x2a0503e0 ∷ 0x52a40002 ∷ 0x4b020003 ∷ 0x528007e2 ∷ 0x6b02007f ∷ 0x54000068
    ∷ 0x38634aa0 ∷ 0x14000015 ∷ 0x52a04002 ∷ 0x4b020003 ∷ 0x528001e2 ∷ 0x6b02007f ∷ 0x54000068 ∷ 0x38634ac0
    ∷ 0x1400000e ∷ 0x2a0003e1 ∷ 0xaa1403e0 ∷ 0x11000b42 ∷ 0x52800023 ∷ 0xb9000a65 ∷ 0xb9000667 ∷ 0x580014a9
    ∷ 0xd63f0120 ∷ 0xb9400a65 ∷ 0xb9400e66 ∷ 0xb9400667 ∷ 0xb9401268 ∷ 0xb940166e ∷ 0x2a0003ee ∷ 0x2a0503e0
    ∷ 0x0b170000 ∷ 0x2a0003e5 ∷ 0xb9401a89 ∷ 0x34000169 ∷ 0x52800029 ∷ 0xb9004e69 ∷ 0xb9000a65 ∷ 0xb9000667
    ∷ 0xb900166e ∷ 0x5280c0c9 ∷ 0x72a04009 ∷ 0xb9004a69 ∷ 0x11000f40 ∷ 0x14000087 ∷ 0x2a0603e2 ∷ 0x52800021
    ∷ 0x1ac22021 ∷ 0x2a0103f8 ∷ 0x2a0503e0 ∷ 0x11002017 ∷ 0x2a1703e0 ∷ 0x52a40002 ∷ 0x4b020003 ∷ 0x52800782
    ∷ 0x6b02007f ∷ 0x54000068 ∷ 0xb8634aa0 ∷ 0x14000016 ∷ 0x52a04002 ∷ 0x4b020003 ∷ 0x52800182 ∷ 0x6b02007f
    ∷ 0x54000068 ∷ 0xb8634ac0 ∷ 0x1400000f ∷ 0x2a0003e1 ∷ 0xaa1403e0 ∷ 0x11000f42 ∷ 0x52800083 ∷ 0xb9000a65
    ∷ 0xb9000667 ∷ 0xb900166e ∷ 0x58000e49 ∷ 0xd63f0120 ∷ 0xb9400a65 ∷ 0xb9400e66 ∷ 0xb9400667 ∷ 0xb9401268
    ∷ 0xb940166e ∷ 0x2a1803e1 ∷ 0x4b010000 ∷ 0x2a0003e1 ∷ 0x2a1703e0 ∷ 0x37000180 ∷ 0x37080160 ∷ 0x52a40002
    ∷ 0x4b020003 ∷ 0x52800782 ∷ 0x6b02007f ∷ 0x540000c8 ∷ 0x53027c62 ∷ 0x38624b22 ∷ 0x35000062 ∷ 0xb8234aa1
    ∷ 0x14000010 ∷ 0x2a0103e2 ∷ 0x2a0003e1 ∷ 0xaa1403e0 ∷ 0x11000f43 ∷ 0x52800084 ∷ 0xb9000a65 ∷ 0xb9000667
    ∷ 0xb900166e ∷ 0x58000aa9 ∷ 0xd63f0120 ∷ 0xb9400a65 ∷ 0xb9400e66 ∷ 0xb9400667 ∷ 0xb9401268 ∷ 0xb940166e
    ∷ 0xb9401a89 ∷ 0x34000129 ∷ 0xb9000a65 ∷ 0xb9000667 ∷ 0xb900166e ∷ 0x5280c109 ∷ 0x72a04009 ∷ 0xb9004a69
    ∷ 0x11001340 ∷ 0x1400003b ∷ 0x2a0703e0 ∷ 0x5280c189 ∷ 0x72a04009 ∷ 0x0b090000 ∷ 0x52a40002 ∷ 0x4b020003
    ∷ 0x12800022 ∷ 0x0a020063 ∷ 0x528007c2 ∷ 0x6b02007f ∷ 0x54000068 ∷ 0x78634aa0 ∷ 0x14000018 ∷ 0x52a04002
    ∷ 0x4b020003 ∷ 0x12800022 ∷ 0x0a020063 ∷ 0x528001c2 ∷ 0x6b02007f ∷ 0x54000068 ∷ 0x78634ac0 ∷ 0x1400000f
    ∷ 0x2a0003e1 ∷ 0xaa1403e0 ∷ 0x11001342 ∷ 0x52800043 ∷ 0xb9000a65 ∷ 0xb9000667 ∷ 0xb900166e ∷ 0x580004a9
    ∷ 0xd63f0120 ∷ 0xb9400a65 ∷ 0xb9400e66 ∷ 0xb9400667 ∷ 0xb9401268 ∷ 0xb940166e ∷ 0x531f7800 ∷ 0x5280c189
    ∷ 0x72a04009 ∷ 0x0b090000 ∷ 0xb9000a65 ∷ 0xb9000667 ∷ 0xb900166e ∷ 0x2a0003ec ∷ 0x1100175a ∷ 0xb9401a89
    ∷ 0x35000129 ∷ 0x5301398a ∷ 0x580002cb ∷ 0x8b0a116b ∷ 0xb940016d ∷ 0x6b0c01bf ∷ 0x54000061 ∷ 0xf9400569
    ∷ 0xd61f0120 ∷ 0xb9004a6c ∷ 0x2a1a03e0 ∷ 0x14000001 ∷ 0xa94573fb ∷ 0xa9446bf9 ∷ 0xa94363f7 ∷ 0xa9425bf5
    ∷ 0xa94153f3 ∷ 0xa8c67bfd ∷ 0xd65f03c0 ∷ 0xd503201f ∷ 0x33334444 ∷ 0x11112222 ∷ 0x77778888 ∷ 0x55556666
    ∷ 0xbbbbcccc ∷ 0x9999aaaa ∷ []
unfolding block_words block_lines block_code sites starts add_imm brk_first even loads try_region extended align_test map_test stores call exit_imm chain ind hold check_brk fork limit load store step_code step_cache steps_code opening closing position latest oldest chosen spill slot_for seated ld_reg st_reg stored flush_from flush reload_from reload mov32 places up_from move_words push_all pop_all lowered op_steps ops_steps block_steps index add halves pad_of base_of words lines instrs whole_lines pool_in find_in lines_words
sixth-words = refl

pub sixth-sites : sites sixth ≡ []
unfolding block_words block_lines block_code sites starts add_imm brk_first even loads try_region extended align_test map_test stores call exit_imm chain ind hold check_brk fork limit load store step_code step_cache steps_code opening closing position latest oldest chosen spill slot_for seated ld_reg st_reg stored flush_from flush reload_from reload mov32 places up_from move_words push_all pop_all lowered op_steps ops_steps block_steps index add halves pad_of base_of words lines instrs whole_lines pool_in find_in lines_words
sixth-sites = refl
