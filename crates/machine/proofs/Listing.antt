-- Document 01's whole listing, an empty block, run from its first word. All of it computes.
use mathlib.Core.Path.{◌≡◌, refl}
use mathlib.Core.Bool.{false}
use mathlib.Core.List.{List, [], ◌∷◌}
use Prim.Native.Nat.{ℕ}
use lib.ListN.{get_or, replicate}
use Rattle.arm.specs.Decode.{decode, find, size_of, add_sub_of, flags_of, shift_of, move_of, logic_of, second_of, extract_of, one_of, two_of, three_of, select_of, access_of, scale_of, mode_of, pair_of, test_of, jump_of, float_of, convert_of}
use Rattle.machine.specs.Bits.{SInt, SignExtend, CountLeadingZeroBits, AddWithCarry, ConditionHolds}
use Rattle.machine.specs.State.{Region, State, context}
use Rattle.machine.specs.Memory.{read_le, write_le, within, locate, load, store, bytes_of, bytes_of_words}
use Rattle.machine.specs.Execute.{execute}
use Rattle.machine.specs.Encoders.{has_encoder}
use Rattle.machine.specs.Machine.{at_return, Run, fetch, instruction, step, run}

words : List ℕ
words =
    0xa9ba7bfd ∷ 0xa90153f3 ∷ 0xa9025bf5 ∷ 0xa90363f7 ∷ 0xa9046bf9 ∷ 0xa90573fb ∷ 0xaa0003f3 ∷ 0xaa0103f4 ∷ 0xaa0203f5 ∷ 0xaa0303f6
    ∷ 0x2a0403fb ∷ 0xaa0503f9 ∷ 0x5280001a ∷ 0x11000349 ∷ 0x6b1b013f ∷ 0x540000a9 ∷ 0x52a04009 ∷ 0xb9004a69 ∷ 0x11000340 ∷ 0x14000009
    ∷ 0x1100035a ∷ 0x14000001 ∷ 0x52a04009 ∷ 0xb9004a69 ∷ 0x10ffffaa ∷ 0xf900128a ∷ 0x2a1a03e0 ∷ 0x14000001 ∷ 0xa94573fb ∷ 0xa9446bf9
    ∷ 0xa94363f7 ∷ 0xa9425bf5 ∷ 0xa94153f3 ∷ 0xa8c67bfd ∷ 0xd65f03c0 ∷ []

region : ℕ → List ℕ → Region
region b l = record { base = b; bytes = l }

-- X0 to X5 are the arguments, X30 the return address; the limit is 5
start : State
unfolding words region bytes_of_words
start =
    record {
      x = 0x30000 ∷ 0x40000 ∷ 0x50000 ∷ 0x60000 ∷ 5 ∷ 0x70000 ∷ 6 ∷ 7 ∷ 8 ∷ 9 ∷ 10 ∷ 11 ∷ 12 ∷ 13 ∷ 14 ∷ 15 ∷ 16 ∷ 17 ∷ 18 ∷ 19 ∷ 20 ∷ 21 ∷ 22 ∷ 23 ∷ 24 ∷ 25
          ∷ 26 ∷ 27 ∷ 28 ∷ 29 ∷ 0x1234 ∷ [];
      sp = 0x20060;
      nzcv = record { n = false; z = false; c = false; v = false };
      pc = 0x10000;
      mem = region 0x10000 (bytes_of_words words) ∷ region 0x20000 (replicate 96 0) ∷ region 0x30000 (replicate 80 0) ∷ region 0x40000 (replicate 40 0)
          ∷ region 0x50000 (replicate 4 0) ∷ region 0x60000 (replicate 4 0) ∷ region 0x70000 (0 ∷ []) ∷ region 0x80000 [] ∷ [];
      outcomes = [];
      requests = [];
      count = 0;
    }

-- a run allowed as many steps as there are words
end : Run
unfolding start words bytes_of_words run step fetch instruction execute has_encoder load store locate within read_le write_le SInt SignExtend CountLeadingZeroBits AddWithCarry ConditionHolds decode find size_of add_sub_of flags_of shift_of move_of logic_of second_of extract_of one_of two_of three_of select_of access_of scale_of mode_of pair_of test_of jump_of float_of convert_of
end = run 35 (record { h-read = 0x90000; h-write = 0x90010; h-ram-ok = 0x90020 }) start

status : end.status ≡ at_return
unfolding end
status = refl

-- 31 instructions: done count 0 in register 0, registers 19 to 30 and sp as they were, the block's address in the record's pc field,
-- the chain site's address in the slot
numbers : ◌≡◌ {A = List ℕ}
    (end.state.count ∷ end.state.pc ∷ end.state.sp ∷ get_or end.state.x 0 1 ∷ get_or end.state.x 19 0 ∷ get_or end.state.x 28 0 ∷ get_or end.state.x 30 0
    ∷ read_le (bytes_of end.state.mem 2) 72 4 ∷ read_le (bytes_of end.state.mem context) 32 8 ∷ [])
    (31 ∷ 0x1234 ∷ 0x20060 ∷ 0 ∷ 19 ∷ 28 ∷ 0x1234 ∷ 0x02000000 ∷ 0x10054 ∷ [])
unfolding end
numbers = refl

no_requests : end.state.requests ≡ []
unfolding end
no_requests = refl
