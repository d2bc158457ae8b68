-- That block run on both sides: the card by its definition, the machine by the block's words. All of it computes.
--     card-ends                                        how the card leaves, and its end
--     jumps, registers_end, cells, slot, next_body     the machine's end shows the same, and what the next body starts with
-- Assumes nothing.
use mathlib.Core.Path.{◌≡◌, refl}
use mathlib.Core.List.{List, [], ◌∷◌}
use Prim.Native.Nat.{ℕ}
use lib.ListN.{get_or}
use Rattle.arm.specs.Decode.{decode, find, size_of, add_sub_of, flags_of, shift_of, move_of, logic_of, second_of, extract_of, one_of, two_of}
use Rattle.arm.specs.Decode.{three_of, select_of, access_of, scale_of, mode_of, pair_of, test_of, jump_of, float_of, convert_of}
use Rattle.machine.specs.State.{processor, context, ram}
use Rattle.machine.specs.Bits.{SInt, SignExtend, CountLeadingZeroBits, AddWithCarry, ConditionHolds}
use Rattle.machine.specs.Memory.{read_le, write_le, within, locate, load, store, bytes_of, bytes_of_words}
use Rattle.machine.specs.Execute.{execute}
use Rattle.machine.specs.Encoders.{encoders, has_encoder}
use Rattle.machine.specs.Machine.{at_jump, Run, fetch, instruction, step, run}
use Rattle.card.specs.Card.{Card}
use Rattle.card.specs.Step.{looks_up, op_step}
use Rattle.card.specs.Run.{left, ops_from, run as run_card}
use Rattle.example.proofs.Common.{helpers, words_at}
use Rattle.example.proofs.LookupStart.{block, listing, flash, card, start}

-- register 3 and rets changed
abbrev pub end : Card
end =
    record {
      regs = 100 ∷ 0x10 ∷ 0x02008000 ∷ 0x15 ∷ 104 ∷ 105 ∷ 106 ∷ 107 ∷ 108 ∷ 109 ∷ 110 ∷ 111 ∷ 112 ∷ 113 ∷ 114 ∷ 115 ∷ [];
      sp = card.sp;
      rets = 0x02000106;
      hold = 0;
      ram = card.ram;
      map = [];
      brk = 1;
      version = 0;
      guards = [];
      pc = 0x02008000;
      done = 9;
      requests = [];
      outcomes = [];
    }

pub card-ends : run_card block flash 9 card ≡ left looks_up end
unfolding run_card ops_from op_step
card-ends = refl

-- ---- the machine, allowed as many steps as there are words
pub ran : Run
unfolding listing bytes_of_words run step fetch instruction execute encoders has_encoder load store locate within read_le write_le SInt SignExtend CountLeadingZeroBits AddWithCarry ConditionHolds decode find size_of add_sub_of flags_of shift_of move_of logic_of second_of extract_of one_of two_of three_of select_of access_of scale_of mode_of pair_of test_of jump_of float_of convert_of
ran = run 54 helpers start

pub jumps : ran.status ≡ at_jump
unfolding ran
jumps = refl

pub registers_end : words_at (bytes_of ran.state.mem processor) 0 16 ≡ end.regs
unfolding ran read_le
registers_end = refl

-- pc in register 12 and the done count in 26; sp, rets, the old pc and hold in the record
pub cells : ◌≡◌ {A = List ℕ} (get_or ran.state.x 12 0 ∷ get_or ran.state.x 26 0 ∷ words_at (bytes_of ran.state.mem processor) 64 4)
    (end.pc ∷ end.done ∷ end.sp ∷ end.rets ∷ card.pc ∷ end.hold ∷ [])
unfolding ran read_le
cells = refl

pub ram-ends : bytes_of ran.state.mem ram ≡ end.ram
unfolding ran
ram-ends = refl

pub slot : read_le (bytes_of ran.state.mem context) 32 8 ≡ 0x7777777777777777
unfolding ran read_le
slot = refl

-- where the run then is, sp, the limit, and the number of instructions executed
pub next_body : ◌≡◌ {A = List ℕ} (ran.state.pc ∷ ran.state.sp ∷ get_or ran.state.x 27 0 ∷ ran.state.count ∷ [])
    (0x180034 ∷ 0x200010 ∷ 9 ∷ 23 ∷ [])
unfolding ran
next_body = refl
