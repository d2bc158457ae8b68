-- The block run on both sides: the card by its definition, the machine by the block's words. All of it computes.
--     card-ends          how the card leaves, and its end
--     returns, registers, cells, ram-ends, requests_end, slot      the machine's end shows the same
-- Assumes nothing.
use mathlib.Core.Path.{◌≡◌, refl}
use mathlib.Core.List.{List, [], ◌∷◌}
use Prim.Native.Nat.{ℕ, ◌+◌, ◌*◌}
use lib.ListN.{get_or}
use Rattle.arm.specs.Decode.{decode, find, size_of, add_sub_of, flags_of, shift_of, move_of, logic_of, second_of, extract_of, one_of, two_of}
use Rattle.arm.specs.Decode.{three_of, select_of, access_of, scale_of, mode_of, pair_of, test_of, jump_of, float_of, convert_of}
use Rattle.machine.specs.Bits.{SInt, SignExtend, CountLeadingZeroBits, AddWithCarry, ConditionHolds}
use Rattle.machine.specs.State.{processor, context, ram}
use Rattle.machine.specs.Memory.{read_le, write_le, within, locate, load, store, bytes_of, bytes_of_words}
use Rattle.machine.specs.Execute.{execute}
use Rattle.machine.specs.Encoders.{encoders, has_encoder}
use Rattle.machine.specs.Machine.{at_return, Run, fetch, instruction, step, run}
use Rattle.block.specs.Block.{places}
use Rattle.card.specs.Word.{sign_extend}
use Rattle.card.specs.Card.{Card, read, write}
use Rattle.card.specs.Memory.{read_le as card_read_le, write_le as card_write_le, load as card_load, store as card_store, direct}
use Rattle.card.specs.Step.{chains, store_all, op_step}
use Rattle.card.specs.Run.{left, ops_from, run as run_card}
use Rattle.demand.specs.Outside.{all_arm}
use Rattle.example.proofs.Common.{helpers, words_at}
use Rattle.example.proofs.Start.{block, listing, after, flash, card, start}

-- registers 0, 3, 4, 6 and 8 changed, RAM as the outside left it, six operations done and a request each of the fifth and the sixth
abbrev pub end : Card
end =
    record {
      regs =
          0x12345678 ∷ 0x20000000 ∷ 0x3c ∷ 0x20000044 ∷ 0xffff8001 ∷ 9 ∷ 0xfffffffe ∷ 0x20000000 ∷ 0x40000000
          ∷ 109 ∷ 110 ∷ 111 ∷ 112 ∷ 113 ∷ 114 ∷ 115 ∷ [];
      sp = card.sp;
      rets = card.rets;
      hold = 0;
      ram = after;
      map = card.map;
      brk = 0;
      version = 0;
      guards = [];
      pc = 0x02000110;
      done = 6;
      requests = write 0x20000040 4 4 0xfffffffe ∷ read 0x40000006 2 5 ∷ [];
      outcomes = [];
    }

pub card-ends : run_card block flash 100 card ≡ left (chains 0) end
unfolding run_card ops_from places store_all op_step card_load card_store direct card_read_le card_write_le sign_extend
card-ends = refl

-- ---- the machine, allowed as many steps as there are words
pub ran : Run
unfolding listing bytes_of_words run step fetch instruction execute encoders has_encoder load store locate within read_le write_le SInt SignExtend CountLeadingZeroBits AddWithCarry ConditionHolds decode find size_of add_sub_of flags_of shift_of move_of logic_of second_of extract_of one_of two_of three_of select_of access_of scale_of mode_of pair_of test_of jump_of float_of convert_of
ran = run 232 helpers start

pub returns : ran.status ≡ at_return
unfolding ran
returns = refl

pub registers : words_at (bytes_of ran.state.mem processor) 0 16 ≡ end.regs
unfolding ran read_le
registers = refl

-- sp, rets, pc and hold in the record, the done count in register 0
pub cells : ◌≡◌ {A = List ℕ} (get_or ran.state.x 0 0 ∷ words_at (bytes_of ran.state.mem processor) 64 4)
    (end.done ∷ end.sp ∷ end.rets ∷ end.pc ∷ end.hold ∷ [])
unfolding ran read_le
cells = refl

pub ram-ends : bytes_of ran.state.mem ram ≡ end.ram
unfolding ran
ram-ends = refl

pub requests_end : ran.state.requests ≡ all_arm end.requests
unfolding ran
requests_end = refl

-- the address of the one chain site
pub slot : read_le (bytes_of ran.state.mem context) 32 8 ≡ 0x100000 + 4 * 213
unfolding ran read_le
slot = refl
