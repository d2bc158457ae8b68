-- The RAM block run on both sides, by an answer of 2^31 and by 0: the card by its definition, the machine by the block's words. All of it
-- computes.
--     card-runs, card-leaves          how the card leaves, and its end
--     runs_there, leaves_there        the machine's end shows the same
-- Assumes nothing.
use mathlib.Core.Path.{◌≡◌, refl}
use mathlib.Core.List.{List, [], ◌∷◌, ◌++◌}
use Prim.Native.Nat.{ℕ, ◌+◌, ◌*◌, ◌^◌}
use lib.ListN.{get_or, drop}
use Rattle.arm.specs.Decode.{decode, find, size_of, add_sub_of, flags_of, shift_of, move_of, logic_of, second_of, extract_of, one_of, two_of}
use Rattle.arm.specs.Decode.{three_of, select_of, access_of, scale_of, mode_of, pair_of, test_of, jump_of, float_of, convert_of}
use Rattle.machine.specs.State.{State, Request, guard as arm_guard, processor, context, ram, guards}
use Rattle.machine.specs.Bits.{SInt, SignExtend, CountLeadingZeroBits, AddWithCarry, ConditionHolds}
use Rattle.machine.specs.Memory.{read_le, write_le, within, locate, load, store, bytes_of, bytes_of_words}
use Rattle.machine.specs.Execute.{execute}
use Rattle.machine.specs.Encoders.{encoders, has_encoder}
use Rattle.machine.specs.Machine.{Status, at_return, Run, fetch, instruction, step, run}
use Rattle.card.specs.Card.{RamGuard, Card, guard}
use Rattle.card.specs.Step.{exits, chains, op_step}
use Rattle.card.specs.Run.{left, ops_from, run as run_card}
use Rattle.demand.specs.Premises.{ram_guards}
use Rattle.example.proofs.Common.{words_at}
use Rattle.example.proofs.GuardStart.{helpers, block, listing, flash, ours, ram_with, card_of, card, start}

-- the sum is done, by a chain site; or nothing, with pc the block's address; either way with RAM and version as the outcome left them
abbrev pub ran : Card
ran = card_of 101 (ram_with 0x5a) ours 0x20000012 1 (guard 0x900000 ∷ []) []

abbrev pub stayed : Card
stayed = card_of 100 (ram_with 0x5a) ours 0x20000010 0 (guard 0x900000 ∷ []) []

pub card-runs : run_card block flash 100 (card (2 ^ 31)) ≡ left (chains 0) ran
unfolding run_card ops_from op_step
card-runs = refl

pub card-leaves : run_card block flash 100 (card 0) ≡ left exits stayed
unfolding run_card ops_from op_step
card-leaves = refl

-- ---- the machine, allowed as many steps as there are words
pub runs : (answer : ℕ) → Run
unfolding listing bytes_of_words run step fetch instruction execute encoders has_encoder load store locate within read_le write_le SInt SignExtend CountLeadingZeroBits AddWithCarry ConditionHolds decode find size_of add_sub_of flags_of shift_of move_of logic_of second_of extract_of one_of two_of three_of select_of access_of scale_of mode_of pair_of test_of jump_of float_of convert_of
runs v = run 60 helpers (start v)

-- what is looked at: how it left; registers, sp, rets, pc and hold; RAM; requests; the done count, the slot, the context's version
pub record Shown : Type 0 where
  pub status : Status
  pub words : List ℕ
  pub bytes : List ℕ
  pub requests : List Request
  pub done : ℕ
  pub slot : ℕ
  pub version : ℕ
  pub versions : List RamGuard
  pub behind : List ℕ

abbrev pub shown : Run → Shown
shown r =
    let s : State = r.state in
    record {
      status = r.status;
      words = words_at (bytes_of s.mem processor) 0 20;
      bytes = bytes_of s.mem ram;
      requests = s.requests;
      done = get_or s.x 0 0;
      slot = read_le (bytes_of s.mem context) 32 8;
      version = read_le (bytes_of s.mem context) 40 8;
      versions = ram_guards (drop guards s.mem);
      behind = drop 8 (bytes_of s.mem guards);
    }

-- the same of a card, with the slot
abbrev pub expected : (slot : ℕ) → Card → Shown
expected l c =
    record {
      status = at_return;
      words = c.regs ++ (c.sp ∷ c.rets ∷ c.pc ∷ c.hold ∷ []);
      bytes = c.ram;
      requests = arm_guard 0x900000 ∷ [];
      done = c.done;
      slot = l;
      version = c.version;
      versions = c.guards;
      behind = 0x77 ∷ 0x77 ∷ 0x77 ∷ 0x77 ∷ 0x77 ∷ 0x77 ∷ 0x77 ∷ 0x77 ∷ [];
    }

pub runs_there : shown (runs (2 ^ 31)) ≡ expected (0x100000 + 4 * 41) ran
unfolding runs read_le
runs_there = refl

pub leaves_there : shown (runs 0) ≡ expected 0 stayed
unfolding runs read_le
leaves_there = refl
