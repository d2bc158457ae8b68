-- The premises can be met, at the first word: the block is one that reading accepts, and the card and the machine of the example meet each
-- premise.
--     checked            what holds of every accepted block
--     premises_met       "Premises for a run"
-- Assumes nothing.
use mathlib.Core.Path.{◌≡◌, refl, sym, ap}
use mathlib.Core.Bool.{true}
use Prim.Native.Nat.{ℕ, ◌+◌, ◌*◌, ◌^◌, ◌≤◌}
use native.Mathlib.Omega.{arith}
use lib.ListN.{length-replicate}
use Rattle.machine.specs.State.{processor, code as code_at, table as table_at}
use Rattle.machine.specs.Memory.{read_le, bytes_of_words, bytes_of, size_of}
use Rattle.card.specs.Card.{reg}
use Rattle.card.specs.Step.{chains}
use Rattle.block.specs.Block.{places}
use Rattle.block.specs.Checked.{Checked}
use Rattle.demand.specs.Premises.{first, AtFirst, Held, PlacesIn, Elsewhere, OutcomeFits, Premises}
use Rattle.example.proofs.Common.{helpers, checked_of, Each, each, Small, placed_of, apart_of, elsewhere_of, not_stopped}
use Rattle.example.proofs.Start.{ops, block, listing, listing_is, outcome, outside, flash, card, context, table, memory, registers, start}
use Rattle.example.proofs.Both.{end, card-ends}

pub checked : Checked block
unfolding places
checked =
    checked_of true ops (omega arith) (
      record { fast = (omega arith, omega arith); len = omega arith },
      (
        record { fast = (omega arith, omega arith, omega arith); len = omega arith },
        (
          record { fast = (omega arith, omega arith, omega arith); len = omega arith },
          (
            record { fast = (omega arith, omega arith, omega arith); len = omega arith },
            (
              record { fast = (omega arith, omega arith); len = omega arith },
              (record { fast = (omega arith, omega arith, omega arith); len = omega arith }, tt),
            ),
          ),
        ),
      ),
    )
    (refl, (refl, (refl, (refl, (refl, tt))))) refl

-- ---- the regions
table_long : size_of memory table_at ≡ 16384 * 16
table_long = length-replicate {A = ℕ} (16384 * 16) 0

code_long : size_of memory code_at ≤ 2 ^ 20
unfolding bytes_of_words listing
code_long = omega arith

processor_long : size_of memory processor ≤ 2 ^ 20
unfolding bytes_of_words
processor_long = omega arith

small : Small memory
unfolding Each
small = (
  code_long,
  (omega arith, (processor_long, (omega arith, (omega arith, (omega arith, (omega arith, (omega (arith, table_long), tt))))))),
)

elsewhere : (a : ℕ) → 9 * 2 ^ 20 ≤ a → Elsewhere start a
elsewhere = elsewhere_of memory (omega arith) (placed_of card listing context flash table) small registers 0x200080 0x100000 outside

-- ---- the card's state stands in the processor record
held : Held block.layout card (bytes_of memory processor)
unfolding Each read_le bytes_of_words
held =
    record {
      regs =
          each (λ r. read_le (bytes_of memory processor) (block.layout.regs + 4 * r) 4 ≡ reg card r) 16
          (refl, (refl, (refl, (refl, (refl, (refl, (refl, (refl, (refl, (refl, (refl, (refl, (refl, (refl, (refl, (refl, tt))))))))))))))));
      sp = refl;
      rets = refl;
      hold = refl;
      pc = refl;
    }

no_break : read_le context 24 4 ≡ 0
unfolding read_le
no_break = refl

no_version : read_le context 40 8 ≡ 0
unfolding read_le
no_version = refl

fits : (v : ℕ) → OutcomeFits start (outcome v)
fits v =
    record { brk = omega arith; ram = refl; map = refl; version = omega arith; guards_lt = λ k. omega arith }

places_in : PlacesIn block.layout (size_of memory processor)
unfolding bytes_of_words
places_in = record { regs = omega arith; sp = omega arith; rets = omega arith; pc = omega arith; hold = omega arith }

-- "Start at the first word", with the limit 100
at_first : AtFirst block 100 card start
at_first =
    record {
      pc = refl;
      x0 = refl;
      x1 = refl;
      x2 = refl;
      x3 = refl;
      w4 = refl;
      x5 = λ _. refl;
      done = refl;
      room = omega arith;
      inside = omega arith;
    }

-- ALL PREMISES, met
pub premises_met : Premises block helpers first 100 card start
premises_met =
    record {
      registers = refl;
      regions = omega arith;
      count = refl;
      sp_lt = omega arith;
      words = ap bytes_of_words (sym listing_is);
      sixteen = refl;
      held = held;
      ram_is = refl;
      map_is = refl;
      brk_is = no_break;
      version_is = no_version;
      guards_are = refl;
      none_yet = refl;
      none_yet-card = refl;
      starts = at_first;
      done_lt = omega arith;
      aligned = refl;
      apart = apart_of memory (omega arith) (placed_of card listing context flash table) small;
      places = places_in;
      ram-size = refl;
      xip-size = refl;
      map-size = λ _. refl;
      code-aligned = refl;
      h-read = refl;
      h-write = refl;
      differ = λ e. omega (arith, e);
      read-elsewhere = elsewhere 0x900000 (omega arith);
      write-elsewhere = elsewhere 0xa00000 (omega arith);
      guard-sizes = λ k l m. absurd (omega arith);
      guarded = λ e. absurd (let z : ◌≡◌ {A = ℕ} 0 1 = cc in omega arith);
      outcomes = refl;
      fit = (fits 0xfeed, (fits 0x8001, tt));
      enough = not_stopped (chains 0) end card-ends;
      context-size = omega arith;
      table-size = table_long;
      table-at = refl;
    }
