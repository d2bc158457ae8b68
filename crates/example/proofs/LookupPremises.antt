-- The premises can be met, at the body too: without a code map, with a break word that is set and a limit that is met exactly.
--     checked            what holds of every accepted block
--     premises_met       "Premises for a run"
-- Assumes nothing.
use mathlib.Core.Path.{◌≡◌, refl, sym, ap, ◌∙◌}
use mathlib.Core.Bool.{false}
use mathlib.Core.List.{[], ◌++◌}
use Prim.Native.Nat.{ℕ, ◌+◌, ◌*◌, ◌-◌, ◌^◌, ◌≤◌}
use native.Mathlib.Omega.{arith}
use lib.ListN.{length, length-append, length-replicate, replicate}
use Rattle.machine.specs.State.{processor, code as code_at, table as table_at}
use Rattle.machine.specs.Memory.{read_le, bytes_of_words, bytes_of, base_of, size_of}
use Rattle.card.specs.Card.{reg}
use Rattle.card.specs.Step.{looks_up}
use Rattle.lowering.specs.Compile.{body_offset}
use Rattle.lowering.specs.Fragments.{opening}
use Rattle.block.specs.Checked.{Checked}
use Rattle.demand.specs.Premises.{body, AtBody, Held, PlacesIn, Elsewhere, Premises}
use Rattle.example.proofs.Common.{helpers, checked_of, Each, each, Small, placed_of, apart_of, elsewhere_of, not_stopped}
use Rattle.example.proofs.LookupStart.{ops, block, listing, listing_is, flash, card, context, entry, table, memory, registers, start}
use Rattle.example.proofs.LookupBoth.{end, card-ends}

pub checked : Checked block
checked =
    checked_of false ops (omega arith)
    (record { fast = (omega arith, omega arith, omega arith); len = omega arith }, (record { fast = omega arith; len = omega arith }, tt))
    (refl, tt) refl

-- ---- the regions
with_entry : (n : ℕ) → length (entry ++ replicate n 0) ≡ 16 + n
with_entry n = length-append entry (replicate n 0) ∙ ap (λ k. 16 + k) (length-replicate {A = ℕ} n 0)

table_long : size_of memory table_at ≡ 16384 * 16
table_long = with_entry (16384 * 16 - 16)

code_long : size_of memory code_at ≤ 2 ^ 20
unfolding bytes_of_words listing
code_long = omega arith

processor_long : size_of memory processor ≤ 2 ^ 20
unfolding bytes_of_words
processor_long = omega arith

small : Small memory
unfolding Each
small = (
  code_long,
  (omega arith, (processor_long, (omega arith, (omega arith, (omega arith, (omega arith, (omega (arith, table_long), tt))))))),
)

elsewhere : (a : ℕ) → 9 * 2 ^ 20 ≤ a → Elsewhere start a
elsewhere = elsewhere_of memory (omega arith) (placed_of card listing context flash table) small registers 0x200010 0x100034 []

-- ---- the card's state stands in the processor record
held : Held block.layout card (bytes_of memory processor)
unfolding Each read_le bytes_of_words
held =
    record {
      regs =
          each (λ r. read_le (bytes_of memory processor) (block.layout.regs + 4 * r) 4 ≡ reg card r) 16
          (refl, (refl, (refl, (refl, (refl, (refl, (refl, (refl, (refl, (refl, (refl, (refl, (refl, (refl, (refl, (refl, tt))))))))))))))));
      sp = refl;
      rets = refl;
      hold = refl;
      pc = refl;
    }

break_set : read_le context 24 4 ≡ 1
unfolding read_le
break_set = refl

no_version : read_le context 40 8 ≡ 0
unfolding read_le
no_version = refl

places_in : PlacesIn block.layout (size_of memory processor)
unfolding bytes_of_words
places_in = record { regs = omega arith; sp = omega arith; rets = omega arith; pc = omega arith; hold = omega arith }

-- "at the body": done 7 and two operations are the limit
body-pc : start.pc ≡ base_of memory code_at + body_offset
unfolding body_offset opening
body-pc = refl

at_body : AtBody block 9 card start
at_body =
    record {
      pc = body-pc;
      x19 = refl;
      x20 = refl;
      x21 = refl;
      x22 = refl;
      w26 = refl;
      w27 = refl;
      x25 = λ e. absurd (let z : ◌≡◌ {A = ℕ} 0 1 = cc in omega arith);
      room = omega arith;
      inside = omega arith;
    }

-- ALL PREMISES, met
pub premises_met : Premises block helpers body 9 card start
premises_met =
    record {
      registers = refl;
      regions = omega arith;
      count = refl;
      sp_lt = omega arith;
      words = ap bytes_of_words (sym listing_is);
      sixteen = refl;
      held = held;
      ram_is = refl;
      map_is = refl;
      brk_is = break_set;
      version_is = no_version;
      guards_are = refl;
      none_yet = refl;
      none_yet-card = refl;
      starts = at_body;
      done_lt = omega arith;
      aligned = refl;
      apart = apart_of memory (omega arith) (placed_of card listing context flash table) small;
      places = places_in;
      ram-size = refl;
      xip-size = refl;
      map-size = λ e. absurd (let z : ◌≡◌ {A = ℕ} 0 1 = cc in omega arith);
      code-aligned = refl;
      h-read = refl;
      h-write = refl;
      differ = λ e. omega (arith, e);
      read-elsewhere = elsewhere 0x900000 (omega arith);
      write-elsewhere = elsewhere 0xa00000 (omega arith);
      guard-sizes = λ k l m. absurd (omega arith);
      guarded = λ e. absurd (let z : ◌≡◌ {A = ℕ} 0 1 = cc in omega arith);
      outcomes = refl;
      fit = tt;
      enough = not_stopped looks_up end card-ends;
      context-size = omega arith;
      table-size = table_long;
      table-at = refl;
    }
