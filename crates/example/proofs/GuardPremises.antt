-- The premises can be met by a RAM block too: its guard is the ninth region, and its helper's address differs from the others.
--     checked            what holds of every accepted block
--     premises_met       "Premises for a run", where the card does not stop
-- Assumes nothing.
use mathlib.Core.Path.{◌≡◌, refl, sym, ap, subst}
use mathlib.Core.Logic.{◌≢◌}
use mathlib.Core.Bool.{false}
use mathlib.Core.List.{[], ◌∷◌}
use Prim.Native.Nat.{ℕ, zero, suc, ◌+◌, ◌*◌, ◌^◌, ◌≤◌, ◌<◌}
use native.Mathlib.Omega.{arith}
use lib.ListN.{length, get_or, length-replicate}
use Rattle.machine.specs.State.{processor, code as code_at, table as table_at, guards}
use Rattle.machine.specs.Memory.{read_le, bytes_of_words, bytes_of, size_of}
use Rattle.card.specs.Card.{Card, reg}
use Rattle.card.specs.Run.{stopped}
use Rattle.card.specs.Run.{run as run_card}
use Rattle.block.specs.Checked.{Checked}
use Rattle.demand.specs.Premises.{first, AtFirst, Held, PlacesIn, Elsewhere, Guarded, ram_guards, AllFit, Premises}
use Rattle.example.proofs.Common.{checked_at, Each, each, Placed, Small, apart_of, elsewhere_of}
use Rattle.example.proofs.GuardStart.{ops, addresses, guard_at, block, helpers, listing, listing_is, ours, outside, flash, card}
use Rattle.example.proofs.GuardStart.{context, ram_guard, memory, registers, start}

pub checked : Checked block
checked =
    checked_at 0x20000010 addresses guard_at false ops
    (record {
      addresses = record { h-read = omega arith; h-write = omega arith; table = omega arith };
      pc0 = omega arith;
      in-ram = λ e. record { from = omega arith; before = omega arith; to = omega arith };
      guard = record { at = omega arith; h-ram-ok = omega arith };
    })
    (omega arith) (record { fast = (omega arith, omega arith, omega arith); len = omega arith }, tt) tt refl

-- the context's version, and the guard's
context-version : read_le context 40 8 ≡ ours
unfolding read_le
context-version = refl

module _ (v : ℕ) where
  -- ---- the regions
  table_long : size_of (memory v) table_at ≡ 16384 * 16
  table_long = length-replicate {A = ℕ} (16384 * 16) 0

  code_long : size_of (memory v) code_at ≤ 2 ^ 20
  unfolding bytes_of_words listing
  code_long = omega arith

  processor_long : size_of (memory v) processor ≤ 2 ^ 20
  unfolding bytes_of_words
  processor_long = omega arith

  placed : Placed (memory v)
  unfolding Each
  placed = (refl, (refl, (refl, (refl, (refl, (refl, (refl, (refl, (refl, tt)))))))))

  small : Small (memory v)
  unfolding Each
  small = (
    code_long,
    (omega arith, (processor_long, (omega arith, (omega arith, (omega arith, (omega arith, (omega (arith, table_long), (omega arith, tt)))))))),
  )

  elsewhere : (a : ℕ) → 10 * 2 ^ 20 ≤ a → Elsewhere (start v) a
  elsewhere = elsewhere_of (memory v) (omega arith) placed small registers 0x200080 0x100000 (outside v)

  -- ---- the card's state stands in the processor record
  held : Held block.layout (card v) (bytes_of (memory v) processor)
  unfolding Each read_le bytes_of_words
  held =
      record {
        regs =
            each (λ r. read_le (bytes_of (memory v) processor) (block.layout.regs + 4 * r) 4 ≡ reg (card v) r) 16
            (refl, (refl, (refl, (refl, (refl, (refl, (refl, (refl, (refl, (refl, (refl, (refl, (refl, (refl, (refl, (refl, tt))))))))))))))));
        sp = refl;
        rets = refl;
        hold = refl;
        pc = refl;
      }

  no_break : read_le (bytes_of (memory v) 3) 24 4 ≡ 0
  unfolding read_le
  no_break = refl

  guard-version : ram_guards (record { base = 0x900000; bytes = ram_guard } ∷ []) ≡ (card v).guards
  unfolding read_le
  guard-version = refl

  places_in : PlacesIn block.layout (size_of (memory v) processor)
  unfolding bytes_of_words
  places_in = record { regs = omega arith; sp = omega arith; rets = omega arith; pc = omega arith; hold = omega arith }

  at_first : AtFirst block 100 (card v) (start v)
  at_first =
      record {
        pc = refl;
        x0 = refl;
        x1 = refl;
        x2 = refl;
        x3 = refl;
        w4 = refl;
        x5 = λ e. absurd (let z : ◌≡◌ {A = ℕ} 0 1 = cc in omega arith);
        done = refl;
        room = omega arith;
        inside = omega arith;
      }

  fits : AllFit (start v) (outside v)
  fits = (
    record { brk = omega arith; ram = refl; map = refl; version = omega arith; guards_lt = one },
    tt,
  )
    where
      one : (k : ℕ) → get_or (ours ∷ []) k 0 < 2 ^ 64
      one zero = omega arith
      one (suc k) = omega arith

  guarded : Guarded block.guard helpers (start v)
  guarded =
      record {
        region = guards;
        from = omega arith;
        inside = omega arith;
        at = refl;
        h-ram-ok = refl;
        differ-read = λ e. omega (arith, e);
        differ-write = λ e. omega (arith, e);
        elsewhere = elsewhere 0xc00000 (omega arith);
      }

  guard-size : (k : ℕ) → guards ≤ k → k < length (memory v) → 8 ≤ size_of (memory v) k
  guard-size k l m = let z : k ≡ guards = omega arith in subst (λ j. 8 ≤ size_of (memory v) j) (sym z) (omega arith)

  -- ALL PREMISES, met
  pub premises_met : ((d : Card) → run_card block flash 100 (card v) ≢ stopped d) → Premises block helpers first 100 (card v) (start v)
  premises_met e =
      record {
        registers = refl;
        regions = omega arith;
        count = refl;
        sp_lt = omega arith;
        words = ap bytes_of_words (sym listing_is);
        sixteen = refl;
        held = held;
        ram_is = refl;
        map_is = refl;
        brk_is = no_break;
        version_is = context-version;
        guards_are = guard-version;
        none_yet = refl;
        none_yet-card = refl;
        starts = at_first;
        done_lt = omega arith;
        aligned = refl;
        apart = apart_of (memory v) (omega arith) placed small;
        places = places_in;
        ram-size = refl;
        xip-size = refl;
        map-size = λ e. absurd (let z : ◌≡◌ {A = ℕ} 0 1 = cc in omega arith);
        code-aligned = refl;
        h-read = refl;
        h-write = refl;
        differ = λ e. omega (arith, e);
        read-elsewhere = elsewhere 0xa00000 (omega arith);
        write-elsewhere = elsewhere 0xb00000 (omega arith);
        guard-sizes = guard-size;
        guarded = λ e. guarded;
        outcomes = refl;
        fit = fits;
        enough = e;
        context-size = omega arith;
        table-size = table_long;
        table-at = refl;
      }
