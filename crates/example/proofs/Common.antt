-- What the examples have in common.
--     block_at, checked_at              blocks with the same fields 01 and 02, and what holds of every accepted block; block_of, checked-of:
--                                      flash blocks with the same fields 01 to 04
--     record_of, memory_of, start_of      the card in the processor record; region i from (i + 1) * 2^20 on; a state that has counted nothing
--     apart_of, elsewhere_of           the regions lie apart, and the helpers' addresses in none of them
--     not_stopped                      a card that leaves has outcomes enough
-- Assumes nothing.
use mathlib.Core.Path.{◌≡◌, refl, ap}
use mathlib.Core.Logic.{◌≢◌, ◌⊎◌, inl, inr}
use mathlib.Core.Bool.{Bool, true, false, ◌&&◌}
use mathlib.Core.List.{List, [], ◌∷◌, ◌++◌}
use Prim.Native.Nat.{ℕ, zero, suc, ◌+◌, ◌*◌, ◌^◌, ◌≤◌, ◌<◌}
use native.Mathlib.Omega.{arith}
use borrow.Author.Tests.{leb-true}
use lib.Dec.{leb}
use lib.ListN.{length, replicate}
use Rattle.block.specs.declared.Fast.TheVariants.{Nop}
use Rattle.block.specs.declared.BOp.{BOp}
use Rattle.block.specs.declared.Addresses.{Addresses}
use Rattle.block.specs.declared.Guard.{Guard}
use Rattle.block.specs.declared.Block.{Block}
use Rattle.block.specs.Block.{ops_of, moved, in_flash, no_guard, lengths}
use Rattle.block.specs.Checked.{AddressesFit, GuardFits, InRam, OpsFit, NoneAfterJump, GroupsFit, Checked}
use Rattle.machine.specs.State.{Region, Outcome, State}
use Rattle.machine.specs.Memory.{read_le, bytes_of_words, base_of, size_of, Apart, Disjoint}
use Rattle.machine.specs.Execute.{Helpers}
use Rattle.card.specs.Card.{Card}
use Rattle.card.specs.Step.{Way}
use Rattle.card.specs.Run.{End, left, stopped}
use Rattle.demand.specs.Premises.{Elsewhere}

-- ---- the block
abbrev padded : ℕ → List BOp → List BOp
padded zero os = []
padded (suc k) [] = record { fast = Nop; len = 0; glue = false } ∷ padded k []
padded (suc k) (o ∷ os) = o ∷ padded k os

abbrev pub block_at : (pc : ℕ) → Addresses → Guard → (map : Bool) → List BOp → Block
block_at pc a g m os =
    record {
      layout = record { regs = 0; sp = 64; rets = 68; pc = 72; hold = 76 };
      memory = record { ram_base = 0x20000000; ram_len = 64; xip_base = 0x02000000; xip_len = 16; map = m };
      addresses = a;
      pc0 = pc;
      guard = g;
      ops = padded 32 os;
      n = length os;
    }

-- a flash block
abbrev pub block_of : (map : Bool) → List BOp → Block
block_of =
    block_at 0x02000100 (record { h_read = 0x900000; h_write = 0xa00000; table = 0x800000 }) no_guard

padded-length : (k : ℕ) (os : List BOp) → length (padded k os) ≡ k
padded-length zero os = refl
padded-length (suc k) [] = ap suc (padded-length k [])
padded-length (suc k) (o ∷ os) = ap suc (padded-length k os)

-- a group of at most four words is no longer than XIP's sixteen bytes, nor than RAM
abbrev few : List BOp → Bool
few [] = true
few (o ∷ os) = leb (moved o.fast) 4 && few os

groups-fit : (m : Bool) (os qs : List BOp) → few qs ≡ true → GroupsFit (block_of m os).memory qs
groups-fit m os [] e = tt
groups-fit m os (o ∷ qs) e = by (leb (moved o.fast) 4) refl e (groups-fit m os qs)
  where
    by : (u : Bool) → leb (moved o.fast) 4 ≡ u → u && few qs ≡ true → (few qs ≡ true → GroupsFit (block_of m os).memory qs)
        → GroupsFit (block_of m os).memory (o ∷ qs)
    by true h k g = let l : moved o.fast ≤ 4 = leb-true (moved o.fast) 4 h in ((omega arith, omega arith), g k)
    by false h k g = absurd (let z : ◌≡◌ {A = ℕ} 0 1 = cc in omega arith)

-- what each block says of its own
pub record Own (b : Block) : Type 0 where
  pub addresses : AddressesFit b.addresses
  pub pc0 : b.pc0 < 2 ^ 32
  pub in-ram : in_flash b.pc0 ≡ false → InRam b.memory b.pc0 (lengths (ops_of b))
  pub guard : GuardFits b.guard

pub checked_at : (pc : ℕ) (a : Addresses) (g : Guard) (m : Bool) (os : List BOp) → Own (block_at pc a g m os) → length os ≤ 32
    → OpsFit (ops_of (block_at pc a g m os)) → NoneAfterJump (ops_of (block_at pc a g m os)) → few (ops_of (block_at pc a g m os)) ≡ true
    → Checked (block_at pc a g m os)
checked_at pc a g m os own l f n k =
    record {
      layout =
          record {
            regs = record { inside = omega arith; aligned = refl };
            sp = record { inside = omega arith; aligned = refl };
            rets = record { inside = omega arith; aligned = refl };
            pc = record { inside = omega arith; aligned = refl };
            hold = record { inside = omega arith; aligned = refl };
            regs-sp = inl (omega arith);
            regs-rets = inl (omega arith);
            regs-pc = inl (omega arith);
            regs-hold = inl (omega arith);
            sp-rets = inl (omega arith);
            sp-pc = inl (omega arith);
            sp-hold = inl (omega arith);
            rets-pc = inl (omega arith);
            rets-hold = inl (omega arith);
            pc-hold = inl (omega arith);
          };
      memory =
          record {
            ram = record { long = omega arith; aligned = refl; inside = omega arith };
            xip = record { long = omega arith; aligned = refl; inside = omega arith };
          };
      addresses = own.addresses;
      pc0 = own.pc0;
      in-ram = own.in-ram;
      guard = own.guard;
      count = l;
      size = padded-length 32 os;
      ops = f;
      last-jumps = n;
      groups = groups-fit m os (ops_of (block_at pc a g m os)) k;
    }

pub checked_of : (m : Bool) (os : List BOp) → length os ≤ 32
    → OpsFit (ops_of (block_of m os)) → NoneAfterJump (ops_of (block_of m os)) → few (ops_of (block_of m os)) ≡ true → Checked (block_of m os)
checked_of m os =
    checked_at _ _ _ m os (record {
      addresses = record { h-read = omega arith; h-write = omega arith; table = omega arith };
      pc0 = omega arith;
      in-ram = λ e. absurd (let z : ◌≡◌ {A = ℕ} 0 1 = cc in omega arith);
      guard = record { at = omega arith; h-ram-ok = omega arith };
    })

-- ---- the machine; a flash block never calls `h_ram_ok`, which may be any address
abbrev pub helpers : Helpers
helpers = record { h-read = 0x900000; h-write = 0xa00000; h-ram-ok = 0 }

abbrev region : ℕ → List ℕ → Region
region b l = record { base = b; bytes = l }

-- the card's state in the processor record
abbrev pub record_of : Card → List ℕ
record_of c = bytes_of_words (c.regs ++ (c.sp ∷ c.rets ∷ c.pc ∷ c.hold ∷ []))

abbrev pub memory_of : Card → (words context flash table : List ℕ) → List Region
memory_of c ws cx fl tb =
    region 0x100000 (bytes_of_words ws) ∷ region 0x200000 (replicate 128 0) ∷ region 0x300000 (record_of c) ∷ region 0x400000 cx
    ∷ region 0x500000 c.ram ∷ region 0x600000 fl ∷ region 0x700000 c.map ∷ region 0x800000 tb ∷ []

abbrev pub start_of : (registers : List ℕ) → (sp pc : ℕ) → List Region → List Outcome → State
start_of xs sp pc m os =
    record {
      x = xs;
      sp = sp;
      nzcv = record { n = false; z = false; c = false; v = false };
      pc = pc;
      mem = m;
      outcomes = os;
      requests = [];
      count = 0;
    }

-- ---- a fact of each number below n, by n proofs of it
unfoldable pub Each : (ℕ → Type 0) → ℕ → Type 0
Each P zero = Unit {0}
Each P (suc n) = P 0 × Each (λ i. P (suc i)) n

pub each : (P : ℕ → Type 0) (n : ℕ) → Each P n → (i : ℕ) → i < n → P i
unfolding Each
each P zero e i h = absurd (omega arith)
each P (suc n) e zero h = e.0
each P (suc n) e (suc i) h = each (λ k. P (suc k)) n e.1 i (omega arith)

-- ---- the regions lie apart: region i starts at (i + 1) * 2^20 and is no longer than 2^20
in_order : (i j b c n m : ℕ) → b ≡ suc i * 2 ^ 20 → c ≡ suc j * 2 ^ 20 → n ≤ 2 ^ 20 → m ≤ 2 ^ 20 → (i < j) ⊎ (j < i) → Disjoint b n c m
in_order i j b c n m p q h k (inl l) = inl (omega arith)
in_order i j b c n m p q h k (inr l) = inr (omega arith)

order : (i j : ℕ) → i ≢ j → (i < j) ⊎ (j < i)
order zero zero ne = absurd (ne refl)
order zero (suc j) ne = inl (omega arith)
order (suc i) zero ne = inr (omega arith)
order (suc i) (suc j) ne = up (order i j (λ e. ne (ap suc e)))
  where
    up : (i < j) ⊎ (j < i) → (suc i < suc j) ⊎ (suc j < suc i)
    up (inl h) = inl (omega arith)
    up (inr h) = inr (omega arith)

abbrev pub Placed : List Region → Type 0
Placed m = Each (λ i. base_of m i ≡ suc i * 2 ^ 20) (length m)

abbrev pub Small : List Region → Type 0
Small m = Each (λ i. size_of m i ≤ 2 ^ 20) (length m)

module _ (m : List Region) (few-regions : length m ≤ 9) (placed : Placed m) (small : Small m) where
  bases : (i : ℕ) → i < length m → base_of m i ≡ suc i * 2 ^ 20
  bases = each (λ i. base_of m i ≡ suc i * 2 ^ 20) (length m) placed

  sizes : (i : ℕ) → i < length m → size_of m i ≤ 2 ^ 20
  sizes = each (λ i. size_of m i ≤ 2 ^ 20) (length m) small

  pub apart_of : Apart m
  apart_of =
      record {
        ends = λ i h. let b = bases i h in let s = sizes i h in omega arith;
        disjoint = λ i j h k ne. in_order i j _ _ _ _ (bases i h) (bases j k) (sizes i h) (sizes j k) (order i j ne);
      }

  -- the helpers' addresses lie behind all regions
  pub elsewhere_of : (xs : List ℕ) (sp pc : ℕ) (os : List Outcome) (a : ℕ) → suc (length m) * 2 ^ 20 ≤ a
      → Elsewhere (start_of xs sp pc m os) a
  elsewhere_of xs sp pc os a k i h = let b = bases i h in let s = sizes i h in inr (omega arith)

-- the eight regions of a flash block
pub placed_of : (c : Card) (ws cx fl tb : List ℕ) → Placed (memory_of c ws cx fl tb)
unfolding Each
placed_of c ws cx fl tb = (refl, (refl, (refl, (refl, (refl, (refl, (refl, (refl, tt))))))))

-- ---- a card that leaves has outcomes enough
pub not_stopped : (w : Way) (c : Card) {e : End} → e ≡ left w c → (d : Card) → e ≢ stopped d
not_stopped w c p d q = absurd (let z : ◌≡◌ {A = ℕ} 0 1 = cc in omega arith)

-- ---- n words from a place on
abbrev pub words_at : List ℕ → (place n : ℕ) → List ℕ
words_at l o zero = []
words_at l o (suc n) = read_le l o 4 ∷ words_at l (o + 4) n
