-- Fields without a fault hold what fits: the layout, the regions, the addresses, the block's address and the guard of a checked block.
use mathlib.Core.Path.{◌≡◌, refl}
use mathlib.Core.Bool.{Bool, true, false, cond, not, ◌&&◌, ◌||◌}
use mathlib.Core.List.{List, [], ◌∷◌}
use mathlib.Core.Logic.{◌⊎◌, inl, inr}
use Prim.Native.Nat.{ℕ, zero, suc, ◌+◌, ◌%◌, ◌<◌, ◌≤◌}
use native.Mathlib.Omega.{arith}
use borrow.Author.Tests.{ltb-true, ltb-false, leb-true, leb-false, eqb-true}
use lib.Dec.{leb, ltb, eqb}
use lib.ListN.{take, drop}
use lib.Seq.{get_or-drop}
use Rattle.block.specs.declared.Layout.{Layout}
use Rattle.block.specs.declared.Memory.{Memory}
use Rattle.block.specs.Block.{in_flash, no_guard}
use Rattle.block.specs.Checked.{Place, Apart, LayoutFits, RegionFits, MemoryFits, AddressesFit, GuardFits}
use Rattle.faults.proofs.Laws.{then-zero, gives-zero}
use Rattle.operands.proofs.Laws.{not-true, and_true_both, or_false_both}
use Rattle.fields.specs.Fields.{◌gives◌, byte_at, num16, num32, num64, payload_length, payload, Span, span, spans, any, far, unaligned}
use Rattle.fields.specs.Fields.{meets, overlap, layout_fault, memory_of, region_fault, memory_fault, addresses_of, inside_ram, start_fault}
use Rattle.fields.specs.Fields.{start_of, guard_of, guard_at}

-- ---- bytes and the numbers made of them

-- each element of the record is a byte
abbrev pub Bytes : List ℕ → Type 0
Bytes s = (i : ℕ) → byte_at s i < 256

below_16 : (s : List ℕ) (i : ℕ) → Bytes s → num16 s i < 65536
unfolding num16
below_16 s i h = omega (arith, h i, h (i + 1))

pub below_32 : (s : List ℕ) (i : ℕ) → Bytes s → num32 s i < 4294967296
unfolding num32
below_32 s i h = omega (arith, below_16 s i h, below_16 s (i + 2) h)

below_64 : (s : List ℕ) (i : ℕ) → Bytes s → num64 s i < 18446744073709551616
unfolding num64
below_64 s i h = omega (arith, below_32 s i h, below_32 s (i + 4) h)

taken : (n : ℕ) (l : List ℕ) → Bytes l → Bytes (take n l)
taken zero l h i = omega arith
taken (suc n) [] h i = omega arith
taken (suc n) (x ∷ l) h zero = h 0
taken (suc n) (x ∷ l) h (suc i) = taken n l (λ j. h (suc j)) i

pub payload-bytes : (s : List ℕ) (at : ℕ) → Bytes s → Bytes (payload s at)
payload-bytes s at h = taken (payload_length s at) (drop (at + 3) s) (λ i. rw get_or-drop (h (at + 3 + i)))

-- ---- field 01

-- of no place of a list the test holds
abbrev None : (Span → Bool) → List Span → Type 0
None f [] = Unit {0}
None f (p ∷ ps) = (f p ≡ false) × None f ps

none : (f : Span → Bool) (ps : List Span) → any f ps ≡ false → None f ps
none f [] e = tt
none f (p ∷ ps) e = let x = or_false_both (f p) (any f ps) e in (x.0, none f ps x.1)

-- no two places of a list meet
abbrev NoneMeet : List Span → Type 0
NoneMeet [] = Unit {0}
NoneMeet (p ∷ ps) = None (meets p) ps × NoneMeet ps

none_meet : (ps : List Span) → overlap ps ≡ false → NoneMeet ps
none_meet [] e = tt
none_meet (p ∷ ps) e = let x = or_false_both (any (meets p) ps) (overlap ps) e in (none (meets p) ps x.0, none_meet ps x.1)

place : (a n : ℕ) → far (span a (n + 4)) ≡ false → unaligned (span a (n + 4)) ≡ false → Place a n
place a n f u =
    let l = leb-false (16384 + 4) (a + (n + 4)) f in
    record { inside = omega (arith, l); aligned = eqb-true _ _ (not-true _ u) }

and_false_either : (a b : Bool) → (a && b) ≡ false → (a ≡ false) ⊎ (b ≡ false)
and_false_either true b e = inr e
and_false_either false b e = inl refl

apart : (a m b n : ℕ) → meets (span a m) (span b n) ≡ false → Apart a m b n
apart a m b n e =
    either (and_false_either (ltb a (b + n)) (ltb b (a + m)) e)
  where
    either : (ltb a (b + n) ≡ false) ⊎ (ltb b (a + m) ≡ false) → Apart a m b n
    either (inl f) = inr (ltb-false a (b + n) f)
    either (inr f) = inl (ltb-false b (a + m) f)

pub layout-fits : (o : Layout) → layout_fault o ≡ 0 → LayoutFits o
unfolding layout_fault
layout-fits o e =
    let x = then-zero (any far (spans o) gives 5) _ e in
    let y = then-zero (any unaligned (spans o) gives 14) _ x.1 in
    let f = none far (spans o) (gives-zero (any far (spans o)) 4 x.0) in
    let u = none unaligned (spans o) (gives-zero (any unaligned (spans o)) 13 y.0) in
    let v = none_meet (spans o) (gives-zero (overlap (spans o)) 14 y.1) in
    record {
      regs = place o.regs 60 f.0 u.0;
      sp = place o.sp 0 f.1.0 u.1.0;
      rets = place o.rets 0 f.1.1.0 u.1.1.0;
      pc = place o.pc 0 f.1.1.1.0 u.1.1.1.0;
      hold = place o.hold 0 f.1.1.1.1.0 u.1.1.1.1.0;
      regs-sp = apart o.regs 64 o.sp 4 v.0.0;
      regs-rets = apart o.regs 64 o.rets 4 v.0.1.0;
      regs-pc = apart o.regs 64 o.pc 4 v.0.1.1.0;
      regs-hold = apart o.regs 64 o.hold 4 v.0.1.1.1.0;
      sp-rets = apart o.sp 4 o.rets 4 v.1.0.0;
      sp-pc = apart o.sp 4 o.pc 4 v.1.0.1.0;
      sp-hold = apart o.sp 4 o.hold 4 v.1.0.1.1.0;
      rets-pc = apart o.rets 4 o.pc 4 v.1.1.0.0;
      rets-hold = apart o.rets 4 o.hold 4 v.1.1.0.1.0;
      pc-hold = apart o.pc 4 o.hold 4 v.1.1.1.0.0;
    }

-- ---- fields 02 to 04

region-fits : (base len : ℕ) → region_fault base len ≡ 0 → RegionFits base len
unfolding region_fault
region-fits base len e =
    let x = then-zero (ltb len 4 gives 6) _ e in
    let y = then-zero (not (eqb (base % 4) 0) gives 6) _ x.1 in
    record {
      long = ltb-false len 4 (gives-zero _ 5 x.0);
      aligned = eqb-true _ _ (not-true _ (gives-zero _ 5 y.0));
      inside = ltb-false 4294967296 (base + len) (gives-zero _ 5 y.1);
    }

pub memory-fits : (p : List ℕ) → memory_fault p ≡ 0 → MemoryFits (memory_of p)
unfolding memory_fault
memory-fits p e =
    let x = then-zero (region_fault (num32 p 0) (num32 p 4)) _ e in
    let y = then-zero (region_fault (num32 p 8) (num32 p 12)) _ x.1 in
    record { ram = region-fits (num32 p 0) (num32 p 4) x.0; xip = region-fits (num32 p 8) (num32 p 12) y.0 }

pub addresses-fit : (p : List ℕ) → Bytes p → AddressesFit (addresses_of p)
addresses-fit p h = record { h-read = below_64 p 0 h; h-write = below_64 p 8 h; table = below_64 p 16 h }

pub guard-fits : (s : List ℕ) → Bytes s → GuardFits (guard_at s)
guard-fits s h =
    either (in_flash (start_of s))
  where
    p : Bytes (payload s 77)
    p = payload-bytes s 77 h

    either : (flash : Bool) → GuardFits (cond flash no_guard (guard_of (payload s 77)))
    either true = record { at = omega arith; h-ram-ok = omega arith }
    either false = record { at = below_64 (payload s 77) 0 p; h-ram-ok = below_64 (payload s 77) 8 p }

-- a RAM start lies inside RAM
pub start_fits : (m : Memory) (s : List ℕ) (a : ℕ) → start_fault m s a ≡ 0 → in_flash a ≡ false
    → (m.ram_base ≤ a) × (a < m.ram_base + m.ram_len)
unfolding start_fault
start_fits m s a e f =
    let x = (then-zero (not (in_flash a || inside_ram m a) gives 7) _ e).0 in
    let i : inside_ram m a ≡ true = rw f at (not-true (in_flash a || inside_ram m a) (gives-zero _ 6 x)) in
    let y = and_true_both (leb m.ram_base a) (ltb a (m.ram_base + m.ram_len)) i in
    (leb-true _ _ y.0, ltb-true _ _ y.1)
