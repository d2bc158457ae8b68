-- Laws of fields that several functions' proofs use.
use mathlib.Core.Path.{◌≡◌, refl, ap, ◌∙◌}
use mathlib.Core.Bool.{true, false, not}
use mathlib.Core.List.{List}
use Prim.Native.Nat.{ℕ, ◌+◌, ◌-◌, ◌≤◌, ◌<◌}
use native.Mathlib.Omega.{arith}
use borrow.Author.Tests.{ltb-false, eqb-true}
use lib.Dec.{ltb, eqb}
use native.Mathlib.Nat.{add-zero}
use lib.ListN.{length, take, drop, length-take}
use lib.Seq.{get_or-take, get_or-drop}
use Rattle.block.specs.Block.{in_flash}
use Rattle.faults.proofs.Laws.{then-zero, gives-zero}
use Rattle.operands.proofs.Laws.{not-true, or_false_both}
use Rattle.fields.specs.Fields.{◌gives◌, byte_at, payload_length, payload, cut, field_fault, layout_field, memory_field}
use Rattle.fields.specs.Fields.{addresses_field, start_of, start_field, guard_field}

pub record Whole (s : List ℕ) (at len : ℕ) : Type 0 where
  pub inside : at + 3 + len ≤ length s
  pub size : payload_length s at ≡ len

-- a field that is not cut has its payload in the record
pub not_cut : (s : List ℕ) (at : ℕ) → cut s at ≡ false → Whole s at (payload_length s at)
not_cut s at e =
    record {
      inside =
          ltb-false (length s) (at + 3 + payload_length s at)
          (or_false_both (ltb (length s) (at + 3)) (ltb (length s) (at + 3 + payload_length s at)) e).1;
      size = refl;
    }

pub field-whole : (s : List ℕ) (at tag len : ℕ) → field_fault s at tag len ≡ 0 → Whole s at len
unfolding field_fault
field-whole s at tag len e =
    let f = then-zero (cut s at gives 1) _ e in
    let g = then-zero (not (eqb (byte_at s at) tag) gives 2) _ f.1 in
    let w : Whole s at (payload_length s at) = not_cut s at (gives-zero _ 0 f.0) in
    let n : payload_length s at ≡ len = eqb-true _ _ (not-true _ (gives-zero _ 1 g.1)) in
    record { inside = rw n at w.inside; size = n }

-- the part behind a whole field's header is its payload
pub payload-part : (s : List ℕ) (at len : ℕ) → Whole s at len → take len (drop (at + 3) s) ≡ payload s at
payload-part s at len w = rw w.size

-- the same, where the part is given by its ends
pub payload_range : (s : List ℕ) (at n : ℕ) → n ≡ payload_length s at → take (at + 3 + n - (at + 3)) (drop (at + 3) s) ≡ payload s at
payload_range s at n e =
    let h : at + 3 + n - (at + 3) ≡ payload_length s at = omega (arith, e) in
    ap (λ (k : ℕ). take k (drop (at + 3) s)) h

-- a payload's first byte
pub payload_head : (s : List ℕ) (at : ℕ) → 3 ≤ length (payload s at) → byte_at (payload s at) 0 ≡ byte_at s (at + 3)
payload_head s at h =
    let l = length-take (payload_length s at) (drop (at + 3) s) in
    let n : 0 < payload_length s at = omega (arith, l) in
    get_or-take (payload_length s at) (drop (at + 3) s) 0 0 n ∙ get_or-drop (at + 3) s 0 0 ∙ ap (byte_at s) (add-zero (at + 3))

-- a field of fixed length without a fault, and its header

pub layout-whole : (s : List ℕ) → layout_field s ≡ 0 → (field_fault s 0 1 20 ≡ 0) × Whole s 0 20
unfolding layout_field
layout-whole s e = let f = (then-zero (field_fault s 0 1 20) _ e).0 in (f, field-whole s 0 1 20 f)

pub memory-whole : (s : List ℕ) → memory_field s ≡ 0 → (field_fault s 23 2 17 ≡ 0) × Whole s 23 17
unfolding memory_field
memory-whole s e = let f = (then-zero (field_fault s 23 2 17) _ e).0 in (f, field-whole s 23 2 17 f)

pub addresses-whole : (s : List ℕ) → addresses_field s ≡ 0 → (field_fault s 43 3 24 ≡ 0) × Whole s 43 24
unfolding addresses_field
addresses-whole s e = (e, field-whole s 43 3 24 e)

pub start-whole : (s : List ℕ) → start_field s ≡ 0 → (field_fault s 70 4 4 ≡ 0) × Whole s 70 4
unfolding start_field
start-whole s e = let f = (then-zero (field_fault s 70 4 4) _ e).0 in (f, field-whole s 70 4 4 f)

-- field 06: none of a flash block, and a RAM block's

pub no-guard : (s : List ℕ) → in_flash (start_of s) ≡ true → guard_field s ≡ 0
unfolding guard_field
no-guard s e = rw e refl

pub guard_whole : (s : List ℕ) → in_flash (start_of s) ≡ false → guard_field s ≡ 0 → Whole s 77 16
unfolding guard_field
guard_whole s r e = field-whole s 77 6 16 (rw r at e)
