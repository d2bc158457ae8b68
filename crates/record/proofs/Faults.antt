-- A fault of reading has one of the listed numbers and a place in the record or at its end, so number and place tell the answer: `told`, at
-- the end. The faults are gone through in the order of the definition; that each number stands in the list is computed.
use mathlib.Core.Path.{◌≡◌, refl, sym, ap, subst, ◌∙◌}
use mathlib.Core.Bool.{Bool, true, false, cond, not, ◌&&◌, ◌||◌, or-true}
use mathlib.Core.List.{List, [], ◌∷◌}
use Prim.Native.Nat.{ℕ, zero, suc, ◌+◌, ◌-◌, ◌*◌, ◌%◌, ◌≤◌}
use native.Mathlib.Omega.{arith}
use native.Mathlib.Nat.{not-suc-le-zero, le_of_suc-le-suc}
use borrow.Author.Tests.{leb-false, ne_eqb}
use lib.Dec.{leb, ltb, eqb}
use lib.ListN.{length, length-take}
use Rattle.block.specs.declared.BOp.{BOp}
use Rattle.block.specs.declared.Layout.{Layout}
use Rattle.block.specs.declared.Memory.{Memory}
use Rattle.block.specs.declared.Block.{Block}
use Rattle.block.specs.Block.{ops_of, moved, in_flash}
use Rattle.operands.specs.Kinds.{kinds, kind_at, fast_of}
use Rattle.operation.specs.Operation.{operands, operands_fit, too_long}
use Rattle.fields.specs.Fields.{any, far, unaligned, spans, overlap}
use Rattle.record.specs.Record.{◌gives◌, ◌then◌, byte_at, num32, payload_length, payload, cut, field_fault, layout_of, layout_fault}
use Rattle.record.specs.Record.{region_fault, memory_of, memory_fault, inside_ram, guard_next, start_of, start_fault, contents_fault}
use Rattle.record.specs.Record.{operation_of, last_jumps, operation_fault, Answer, Accepted, Refused, Reading, refused_or, push, end_or}
use Rattle.record.specs.Record.{operations, first_op, header, layout_field, memory_field, addresses_field, start_field, guard_field}
use Rattle.record.specs.Record.{in_ram, to_ram_end, within_ram, reading, number_of, place_of, reading_faults, among, Told}
use Rattle.fields.proofs.Laws.{layout-whole, memory-whole, addresses-whole, start-whole}
use Rattle.record.proofs.Steps.{fault_at}

-- ---- numbers of the list

-- a number of a list is one of the list with another before it
pub among-behind : (n m : ℕ) (l : List ℕ) → among n l ≡ true → among n (m ∷ l) ≡ true
among-behind n m l h = ap (λ b. eqb n m || b) h ∙ or-true (eqb n m)

-- a number that is none of the list is no fault of reading
pub none_listed : (m : ℕ) → among m reading_faults ≡ false → (n : ℕ) → among n reading_faults ≡ true → n ≡ m → ⊥
none_listed m none n h e =
    let f : false ≡ true = sym none ∙ ap (λ k. among k reading_faults) (sym e) ∙ h in
    let z : ◌≡◌ {A = ℕ} 0 1 = cc in absurd (omega arith)

-- no fault, or one of reading's
record Listed (n : ℕ) : Type 0 where
  in_list : among n (0 ∷ reading_faults) ≡ true

listed : {n : ℕ} → among n (0 ∷ reading_faults) ≡ true → Listed n
listed h = record { in_list = h }

last_listed : (t : Bool) {n : ℕ} → Listed n → Listed (t gives n)
last_listed true h = h
last_listed false h = listed refl

then-listed : (m n : ℕ) → Listed m → Listed n → Listed (m then n)
then-listed zero n h k = k
then-listed (suc m) n h k = h

-- a test, and what follows it
test-listed : (t : Bool) {n m : ℕ} → Listed n → Listed m → Listed (t gives n then m)
test-listed t {n} {m} h k = then-listed (t gives n) m (last_listed t h) k

field-listed : (s : List ℕ) (at tag len : ℕ) → Listed (field_fault s at tag len)
unfolding field_fault
field-listed s at tag len =
    test-listed (cut s at) (listed refl)
    (test-listed (not (eqb (byte_at s at) tag)) (listed refl) (last_listed (not (eqb (payload_length s at) len)) (listed refl)))

layout-listed : (o : Layout) → Listed (layout_fault o)
unfolding layout_fault
layout-listed o =
    test-listed (any far (spans o)) (listed refl)
    (test-listed (any unaligned (spans o)) (listed refl) (last_listed (overlap (spans o)) (listed refl)))

region-listed : (base len : ℕ) → Listed (region_fault base len)
unfolding region_fault
region-listed base len =
    test-listed (ltb len 4) (listed refl)
    (test-listed (not (eqb (base % 4) 0)) (listed refl) (last_listed (ltb 4294967296 (base + len)) (listed refl)))

memory-listed : (p : List ℕ) → Listed (memory_fault p)
unfolding memory_fault
memory-listed p =
    then-listed _ _ (region-listed (num32 p 0) (num32 p 4))
    (then-listed _ _ (region-listed (num32 p 8) (num32 p 12)) (last_listed (ltb 1 (byte_at p 16)) (listed refl)))

contents-listed : (m : Memory) (p : List ℕ) → Listed (contents_fault m p)
unfolding contents_fault
contents-listed m p =
    let row = kind_at (byte_at p 0) in
    let group = too_long m (moved (fast_of (byte_at p 0) (operands p))) in
    test-listed (ltb (length p) 3) (listed refl)
    (test-listed (leb (length kinds) (byte_at p 0)) (listed refl)
    (test-listed (not (eqb (length p) (3 + 4 * length row.operands))) (listed refl)
    (test-listed (ltb 1 (byte_at p 2)) (listed refl)
    (test-listed (not (operands_fit row.operands p 0)) (listed refl) (last_listed group (listed refl))))))

operation-listed : (m : Memory) (s : List ℕ) (at n : ℕ) (jumped : Bool) → Listed (operation_fault m s at n jumped)
unfolding operation_fault
operation-listed m s at n jumped =
    test-listed (cut s at) (listed refl)
    (test-listed (not (eqb (byte_at s at) 5)) (listed refl)
    (test-listed (leb 32 n) (listed refl) (test-listed jumped (listed refl) (contents-listed m (payload s at)))))

layout_field-listed : (s : List ℕ) → Listed (layout_field s)
unfolding layout_field
layout_field-listed s = then-listed (field_fault s 0 1 20) _ (field-listed s 0 1 20) (layout-listed (layout_of (payload s 0)))

memory_field-listed : (s : List ℕ) → Listed (memory_field s)
unfolding memory_field
memory_field-listed s = then-listed (field_fault s 23 2 17) _ (field-listed s 23 2 17) (memory-listed (payload s 23))

addresses_field-listed : (s : List ℕ) → Listed (addresses_field s)
unfolding addresses_field
addresses_field-listed s = field-listed s 43 3 24

start-listed : (m : Memory) (s : List ℕ) (a : ℕ) → Listed (start_fault m s a)
unfolding start_fault
start-listed m s a =
    test-listed (not (in_flash a || inside_ram m a)) (listed refl)
    (test-listed (in_flash a && guard_next s) (listed refl) (last_listed (not (in_flash a) && not (guard_next s)) (listed refl)))

start_field-listed : (s : List ℕ) → Listed (start_field s)
unfolding start_field
start_field-listed s =
    then-listed (field_fault s 70 4 4) _ (field-listed s 70 4 4) (start-listed (memory_of (payload s 23)) s (start_of s))

either_listed : (t : Bool) {n m : ℕ} → Listed n → Listed m → Listed (cond t n m)
either_listed true h k = h
either_listed false h k = k

guard_field-listed : (s : List ℕ) → Listed (guard_field s)
unfolding guard_field
guard_field-listed s = either_listed (in_flash (start_of s)) (listed refl) (field-listed s 77 6 16)

-- ---- the record

abbrev Known : ℕ → Answer → Type 0
Known size Accepted = Unit {0}
Known size (Refused number place) = (among number reading_faults ≡ true) × (place ≤ size)

-- a fault that is listed stands behind the 0
listed-fault : (n : ℕ) → Listed (suc n) → among (suc n) reading_faults ≡ true
listed-fault n h = rw (ne_eqb (suc n) 0 (λ e. omega (arith, e))) at h.in_list

known_or : (size f place : ℕ) (next : Reading) → Listed f → place ≤ size → (f ≡ 0 → Known size next.answer)
    → Known size (refused_or f place next).answer
unfolding refused_or
known_or size zero place next h l k = k refl
known_or size (suc f) place next h l k = (listed-fault f h, l)

-- the record's end, or a fault at a byte of the record
known_end : (s : List ℕ) (at f : ℕ) (b : Block) (next : Reading) → Listed f → Known (length s) next.answer
    → (t : Bool) → leb (length s) at ≡ t → Known (length s) (end_or t b (refused_or f at next)).answer
known_end s at f b next h k true e = tt
known_end s at f b next h k false e =
    let l = leb-false (length s) at e in
    known_or (length s) f at next h (omega (arith, l)) (λ z. k)

known-operations : (k : ℕ) (s : List ℕ) (at : ℕ) (b : Block) → Known (length s) (operations k s at b).answer
unfolding operations
known-operations zero s at b = tt
known-operations (suc k) s at b =
    known_end s at (fault_at s at b) b _ (operation-listed b.memory s at b.n (last_jumps b.n b.ops))
    (known-operations k s (at + 3 + payload_length s at) (push b (operation_of (payload s at))))
    (leb (length s) at) refl

-- ---- up to RAM's end

-- so many fields, from a byte on: each starts at a byte of the record or at its end
abbrev Fields : List ℕ → ℕ → ℕ → Type 0
Fields s zero at = Unit {0}
Fields s (suc n) at = (at ≤ length s) × Fields s n (at + 3 + payload_length s at)

fields-more : (s : List ℕ) (at m n : ℕ) → at ≤ length s → Fields s (m - (n + 1)) (at + 3 + payload_length s at) → Fields s (m - n) at
fields-more s at m n l h =
    counted (m - n) refl
  where
    counted : (k : ℕ) → m - n ≡ k → Fields s k at
    counted zero e = tt
    counted (suc k) e = let same : m - (n + 1) ≡ k = omega (arith, e) in (l, rw same at h)

none_more : (s : List ℕ) (at n : ℕ) → Fields s (n - n) at
none_more s at n = let z : n - n ≡ 0 = omega arith in rw z tt

fields_or : (s : List ℕ) (at n f : ℕ) (next : Reading) → (f ≡ 0 → Fields s (next.block.n - n) at)
    → Fields s ((refused_or f at next).block.n - n) at
unfolding refused_or
fields_or s at n zero next h = h refl
fields_or s at n (suc f) next h = let z : 0 - n ≡ 0 = omega arith in rw z tt

fields_end : (s : List ℕ) (at f : ℕ) (b : Block) (next : Reading)
    → (Fields s (next.block.n - (b.n + 1)) (at + 3 + payload_length s at))
    → (t : Bool) → leb (length s) at ≡ t → Fields s ((end_or t b (refused_or f at next)).block.n - b.n) at
fields_end s at f b next h true e = none_more s at b.n
fields_end s at f b next h false e =
    let l = leb-false (length s) at e in
    fields_or s at b.n f next (λ z. fields-more s at next.block.n b.n (omega (arith, l)) h)

-- the operations that reading adds stand in the record
fields_read : (k : ℕ) (s : List ℕ) (at : ℕ) (b : Block) → Fields s ((operations k s at b).block.n - b.n) at
unfolding operations
fields_read zero s at b = none_more s at b.n
fields_read (suc k) s at b =
    fields_end s at (fault_at s at b) b _ (fields_read k s (at + 3 + payload_length s at) (push b (operation_of (payload s at))))
    (leb (length s) at) refl

first_fields : (s : List ℕ) → in_flash (start_of s) ≡ false → Fields s (operations 33 s (first_op s) (header s)).block.n 96
unfolding header
first_fields s f =
    let n = (operations 33 s (first_op s) (header s)).block.n in
    let all : n - 0 ≡ n = omega arith in
    let first : first_op s ≡ 96 = rw f refl in
    subst (Fields s n) first (subst (λ (k : ℕ). Fields s k (first_op s)) all (fields_read 33 s (first_op s) (header s)))

known-walk : (os : List BOp) (n : ℕ) (s : List ℕ) (at room : ℕ) (r : Reading) → length os ≤ n → Fields s n at
    → Known (length s) r.answer → Known (length s) (in_ram os s at room r).answer
unfolding in_ram
known-walk [] n s at room r l h k = k
known-walk (o ∷ os) zero s at room r l h k = absurd (not-suc-le-zero l)
known-walk (o ∷ os) (suc n) s at room r l h k =
    known_or (length s) (ltb room o.len gives 17) at _ (last_listed (ltb room o.len) (listed refl)) h.0
    (λ z. known-walk os n s (at + 3 + payload_length s at) (room - o.len) r (le_of_suc-le-suc l) h.1 k)

known-within : (s : List ℕ) (r : Reading) → Known (length s) r.answer
    → (in_flash (start_of s) ≡ false → Fields s r.block.n 96) → Known (length s) (within_ram s r).answer
unfolding within_ram
known-within s r k h =
    either (in_flash (start_of s)) refl
  where
    b : Block
    b = r.block

    either : (flash : Bool) → in_flash (start_of s) ≡ flash
        → Known (length s) (cond flash r (in_ram (ops_of b) s 96 (to_ram_end b) r)).answer
    either true f = k
    either false f =
        let l = length-take b.n b.ops in
        known-walk (ops_of b) b.n s 96 (to_ram_end b) r (omega (arith, l)) (h f) k

-- ---- the whole record

known : (s : List ℕ) → Known (length s) (reading s).answer
unfolding reading
known s =
    known_or (length s) (layout_field s) 0 _ (layout_field-listed s) (omega arith)
    (λ l. known_or (length s) (memory_field s) 23 _ (memory_field-listed s) (omega (arith, (layout-whole s l).1.inside))
    (λ m. known_or (length s) (addresses_field s) 43 _ (addresses_field-listed s) (omega (arith, (memory-whole s m).1.inside))
    (λ a. known_or (length s) (start_field s) 70 _ (start_field-listed s) (omega (arith, (addresses-whole s a).1.inside))
    (λ t. known_or (length s) (guard_field s) 77 _ (guard_field-listed s) (omega (arith, (start-whole s t).1.inside))
    (λ g. known-within s (operations 33 s (first_op s) (header s)) (known-operations 33 s (first_op s) (header s)) (first_fields s))))))

zero-accepted : (size : ℕ) (a : Answer) → Known size a → number_of a ≡ 0 → a ≡ Accepted
zero-accepted size Accepted k e = refl
zero-accepted size (Refused number place) k e = absurd (none_listed 0 refl number k.0 e)

number-known : (size : ℕ) (a : Answer) → Known size a → (number place : ℕ) → a ≡ Refused number place → among number reading_faults ≡ true
number-known size Accepted k number place e = let z : ◌≡◌ {A = ℕ} 0 1 = cc in absurd (omega arith)
number-known size (Refused n p) k number place e = let same : n ≡ number = cc in rw same at k.0

place_le : (size : ℕ) (a : Answer) → Known size a → place_of a ≤ size
place_le size Accepted k = omega arith
place_le size (Refused number place) k = k.1

pub told : (s : List ℕ) → Told s (reading s).answer
told s =
    let a = (reading s).answer in
    record {
      number = refl;
      place = refl;
      accepted = zero-accepted (length s) a (known s);
      known = number-known (length s) a (known s);
      inside = place_le (length s) a (known s);
    }
