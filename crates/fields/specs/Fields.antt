-- Fields 01 to 04 and 06 of a block record, from document 01's "The block record" and "Faults, in order", the fault of a layout as document
-- 02's 2026-03 splits it and that of a start as 2026-06 has it: what each holds, and the number of its first fault, 0 where there is none.
use Rattle.std.specs.Prelude.{Bool, false, cond, not, ◌&&◌, ◌||◌, List, [], ◌∷◌, ℕ, ◌+◌, ◌%◌, leb, ltb, eqb, length, take, drop}
use Rattle.block.specs.declared.Layout.{Layout}
use Rattle.block.specs.declared.Memory.{Memory}
use Rattle.block.specs.declared.Addresses.{Addresses}
use Rattle.block.specs.declared.Guard.{Guard}
use Rattle.block.specs.Block.{in_flash, no_guard}
use Rattle.operands.specs.Kinds.{flag_of}
pub use Rattle.operands.specs.Numbers.{byte_at}
unfoldable pub use Rattle.operands.specs.Numbers.{num16, num32, num64}
pub use Rattle.faults.specs.Faults.{◌gives◌, ◌then◌}

-- ---- a field: "a one-byte tag, a two-byte length, a payload"

abbrev pub payload_length : List ℕ → ℕ → ℕ
payload_length s at = num16 s (at + 1)

abbrev pub payload : List ℕ → ℕ → List ℕ
payload s at = take (payload_length s at) (drop (at + 3) s)

-- header or payload cut, or the field missing
abbrev pub cut : List ℕ → ℕ → Bool
cut s at = ltb (length s) (at + 3) || ltb (length s) (at + 3 + payload_length s at)

unfoldable pub field_fault : List ℕ → ℕ → ℕ → ℕ → ℕ
field_fault s at tag len =
    cut s at gives 1
    then not (eqb (byte_at s at) tag) gives 2
    then not (eqb (payload_length s at) len) gives 2

-- ---- field 01: byte offsets in the processor record

abbrev pub layout_of : List ℕ → Layout
layout_of p = record { regs = num32 p 0; sp = num32 p 4; rets = num32 p 8; pc = num32 p 12; hold = num32 p 16 }

pub record Span : Type 0 where
  pub start : ℕ
  pub size : ℕ

abbrev pub span : ℕ → ℕ → Span
span a n = record { start = a; size = n }

-- "regs is 64 bytes and each other place 4"
abbrev pub spans : Layout → List Span
spans o = span o.regs 64 ∷ span o.sp 4 ∷ span o.rets 4 ∷ span o.pc 4 ∷ span o.hold 4 ∷ []

abbrev pub any : (Span → Bool) → List Span → Bool
any f [] = false
any f (p ∷ ps) = f p || any f ps

-- "an offset, or regs plus 60, of 16384 or more": the last word of the place
abbrev pub far : Span → Bool
far p = leb (16384 + 4) (p.start + p.size)

abbrev pub unaligned : Span → Bool
unaligned p = not (eqb (p.start % 4) 0)

abbrev pub meets : Span → Span → Bool
meets p q = ltb p.start (q.start + q.size) && ltb q.start (p.start + p.size)

-- two of the places overlap
abbrev pub overlap : List Span → Bool
overlap [] = false
overlap (p ∷ ps) = any (meets p) ps || overlap ps

-- "the whole layout is tested for 5, then for alignment, then for overlap": 5, "an offset that is not a multiple of 4 answers 14 and two
-- overlapping places answer 15, both straight behind 5"
unfoldable pub layout_fault : Layout → ℕ
layout_fault o =
    any far (spans o) gives 5
    then any unaligned (spans o) gives 14
    then overlap (spans o) gives 15

-- ---- field 02: RAM, XIP, map flag

abbrev pub memory_of : List ℕ → Memory
memory_of p =
    record
    { ram_base = num32 p 0; ram_len = num32 p 4; xip_base = num32 p 8; xip_len = num32 p 12; map = flag_of (byte_at p 16) }

unfoldable pub region_fault : ℕ → ℕ → ℕ
region_fault base len =
    ltb len 4 gives 6
    then not (eqb (base % 4) 0) gives 6
    then ltb 4294967296 (base + len) gives 6

unfoldable pub memory_fault : List ℕ → ℕ
memory_fault p =
    region_fault (num32 p 0) (num32 p 4)
    then region_fault (num32 p 8) (num32 p 12)
    then ltb 1 (byte_at p 16) gives 4

-- ---- field 03: host addresses

abbrev pub addresses_of : List ℕ → Addresses
addresses_of p = record { h_read = num64 p 0; h_write = num64 p 8; table = num64 p 16 }

-- ---- field 04: "Refusal 7 now covers a start that is neither in flash's range .. nor inside RAM."

abbrev pub inside_ram : Memory → ℕ → Bool
inside_ram m a = leb m.ram_base a && ltb a (m.ram_base + m.ram_len)

-- tag 06 is next: the byte behind field 04. Behind the record's end `byte_at` is 0, so that nothing is next there
abbrev pub guard_next : List ℕ → Bool
guard_next s = eqb (byte_at s 77) 6

-- "Tag 06 next after a flash start, or not next after a RAM start, answers 16 at tag 04's place, before any other fault of the next field"
unfoldable pub start_fault : Memory → List ℕ → ℕ → ℕ
start_fault m s a =
    not (in_flash a || inside_ram m a) gives 7
    then (in_flash a && guard_next s) gives 16
    then (not (in_flash a) && not (guard_next s)) gives 16

-- ---- field 06, "directly behind tag 04": a RAM block's guard; a flash block has none, and zeros in its place

abbrev pub guard_of : List ℕ → Guard
guard_of p = record { at = num64 p 0; h_ram_ok = num64 p 8 }

-- the fault of each of the fields 01 to 04 and 06, which are 23, 20, 27, 7 and 19 bytes long: the header's, then those of the contents

unfoldable pub layout_field : List ℕ → ℕ
layout_field s = field_fault s 0 1 20 then layout_fault (layout_of (payload s 0))

unfoldable pub memory_field : List ℕ → ℕ
memory_field s = field_fault s 23 2 17 then memory_fault (payload s 23)

unfoldable pub addresses_field : List ℕ → ℕ
addresses_field s = field_fault s 43 3 24

-- where the block starts
abbrev pub start_of : List ℕ → ℕ
start_of s = num32 (payload s 70) 0

unfoldable pub start_field : List ℕ → ℕ
start_field s = field_fault s 70 4 4 then start_fault (memory_of (payload s 23)) s (start_of s)

unfoldable pub guard_field : List ℕ → ℕ
guard_field s = cond (in_flash (start_of s)) 0 (field_fault s 77 6 16)

abbrev pub guard_at : List ℕ → Guard
guard_at s = cond (in_flash (start_of s)) no_guard (guard_of (payload s 77))

-- where the operations start
abbrev pub first_op : List ℕ → ℕ
first_op s = cond (in_flash (start_of s)) 77 96
