-- Reading a block record, from document 01's "The block record" and "Faults, in order": the checked block, or the number and place of
-- the first fault. A fault's number is 0 where there is none.
use Rattle.std.specs.Prelude.{◌≡◌, Bool, true, false, cond, not, ◌||◌, leb, ltb, eqb, ℕ, zero, suc, ◌+◌, ◌-◌, ◌≤◌}
use Rattle.std.specs.Prelude.{List, [], ◌∷◌, length, get_or, set, replicate, Result, Ok, Err}
use Rattle.block.specs.declared.Fast.TheVariants.{Nop}
use Rattle.block.specs.declared.BOp.{BOp}
use Rattle.block.specs.declared.Memory.{Memory}
use Rattle.block.specs.declared.Block.{Block}
use Rattle.block.specs.Block.{ops_of, may_jump, in_flash, no_guard}
use Rattle.faults.specs.declared.Refusal.{Refusal}
use Rattle.faults.specs.Faults.{fault_number}
unfoldable pub use Rattle.operation.specs.Operation.{contents_fault, operation_of}
pub use Rattle.fields.specs.Fields.{byte_at, ◌gives◌, ◌then◌, payload_length, payload, cut, layout_of, memory_of, addresses_of, guard_of}
pub use Rattle.fields.specs.Fields.{inside_ram, guard_next, start_of, guard_at, first_op}
unfoldable pub use Rattle.fields.specs.Fields.{num16, num32, num64, field_fault, layout_fault, region_fault, memory_fault, start_fault}
unfoldable pub use Rattle.fields.specs.Fields.{layout_field, memory_field, addresses_field, start_field, guard_field}

-- ---- fields 01 to 04 and 06 stand in crates/fields/specs/Fields.antt, the contents of field 05 in crates/operation/specs/Operation.antt

-- what fills the places behind the operations
abbrev pub nop : BOp
nop = record { fast = Nop; len = 0; glue = false }

-- the last operation read so far jumps
abbrev pub last_jumps : ℕ → List BOp → Bool
last_jumps zero ops = false
last_jumps (suc n) ops = may_jump (get_or ops n nop).fast

-- in a block with this memory, with n operations before it, and `jumped` if the last of them jumps
unfoldable pub operation_fault : Memory → List ℕ → ℕ → ℕ → Bool → ℕ
operation_fault m s at n jumped =
    cut s at gives 1
    then not (eqb (byte_at s at) 5) gives 2
    then leb 32 n gives 8
    then jumped gives 9
    then contents_fault m (payload s at)

-- ---- the record

-- what reading finds: a checked block, or a fault by number and place
pub data Answer : Type 0 where
  Accepted : Answer
  Refused : (number place : ℕ) → Answer

-- the answer, with the block where it is accepted
pub record Reading : Type 0 where
  pub answer : Answer
  pub block : Block

abbrev pub accepted : Block → Reading
accepted b = record { answer = Accepted; block = b }

-- no block at all: what a refusal holds in the block's place
abbrev pub empty : Block
empty =
    record {
      layout = record { regs = 0; sp = 0; rets = 0; pc = 0; hold = 0 };
      memory = record { ram_base = 0; ram_len = 0; xip_base = 0; xip_len = 0; map = false };
      addresses = record { h_read = 0; h_write = 0; table = 0 };
      pc0 = 0;
      guard = no_guard;
      ops = replicate 32 nop;
      n = 0;
    }

abbrev pub refused : ℕ → ℕ → Reading
refused number place = record { answer = Refused number place; block = empty }

-- what `read` has found, in this paper's numbers
abbrev pub found : Result Block Refusal → Reading
found (Ok b) = accepted b
found (Err r) = refused (fault_number r.fault) r.place

-- the same of a step of reading, which leaves this block
abbrev pub found_in : Result (Unit {0}) Refusal → Block → Reading
found_in (Ok done) b = accepted b
found_in (Err r) b = refused (fault_number r.fault) r.place

-- refused at a place, or what follows
unfoldable pub refused_or : ℕ → ℕ → Reading → Reading
refused_or zero place next = next
refused_or (suc n) place next = refused (suc n) place

abbrev pub push : Block → BOp → Block
push b o =
    record {
      layout = b.layout;
      memory = b.memory;
      addresses = b.addresses;
      pc0 = b.pc0;
      guard = b.guard;
      ops = set b.ops b.n o;
      n = b.n + 1;
    }

abbrev pub end_or : Bool → Block → Reading → Reading
end_or true b next = accepted b
end_or false b next = next

-- the operations from a byte on, up to the record's end, with `b` what is read so far; `fields` bounds the fields that may come, so
-- that the definition ends
unfoldable pub operations : ℕ → List ℕ → ℕ → Block → Reading
operations zero s at b = accepted b
operations (suc fields) s at b =
    end_or (leb (length s) at) b
    (refused_or (operation_fault b.memory s at b.n (last_jumps b.n b.ops)) at
    (operations fields s (at + 3 + payload_length s at) (push b (operation_of (payload s at)))))

-- fields 01 to 04, and 06 of a RAM block, of a record that has them whole, and no operation
unfoldable pub header : List ℕ → Block
header s =
    record {
      layout = layout_of (payload s 0);
      memory = memory_of (payload s 23);
      addresses = addresses_of (payload s 43);
      pc0 = start_of s;
      guard = guard_at s;
      ops = replicate 32 nop;
      n = 0;
    }

-- the operations of a RAM block, from a byte on, with so many bytes to RAM's end: "operations of a RAM block that reach past RAM's end
-- answer 17 at the first such operation's place"
unfoldable pub in_ram : List BOp → List ℕ → (at room : ℕ) → Reading → Reading
in_ram [] s at room r = r
in_ram (o ∷ os) s at room r =
    refused_or (ltb room o.len gives 17) at (in_ram os s (at + 3 + payload_length s at) (room - o.len) r)

abbrev pub to_ram_end : Block → ℕ
to_ram_end b = b.memory.ram_base + b.memory.ram_len - b.pc0

-- "after all fields and before 10": where a field has a fault there is no operation
unfoldable pub within_ram : List ℕ → Reading → Reading
within_ram s r = cond (in_flash (start_of s)) r (in_ram (ops_of r.block) s 96 (to_ram_end r.block) r)

-- "The record is read front to back." A 33rd operation is a fault, so 33 fields are enough (proofs/Enough.antt).
unfoldable pub reading : List ℕ → Reading
reading s =
    refused_or (layout_field s) 0
    (refused_or (memory_field s) 23
    (refused_or (addresses_field s) 43
    (refused_or (start_field s) 70
    (refused_or (guard_field s) 77
    (within_ram s (operations 33 s (first_op s) (header s)))))))

-- ---- the answer in this paper's numbers: a fault's number and place, 0 and 0 where the record is accepted

abbrev pub number_of : Answer → ℕ
number_of Accepted = 0
number_of (Refused number place) = number

abbrev pub place_of : Answer → ℕ
place_of Accepted = 0
place_of (Refused number place) = place

-- THE NUMBERS OF READING'S FAULTS, in the order of document 01's table, those that document 02 adds where it says. 10 is none of them: it
-- comes last, and depends on what is lent.
abbrev pub reading_faults : List ℕ
reading_faults = 1 ∷ 2 ∷ 8 ∷ 9 ∷ 3 ∷ 4 ∷ 5 ∷ 14 ∷ 15 ∷ 6 ∷ 7 ∷ 16 ∷ 17 ∷ []

abbrev pub among : ℕ → List ℕ → Bool
among n [] = false
among n (m ∷ ms) = eqb n m || among n ms

-- number and place tell the answer: 0 says that the record is accepted; a fault is one of reading's, at a byte of the record or at its end
pub record Told (s : List ℕ) (a : Answer) : Type 0 where
  pub number : number_of a ≡ number_of (reading s).answer
  pub place : place_of a ≡ place_of (reading s).answer
  pub accepted : number_of a ≡ 0 → a ≡ Accepted
  pub known : (number place : ℕ) → a ≡ Refused number place → among number reading_faults ≡ true
  pub inside : place_of a ≤ length s
