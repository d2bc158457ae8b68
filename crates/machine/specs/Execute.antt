-- What each instruction does, by the pseudocode of its section in the Arm ARM (C6.2). The manual's sf is `Size`, its datasize `bits`.
use Rattle.std.specs.Prelude.{Bool, true, false, cond, not, List, [], ◌∷◌, ◌++◌, ℕ, zero, suc, ◌+◌, ◌-◌, ◌*◌, ◌/◌, ◌%◌, ◌^◌, leb, eqb, pos, ◌+ℤ◌, ◌-ℤ◌, ◌*ℤ◌, get_or, set}
use Rattle.std.proofs.Math.Option.{Option, none, some}
use Rattle.std.specs.Int.Bits.{bit_and, bit_or, bit_xor}
use Rattle.std.specs.Int.Signed.{quot_z}
use Rattle.arm.specs.Instr.{bits, access_size}
use Rattle.machine.specs.Isa.{Size, W, X, AddSub, Add, Sub, Flags, Keeps, Sets, Shift, Lsl, Lsr, Asr, Ror}
use Rattle.machine.specs.Isa.{Move, Movn, Movz, Movk, Logic, And, Orr, Eor, Ands, Second, Plain, Inverted, Extract, Sbfm, Bfm, Ubfm}
use Rattle.machine.specs.Isa.{One, Rev16, Rev, Clz, Two, Udiv, Sdiv, Lslv, Lsrv, Asrv, Three, Madd, Msub, Smaddl, Umaddl}
use Rattle.machine.specs.Isa.{Select, Csel, Csinc, Csinv, Csneg, Access, Strb, Ldrb, Ldrsb, Strh, Ldrh, Ldrsh, StrW, LdrW, StrX, LdrX}
use Rattle.machine.specs.Isa.{Scale, Unscaled, Scaled, Mode, Post, Offset, Pre, Pair, Stp, Ldp, Test, Zero, Nonzero, Jump, Br, Blr, Ret}
use Rattle.machine.specs.Isa.{Instr, MoveWide, AddSubImm, AddSubShifted, LogicalShifted, LogicalImm, Bitfield, OneSource, TwoSource, ThreeSource, CondSelect, MemoryImm, MemoryReg, MemoryPair, CompareBranch, TestBranch, CondBranch, Branch, BranchReg, Adr, LoadLiteral, Nop, FloatTwo, FloatCompare, FloatConvert}
use Rattle.machine.specs.Bits.{bit, IsZero, SInt, to_bits, SignExtend, NOT, LSL, LSR, ASR, ROR, insert, CountLeadingZeroBits, byte, bytes4, Nzcv, Sum, AddWithCarry, ConditionHolds}
use Rattle.machine.specs.State.{Region, Request, read, write, guard, Outcome, State, context, ram, map, guards}
use Rattle.machine.specs.State.{R, RSP, with_x, with_flags, with_mem, with_xsp, goto}
use Rattle.machine.specs.Memory.{write_le, bytes_of, with_bytes, load, store}

-- the addresses that stand for the outside
pub record Helpers : Type 0 where
  pub h-read : ℕ
  pub h-write : ℕ
  pub h-ram-ok : ℕ

-- an instruction goes on, leaves by the return or by a jump, or is refused with a number of 2026-08
pub data Effect : Type 0 where
  next returned jumped : State → Effect
  refused : ℕ → Effect

-- to the next instruction
abbrev pub done : State → Effect
done s = next (goto (s.pc + 4) s)

-- to the instruction d bytes from here, d as 64 bits
abbrev pub branch_if : Bool → ℕ → State → Effect
branch_if b d s = next (goto (s.pc + cond b d 4) s)

-- 19: an access that is not wholly in one region, or a store into code or flash
abbrev pub accessed {ℓ} : {A : Type ℓ} → Option A → (A → Effect) → Effect
accessed none f = refused 19
accessed (some a) f = f a

-- ---- data processing
abbrev pub moved : Size → Move → (old p imm : ℕ) → ℕ
moved z Movz old p imm = imm * 2 ^ p
moved z Movn old p imm = NOT (bits z) (imm * 2 ^ p)
moved z Movk old p imm = insert old p 16 imm

abbrev pub add_sub : Size → AddSub → ℕ → ℕ → Sum
add_sub z Add a b = AddWithCarry (bits z) a b false
add_sub z Sub a b = AddWithCarry (bits z) a (NOT (bits z) b) true

abbrev pub flags_if : Flags → Nzcv → State → State
flags_if Keeps f s = s
flags_if Sets f s = with_flags f s

-- register 31 is the stack pointer unless the flags are set
abbrev pub destination : Flags → ℕ → ℕ → State → State
destination Keeps rd v s = with_xsp rd v s
destination Sets rd v s = with_x rd v s

-- ShiftReg
abbrev pub shifted : Size → Shift → ℕ → ℕ → ℕ
shifted z Lsl a n = LSL (bits z) a n
shifted z Lsr a n = LSR a n
shifted z Asr a n = ASR (bits z) a n
shifted z Ror a n = ROR (bits z) a n

abbrev pub second : Size → Second → ℕ → ℕ
second z Plain b = b
second z Inverted b = NOT (bits z) b

abbrev pub logic : Logic → ℕ → ℕ → ℕ
logic And a b = bit_and a b
logic Orr a b = bit_or a b
logic Eor a b = bit_xor a b
logic Ands a b = bit_and a b

abbrev pub logic_flags : Logic → Flags
logic_flags And = Keeps
logic_flags Orr = Keeps
logic_flags Eor = Keeps
logic_flags Ands = Sets

-- result<N-1> : IsZero : 0 : 0
abbrev pub test_flags : Size → ℕ → Nzcv
test_flags z r = record { n = bit r (bits z - 1); z = IsZero r; c = false; v = false }

-- DecodeBitMasks at N = 0, imms below 31: imms + 1 ones, rotated right by immr within 32 bits
abbrev pub bit_mask : (immr imms : ℕ) → ℕ
bit_mask immr imms = ROR 32 (2 ^ (imms + 1) - 1) immr

-- UBFM, SBFM, BFM: bits immr to imms to the low end; or, where imms is below immr, bits 0 to imms to place N - immr
abbrev pub field_at : Size → (immr imms : ℕ) → ℕ
field_at z immr imms = cond (leb immr imms) 0 (bits z - immr)

abbrev pub field_width : (immr imms : ℕ) → ℕ
field_width immr imms = cond (leb immr imms) (imms + 1 - immr) (imms + 1)

abbrev pub field_of : (immr imms a : ℕ) → ℕ
field_of immr imms a = cond (leb immr imms) (a / 2 ^ immr) a % 2 ^ field_width immr imms

abbrev pub extracted : Size → Extract → (immr imms old a : ℕ) → ℕ
extracted z Ubfm immr imms old a = field_of immr imms a * 2 ^ field_at z immr imms
extracted z Sbfm immr imms old a = let p : ℕ = field_at z immr imms in SignExtend (p + field_width immr imms) (bits z) (field_of immr imms a * 2 ^ p)
extracted z Bfm immr imms old a = insert old (field_at z immr imms) (field_width immr imms) (field_of immr imms a)

abbrev pub one : One → ℕ → ℕ
one Rev16 a = bytes4 (byte a 1) (byte a 0) (byte a 3) (byte a 2)
one Rev a = bytes4 (byte a 3) (byte a 2) (byte a 1) (byte a 0)
one Clz a = CountLeadingZeroBits 32 a

-- a division by zero gives zero; a variable shift is by the amount mod the width
abbrev pub two : Size → Two → ℕ → ℕ → ℕ
two z Udiv a b = cond (IsZero b) 0 (a / b)
two z Sdiv a b = cond (IsZero b) 0 (to_bits (bits z) (quot_z (SInt (bits z) a) (SInt (bits z) b)))
two z Lslv a b = LSL (bits z) a (b % bits z)
two z Lsrv a b = LSR a (b % bits z)
two z Asrv a b = ASR (bits z) a (b % bits z)

-- the width of the addend and of the result
abbrev pub three_size : Three → Size
three_size Madd = W
three_size Msub = W
three_size Smaddl = X
three_size Umaddl = X

abbrev pub three : Three → (addend a b : ℕ) → ℕ
three Madd c a b = (c + a * b) % 2 ^ 32
three Msub c a b = to_bits 32 (pos c -ℤ pos (a * b))
three Smaddl c a b = to_bits 64 (pos c +ℤ SInt 32 a *ℤ SInt 32 b)
three Umaddl c a b = (c + a * b) % 2 ^ 64

-- what CSEL and its kin give where the condition fails
abbrev pub otherwise : Size → Select → ℕ → ℕ
otherwise z Csel b = b
otherwise z Csinc b = (b + 1) % 2 ^ bits z
otherwise z Csinv b = NOT (bits z) b
otherwise z Csneg b = (NOT (bits z) b + 1) % 2 ^ bits z

-- ---- loads and stores
abbrev pub access_bytes : Access → ℕ
access_bytes a = 2 ^ access_size a

pub data Direction : Type 0 where
  stores loads loads_signed : Direction

abbrev pub direction : Access → Direction
direction Strb = stores
direction Ldrb = loads
direction Ldrsb = loads_signed
direction Strh = stores
direction Ldrh = loads
direction Ldrsh = loads_signed
direction StrW = stores
direction LdrW = loads
direction StrX = stores
direction LdrX = loads

-- LDR, STR and their kin at an address; LDRSB and LDRSH extend to 32 bits
abbrev pub access : Direction → (n a rt : ℕ) → State → Effect
access stores n a rt s = accessed (store s.mem a n (R X s rt)) (λ m. done (with_mem m s))
access loads n a rt s = accessed (load s.mem a n) (λ v. done (with_x rt v s))
access loads_signed n a rt s = accessed (load s.mem a n) (λ v. done (with_x rt (SignExtend (8 * n) 32 v) s))

abbrev pub scale_by : Scale → ℕ → ℕ
scale_by Unscaled n = 1
scale_by Scaled n = n

-- base and base plus offset: where the pair lies, and the base afterwards
abbrev pub pair_address : Mode → (base moved : ℕ) → ℕ
pair_address Post b m = b
pair_address Offset b m = m
pair_address Pre b m = m

abbrev pub writeback : Mode → (rn moved : ℕ) → State → State
writeback Post rn m s = with_xsp rn m s
writeback Offset rn m s = s
writeback Pre rn m s = with_xsp rn m s

-- the two registers at an address, and the base afterwards
abbrev pub pair : Pair → (a rt rt2 : ℕ) → (State → State) → State → Effect
pair Stp a rt rt2 after s =
    accessed (store s.mem a 8 (R X s rt)) (λ m. accessed (store m ((a + 8) % 2 ^ 64) 8 (R X s rt2)) (λ m'. done (after (with_mem m' s))))
pair Ldp a rt rt2 after s =
    accessed (load s.mem a 8) (λ u. accessed (load s.mem ((a + 8) % 2 ^ 64) 8) (λ v. done (after (with_x rt2 v (with_x rt u s)))))

-- ---- branches
-- a field of k bits that counts words, as 64 bits of bytes
abbrev pub words : ℕ → ℕ → ℕ
words k imm = SignExtend (k + 2) 64 (imm * 4)

abbrev pub tested : Test → Bool → Bool
tested Zero b = b
tested Nonzero b = not b

-- ---- helper calls
-- registers 0 to n - 1 are those of the list
abbrev pub overwritten : ℕ → List ℕ → List ℕ → List ℕ
overwritten zero l x = x
overwritten (suc n) l x = overwritten n l (set x n (get_or l n 0))

-- a read's answer is in W0, and a guard's; the upper half of X0, and after a write all of it, is anything
abbrev pub answered : Request → Outcome → ℕ
answered (read a w d) o = o.answer % 2 ^ 32 + get_or o.scratch 0 0 / 2 ^ 32 * 2 ^ 32
answered (write a w d v) o = get_or o.scratch 0 0
answered (guard a) o = o.answer % 2 ^ 32 + get_or o.scratch 0 0 / 2 ^ 32 * 2 ^ 32

-- the context afterwards: the break word at byte 24, the version at byte 40
abbrev pub told : Outcome → List ℕ → List ℕ
told o l = write_le (write_le l 24 4 o.brk) 40 8 o.version

-- a guard's record with this version, at byte 0
abbrev pub with_version : ℕ → List ℕ → List ℕ
with_version v l = write_le l 0 8 v

-- the guards' records afterwards, from region i on, as many as versions are given
abbrev pub versioned : (i : ℕ) → List ℕ → List Region → List Region
versioned i [] m = m
versioned i (v ∷ vs) m = versioned (suc i) vs (with_bytes i (with_version v (bytes_of m i)) m)

-- "keeps registers 19 to 28 and sp, and alters nothing else but registers 0 to 18, 29 (restored), 30 and flags"; the break word, RAM,
-- the code map and the versions are the outcome's
abbrev pub called : Request → Outcome → List Outcome → State → State
called q o os s =
    record {
      x = set (set (overwritten 19 o.scratch s.x) 0 (answered q o)) 30 o.link;
      sp = s.sp;
      nzcv = o.nzcv;
      pc = s.pc;
      mem =
          versioned guards o.guards
          (with_bytes map o.map (with_bytes ram o.ram (with_bytes context (told o (bytes_of s.mem context)) s.mem)));
      outcomes = os;
      requests = s.requests ++ (q ∷ []);
      count = s.count;
    }

-- 20: no outcome is left
abbrev pub ask : Request → List Outcome → State → Effect
ask q [] s = refused 20
ask q (o ∷ os) s = done (called q o os s)

-- BLR: a helper's arguments are the context in X0, then address, done count, width and, to write, the value; of `h_ram_ok` the context
-- and the guard's address; any other address is branched to with the link
abbrev pub call : Helpers → ℕ → State → Effect
call h a s =
    cond (eqb a h.h-read) (ask (read (R W s 1) (R W s 3) (R W s 2)) s.outcomes s)
    (cond (eqb a h.h-write) (ask (write (R W s 1) (R W s 4) (R W s 3) (R W s 2)) s.outcomes s)
    (cond (eqb a h.h-ram-ok) (ask (guard (R X s 1)) s.outcomes s)
    (next (goto a (with_x 30 ((s.pc + 4) % 2 ^ 64) s)))))

abbrev pub jump : Helpers → Jump → ℕ → State → Effect
jump h Br a s = jumped (goto a s)
jump h Blr a s = call h a s
jump h Ret a s = returned (goto a s)

-- ---- all of them
unfoldable pub execute : Helpers → Instr → State → Effect
execute h (MoveWide z m hw imm rd) s = done (with_x rd (moved z m (R z s rd) (16 * hw) imm) s)
execute h (AddSubImm z o f imm rn rd) s = let r : Sum = add_sub z o (RSP z s rn) imm in done (destination f rd r.result (flags_if f r.nzcv s))
execute h (AddSubShifted z o f k rm n rn rd) s = let r : Sum = add_sub z o (R z s rn) (shifted z k (R z s rm) n) in done (with_x rd r.result (flags_if f r.nzcv s))
execute h (LogicalShifted z o v k rm n rn rd) s =
    let r : ℕ = logic o (R z s rn) (second z v (shifted z k (R z s rm) n)) in done (with_x rd r (flags_if (logic_flags o) (test_flags z r) s))
execute h (LogicalImm o immr imms rn rd) s =
    let r : ℕ = logic o (R W s rn) (bit_mask immr imms) in done (destination (logic_flags o) rd r (flags_if (logic_flags o) (test_flags W r) s))
execute h (Bitfield z o immr imms rn rd) s = done (with_x rd (extracted z o immr imms (R z s rd) (R z s rn)) s)
execute h (OneSource o rn rd) s = done (with_x rd (one o (R W s rn)) s)
execute h (TwoSource z o rm rn rd) s = done (with_x rd (two z o (R z s rn) (R z s rm)) s)
execute h (ThreeSource o rm ra rn rd) s = done (with_x rd (three o (R (three_size o) s ra) (R W s rn) (R W s rm)) s)
execute h (CondSelect z o rm k rn rd) s = done (with_x rd (cond (ConditionHolds k s.nzcv) (R z s rn) (otherwise z o (R z s rm))) s)
execute h (MemoryImm a imm rn rt) s = access (direction a) (access_bytes a) ((RSP X s rn + imm * access_bytes a) % 2 ^ 64) rt s
execute h (MemoryReg a c rm rn rt) s = access (direction a) (access_bytes a) ((RSP X s rn + R W s rm * scale_by c (access_bytes a)) % 2 ^ 64) rt s
execute h (MemoryPair m p imm rt2 rn rt) s =
    let b : ℕ = RSP X s rn in
    let d : ℕ = (b + SignExtend 10 64 (imm * 8)) % 2 ^ 64 in
    pair p (pair_address m b d) rt rt2 (writeback m rn d) s
execute h (CompareBranch z t imm rt) s = branch_if (tested t (IsZero (R z s rt))) (words 19 imm) s
execute h (TestBranch t n imm rt) s = branch_if (tested t (not (bit (R X s rt) n))) (words 14 imm) s
execute h (CondBranch imm k) s = branch_if (ConditionHolds k s.nzcv) (words 19 imm) s
execute h (Branch imm) s = branch_if true (words 26 imm) s
execute h (BranchReg j rn) s = jump h j (R X s rn) s
execute h (Adr imm rd) s = done (with_x rd ((s.pc + SignExtend 21 64 imm) % 2 ^ 64) s)
execute h (LoadLiteral imm rt) s = access loads 8 ((s.pc + words 19 imm) % 2 ^ 64) rt s
execute h Nop s = done s
execute h (FloatTwo o rm rn rd) s = refused 18
execute h (FloatCompare rm rn) s = refused 18
execute h (FloatConvert o rn rd) s = refused 18
