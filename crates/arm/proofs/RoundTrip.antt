-- Decoding is the inverse of encoding: `decode w` is `valid i` exactly where i carries its operands and its word is w.
-- Assumes nothing.
use Prim.Native.Nat.{ℕ, ◌+◌, ◌*◌, ◌/◌, ◌%◌, ◌^◌, ◌<◌}
use native.Mathlib.Omega.{arith}
use mathlib.Core.Path.{◌≡◌, refl, sym, ap, ap₂, subst, ◌∙◌}
use mathlib.Core.List.{List, [], ◌∷◌}
use mathlib.Core.Bool.{Bool, true, false}
use borrow.Author.Tests.{eqb-true}
use lib.Dec.{T, ltb, eqb, ltb→lt, lt→ltb, eqb→eq, eqb_refl}
use Rattle.arm.specs.Fields.{Piece, total, pack, Fits}
use Rattle.arm.specs.Instr.{Size, W, X, AddSub, Add, Sub, Flags, Keeps, Sets, Shift, Lsl, Lsr, Asr, Ror}
use Rattle.arm.specs.Instr.{Move, Movn, Movz, Movk, Logic, And, Orr, Eor, Ands, Second, Plain, Inverted, Extract, Sbfm, Bfm, Ubfm}
use Rattle.arm.specs.Instr.{One, Rev16, Rev, Clz, Two, Udiv, Sdiv, Lslv, Lsrv, Asrv, Three, Madd, Msub, Smaddl, Umaddl}
use Rattle.arm.specs.Instr.{Select, Csel, Csinc, Csinv, Csneg, Access, Strb, Ldrb, Ldrsb, Strh, Ldrh, Ldrsh, StrW, LdrW, StrX, LdrX}
use Rattle.arm.specs.Instr.{Scale, Unscaled, Scaled, Mode, Post, Offset, Pre, Pair, Stp, Ldp, Test, Zero, Nonzero, Jump, Br, Blr, Ret}
use Rattle.arm.specs.Instr.{Float, Fmul, Fdiv, Fadd, Fsub, Fmaxnm, Fminnm, Convert, Scvtf, Ucvtf, FmovWS, FmovSW, Fcvtzs, Fcvtzu}
use Rattle.arm.specs.Instr.{Instr, MoveWide, AddSubImm, AddSubShifted, LogicalShifted, LogicalImm, Bitfield, OneSource, TwoSource, ThreeSource, CondSelect, MemoryImm, MemoryReg, MemoryPair, CompareBranch, TestBranch, CondBranch, Branch, BranchReg, Adr, LoadLiteral, Nop, FloatTwo, FloatCompare, FloatConvert}
use Rattle.arm.specs.Instr.{Class, move_wide, add_sub_imm, add_sub_shifted, logical_shifted, logical_imm, bitfield, one_source, two_source, three_source, cond_select, memory_imm, memory_reg, memory_pair, compare_branch, test_branch, cond_branch, branch, branch_reg, adr, load_literal, nop, float_two, float_compare, float_convert}
use Rattle.arm.specs.Instr.{Limit, ◌below◌, format, class, operands, limits, encode}
use Rattle.arm.specs.Instr.{Class-discrete, Within, Carried}
use Rattle.arm.specs.Instr.{sf, add_sub_op, flags_op, shift_op, move_op, logic_op, second_op, extract_op, one_op, two_op, three_op31, three_o0, select_op, select_op2, access_size, access_opc, scale_op, mode_op, pair_op, test_op, jump_op, float_op, convert_op}
use Rattle.arm.specs.Decode.{size_of, add_sub_of, flags_of, shift_of, move_of, logic_of, second_of, extract_of, one_of, two_of, three_of, select_of, access_of, scale_of, mode_of, pair_of, test_of, jump_of, float_of, convert_of}
use Rattle.arm.specs.Decode.{unpack, make, both, fits, within, carried, Decoded, valid, invalid, keep, checked, attempt, first, find, classes, decode}
use Rattle.arm.proofs.Pieces.{both_left, both_right, both_true, fits_true, true_fits, sound, clash, pack_lt, unpack-pack, apart}

-- ---- the test of `Carried`
within_true : (ls : List Limit) → Within ls → T (within ls)
within_true [] h = tt
within_true ((x below n) ∷ ls) h = both_true (ltb x n) (within ls) (lt→ltb _ _ h.0) (within_true ls h.1)

true_within : (ls : List Limit) → T (within ls) → Within ls
true_within [] t = tt
true_within ((x below n) ∷ ls) t = (ltb→lt _ _ (both_left (ltb x n) (within ls) t), true_within ls (both_right (ltb x n) (within ls) t))

pub carried_true : (i : Instr) → Carried i → T (carried i)
carried_true i h = both_true (fits (format (class i)) (operands i)) (within (limits i)) (fits_true (format (class i)) (operands i) h.0) (within_true (limits i) h.1)

pub true_carried : (i : Instr) → T (carried i) → Carried i
true_carried i t =
    let f : Bool = fits (format (class i)) (operands i) in
    (true_fits (format (class i)) (operands i) (both_left f (within (limits i)) t), true_within (limits i) (both_right f (within (limits i)) t))

-- ---- the named fields
size_is : (a : Size) → size_of (sf a) ≡ a
unfolding size_of
size_is W = refl
size_is X = refl

add_sub_is : (a : AddSub) → add_sub_of (add_sub_op a) ≡ a
unfolding add_sub_of
add_sub_is Add = refl
add_sub_is Sub = refl

flags_is : (a : Flags) → flags_of (flags_op a) ≡ a
unfolding flags_of
flags_is Keeps = refl
flags_is Sets = refl

shift_is : (a : Shift) → shift_of (shift_op a) ≡ a
unfolding shift_of
shift_is Lsl = refl
shift_is Lsr = refl
shift_is Asr = refl
shift_is Ror = refl

move_is : (a : Move) → move_of (move_op a) ≡ a
unfolding move_of
move_is Movn = refl
move_is Movz = refl
move_is Movk = refl

logic_is : (a : Logic) → logic_of (logic_op a) ≡ a
unfolding logic_of
logic_is And = refl
logic_is Orr = refl
logic_is Eor = refl
logic_is Ands = refl

second_is : (a : Second) → second_of (second_op a) ≡ a
unfolding second_of
second_is Plain = refl
second_is Inverted = refl

extract_is : (a : Extract) → extract_of (extract_op a) ≡ a
unfolding extract_of
extract_is Sbfm = refl
extract_is Bfm = refl
extract_is Ubfm = refl

one_is : (a : One) → one_of (one_op a) ≡ a
unfolding one_of
one_is Rev16 = refl
one_is Rev = refl
one_is Clz = refl

two_is : (a : Two) → two_of (two_op a) ≡ a
unfolding two_of
two_is Udiv = refl
two_is Sdiv = refl
two_is Lslv = refl
two_is Lsrv = refl
two_is Asrv = refl

scale_is : (a : Scale) → scale_of (scale_op a) ≡ a
unfolding scale_of
scale_is Unscaled = refl
scale_is Scaled = refl

mode_is : (a : Mode) → mode_of (mode_op a) ≡ a
unfolding mode_of
mode_is Post = refl
mode_is Offset = refl
mode_is Pre = refl

pair_is : (a : Pair) → pair_of (pair_op a) ≡ a
unfolding pair_of
pair_is Stp = refl
pair_is Ldp = refl

test_is : (a : Test) → test_of (test_op a) ≡ a
unfolding test_of
test_is Zero = refl
test_is Nonzero = refl

jump_is : (a : Jump) → jump_of (jump_op a) ≡ a
unfolding jump_of
jump_is Br = refl
jump_is Blr = refl
jump_is Ret = refl

float_is : (a : Float) → float_of (float_op a) ≡ a
unfolding float_of
float_is Fmul = refl
float_is Fdiv = refl
float_is Fadd = refl
float_is Fsub = refl
float_is Fmaxnm = refl
float_is Fminnm = refl

convert_is : (a : Convert) → convert_of (convert_op a) ≡ a
unfolding convert_of
convert_is Scvtf = refl
convert_is Ucvtf = refl
convert_is FmovWS = refl
convert_is FmovSW = refl
convert_is Fcvtzs = refl
convert_is Fcvtzu = refl

three_is : (a : Three) → three_of (three_op31 a * 2 + three_o0 a) ≡ a
unfolding three_of
three_is Madd = refl
three_is Msub = refl
three_is Smaddl = refl
three_is Umaddl = refl

select_is : (a : Select) → select_of (select_op a * 2 + select_op2 a) ≡ a
unfolding select_of
select_is Csel = refl
select_is Csinc = refl
select_is Csinv = refl
select_is Csneg = refl

access_is : (a : Access) → access_of (access_size a * 4 + access_opc a) ≡ a
unfolding access_of
access_is Strb = refl
access_is Ldrb = refl
access_is Ldrsb = refl
access_is Strh = refl
access_is Ldrh = refl
access_is Ldrsh = refl
access_is StrW = refl
access_is LdrW = refl
access_is StrX = refl
access_is LdrX = refl

-- ---- an instruction is made again of its operands
made : (i : Instr) → make (class i) (operands i) ≡ i
made (MoveWide z m hw imm rd) = simp (size_is, move_is)
made (AddSubImm z o f imm rn rd) = simp (size_is, add_sub_is, flags_is)
made (AddSubShifted z o f h rm n rn rd) = simp (size_is, add_sub_is, flags_is, shift_is)
made (LogicalShifted z o v h rm n rn rd) = simp (size_is, logic_is, second_is, shift_is)
made (LogicalImm o immr imms rn rd) = simp logic_is
made (Bitfield z o immr imms rn rd) = simp (size_is, extract_is)
made (OneSource o rn rd) = simp one_is
made (TwoSource z o rm rn rd) = simp (size_is, two_is)
made (ThreeSource o rm ra rn rd) = simp three_is
made (CondSelect z o rm cond rn rd) = simp (size_is, select_is)
made (MemoryImm a imm rn rt) = simp access_is
made (MemoryReg a c rm rn rt) = simp (access_is, scale_is)
made (MemoryPair m p imm rt2 rn rt) = simp (mode_is, pair_is)
made (CompareBranch z t imm rt) = simp (size_is, test_is)
made (TestBranch t n imm rt) = simp test_is (ap (λ (m : ℕ). TestBranch t m imm rt) (omega arith))
made (CondBranch imm cond) = refl
made (Branch imm) = refl
made (BranchReg j rn) = simp jump_is
made (Adr imm rd) = ap (λ (m : ℕ). Adr m rd) (omega arith)
made (LoadLiteral imm rt) = refl
made Nop = refl
made (FloatTwo o rm rn rd) = simp float_is
made (FloatCompare rm rn) = refl
made (FloatConvert o rn rd) = simp convert_is

class-make : (c : Class) (xs : List ℕ) → class (make c xs) ≡ c
class-make move_wide xs = refl
class-make add_sub_imm xs = refl
class-make add_sub_shifted xs = refl
class-make logical_shifted xs = refl
class-make logical_imm xs = refl
class-make bitfield xs = refl
class-make one_source xs = refl
class-make two_source xs = refl
class-make three_source xs = refl
class-make cond_select xs = refl
class-make memory_imm xs = refl
class-make memory_reg xs = refl
class-make memory_pair xs = refl
class-make compare_branch xs = refl
class-make test_branch xs = refl
class-make cond_branch xs = refl
class-make branch xs = refl
class-make branch_reg xs = refl
class-make adr xs = refl
class-make load_literal xs = refl
class-make nop xs = refl
class-make float_two xs = refl
class-make float_compare xs = refl
class-make float_convert xs = refl

-- ---- a format's fixed bits fit their widths, and all pieces are 32 bits
abbrev whole : Class → Bool
whole c = both (sound (format c)) (eqb (total (format c)) 32)

-- ---- in the list of classes, those before c have other fixed bits
abbrev listed_test : (d c : Class) → Dec (d ≡ c) → Bool → Bool
listed_test d c (yes p) b = whole d
listed_test d c (no q) b = both (both (sound (format d)) (sound (format c))) (both (clash (format d) (format c) 32) b)

abbrev listed : List Class → Class → Bool
listed [] c = false
listed (d ∷ cs) c = listed_test d c (Class-discrete d c) (listed cs c)

all_listed : (c : Class) → T (listed classes c)
all_listed move_wide = tt
all_listed add_sub_imm = tt
all_listed add_sub_shifted = tt
all_listed logical_shifted = tt
all_listed logical_imm = tt
all_listed bitfield = tt
all_listed one_source = tt
all_listed two_source = tt
all_listed three_source = tt
all_listed cond_select = tt
all_listed memory_imm = tt
all_listed memory_reg = tt
all_listed memory_pair = tt
all_listed compare_branch = tt
all_listed test_branch = tt
all_listed cond_branch = tt
all_listed branch = tt
all_listed branch_reg = tt
all_listed adr = tt
all_listed load_literal = tt
all_listed nop = tt
all_listed float_two = tt
all_listed float_compare = tt
all_listed float_convert = tt

-- ---- the attempt at an instruction's own class, and at another
kept : (b : Bool) (i : Instr) → T b → keep b i ≡ valid i
kept true i t = refl
kept false i t = absurd t

dropped : (b : Bool) (i : Instr) → (T b → ⊥) → keep b i ≡ invalid
dropped true i f = absurd (f tt)
dropped false i f = refl

attempt_own : (i : Instr) → T (sound (format (class i))) → Carried i → attempt (class i) (encode i) ≡ valid i
attempt_own i s h =
    ap (λ (xs : List ℕ). checked (encode i) (make (class i) xs)) (unpack-pack (format (class i)) (operands i) s h.0)
    ∙ ap (checked (encode i)) (made i)
    ∙ kept (both (carried i) (eqb (encode i) (encode i))) i (both_true (carried i) (eqb (encode i) (encode i)) (carried_true i h) (eqb_refl (encode i)))

attempt_other : (d : Class) (i : Instr) → T (sound (format d)) → T (sound (format (class i))) → T (clash (format d) (format (class i)) 32) → Carried i → attempt d (encode i) ≡ invalid
attempt_other d i r s t h = dropped (both (carried j) (eqb (encode j) (encode i))) j refuted
  where
    j : Instr
    j = make d (unpack (format d) (encode i))

    of_d : class j ≡ d
    of_d = class-make d (unpack (format d) (encode i))

    refuted : T (both (carried j) (eqb (encode j) (encode i))) → ⊥
    refuted u =
        apart (format (class j)) (format (class i)) (operands j) (operands i) 32
        (subst (λ (c : Class). T (sound (format c))) (sym of_d) r)
        s
        (true_carried j (both_left (carried j) (eqb (encode j) (encode i)) u)).0
        h.0
        (subst (λ (c : Class). T (clash (format c) (format (class i)) 32)) (sym of_d) t)
        (eqb→eq (encode j) (encode i) (both_right (carried j) (eqb (encode j) (encode i)) u))

found_next : (d : Class) (i : Instr) (r : Decoded) (q : Dec (d ≡ class i)) (b : Bool) → Carried i → (T b → r ≡ valid i) → T (listed_test d (class i) q b) → first (attempt d (encode i)) r ≡ valid i
found_next d i r (yes p) b h next t =
    ap (λ (a : Decoded). first a r) (ap (λ (c : Class). attempt c (encode i)) p ∙ attempt_own i (subst (λ (c : Class). T (sound (format c))) p (both_left (sound (format d)) (eqb (total (format d)) 32) t)) h)
found_next d i r (no q) b h next t =
    let sd = sound (format d) in
    let si = sound (format (class i)) in
    let k = clash (format d) (format (class i)) 32 in
    let u : T (both sd si) = both_left (both sd si) (both k b) t in
    let v : T (both k b) = both_right (both sd si) (both k b) t in
    ap (λ (a : Decoded). first a r) (attempt_other d i (both_left sd si u) (both_right sd si u) (both_left k b v) h) ∙ next (both_right k b v)

found : (cs : List Class) (i : Instr) → Carried i → T (listed cs (class i)) → find cs (encode i) ≡ valid i
unfolding find
found [] i h t = absurd t
found (d ∷ cs) i h t = found_next d i (find cs (encode i)) (Class-discrete d (class i)) (listed cs (class i)) h (found cs i h) t

-- an instruction's word is decoded to it
pub decode-encode : (i : Instr) → Carried i → decode (encode i) ≡ valid i
unfolding decode
decode-encode i h = found classes i h (all_listed (class i))

-- ---- what is decoded has the word
pub record Encodes (i : Instr) (w : ℕ) : Type 0 where
  pub carries : Carried i
  pub word : encode i ≡ w

valid_is : {i j : Instr} → valid i ≡ valid j → i ≡ j
valid_is e = cc

attempt-sound : (w : ℕ) (j i : Instr) (b : Bool) → both (carried j) (eqb (encode j) w) ≡ b → keep b j ≡ valid i → Encodes i w
attempt-sound w j i true e p =
    let t : T (both (carried j) (eqb (encode j) w)) = subst T (sym e) tt in
    subst (λ (k : Instr). Encodes k w) (valid_is p)
    (record { carries = true_carried j (both_left (carried j) (eqb (encode j) w) t); word = eqb→eq (encode j) w (both_right (carried j) (eqb (encode j) w) t) })
attempt-sound w j i false e p = absurd (let z : ◌≡◌ {A = ℕ} 0 1 = cc in omega arith)

first_sound : (w : ℕ) (a r : Decoded) (i : Instr) → (a ≡ valid i → Encodes i w) → (r ≡ valid i → Encodes i w) → first a r ≡ valid i → Encodes i w
first_sound w (valid j) r i f g p = f p
first_sound w invalid r i f g p = g p

find-sound : (cs : List Class) (w : ℕ) (i : Instr) → find cs w ≡ valid i → Encodes i w
unfolding find
find-sound [] w i p = absurd (let z : ◌≡◌ {A = ℕ} 0 1 = cc in omega arith)
find-sound (c ∷ cs) w i p =
    first_sound w (attempt c w) (find cs w) i (attempt-sound w (make c (unpack (format c) w)) i _ refl) (find-sound cs w i) p

pub decode-sound : (w : ℕ) (i : Instr) → decode w ≡ valid i → Encodes i w
unfolding decode
decode-sound w i p = find-sound classes w i p

-- two carried instructions with one word are one
pub encode_injective : (i j : Instr) → Carried i → Carried j → encode i ≡ encode j → i ≡ j
encode_injective i j h g e = valid_is (sym (decode-encode i h) ∙ ap decode e ∙ decode-encode j g)

-- ---- a word has 32 bits
whole_next : (d c : Class) (q : Dec (d ≡ c)) (b : Bool) → (T b → T (whole c)) → T (listed_test d c q b) → T (whole c)
whole_next d c (yes p) b next t = subst (λ (e : Class). T (whole e)) p t
whole_next d c (no q) b next t =
    let s = both (sound (format d)) (sound (format c)) in
    let k = clash (format d) (format c) 32 in
    next (both_right k b (both_right s (both k b) t))

all_whole : (cs : List Class) (c : Class) → T (listed cs c) → T (whole c)
all_whole [] c t = absurd t
all_whole (d ∷ cs) c t = whole_next d c (Class-discrete d c) (listed cs c) (all_whole cs c) t

pub encode-fits : (i : Instr) → Carried i → encode i < 2 ^ 32
encode-fits i h =
    let f = format (class i) in
    let t : T (whole (class i)) = all_whole classes (class i) (all_listed (class i)) in
    subst (λ (n : ℕ). encode i < 2 ^ n) (eqb→eq (total f) 32 (both_right (sound f) (eqb (total f) 32) t))
    (pack_lt f (operands i) (both_left (sound f) (eqb (total f) 32) t) h.0)
