-- The code as words: what is fetched, decoded and stepped over.
--     read_word, read-literal      a word of the code's bytes, and two words as 64 bits
--     fetch_ok                     the word at the program counter
--     instruction_ok               its instruction; encode-lt: an instruction's word is below 2 ^ 32
--     step_ok                      a step executes the instruction that the word at the program counter decodes to
--     exec-literal_ok              a literal's load gives the two words at its place
--     run_next, run-add, run_more     a run goes on after a step, is one run after another, and stays as it is where it left
-- Assumes nothing.
use mathlib.Core.Path.{◌≡◌, refl, ap, ap₂, ◌∙◌, subst}
use mathlib.Core.Bool.{Bool, true}
use mathlib.Core.Option.{some}
use mathlib.Core.List.{List, [], ◌∷◌}
use Prim.Native.Nat.{ℕ, zero, suc, ◌+◌, ◌-◌, ◌*◌, ◌/◌, ◌%◌, ◌^◌, ◌≤◌, ◌<◌}
use native.Mathlib.Nat.{mod-eq_of_lt, mod-mod, div-div-eq-div-mul, div-one}
use native.Mathlib.Omega.{arith}
use borrow.Author.Tests.{eq-eqb}
use lib.Arith.{mod-mul}
use lib.Dec.{T, eqb, eqb→eq}
use lib.ListN.{length, get_or}
use Rattle.arm.specs.Instr.{Class, move_wide, add_sub_imm, add_sub_shifted, logical_shifted, logical_imm, bitfield, one_source, two_source}
use Rattle.arm.specs.Instr.{three_source, cond_select, memory_imm, memory_reg, memory_pair, compare_branch, test_branch, cond_branch, branch}
use Rattle.arm.specs.Instr.{branch_reg, adr, load_literal, nop, float_two, float_compare, float_convert}
use Rattle.arm.specs.Instr.{format, class, operands, encode, Carried}
use Rattle.arm.specs.Fields.{total}
use Rattle.arm.specs.Decode.{both, valid, decode}
use Rattle.arm.proofs.Pieces.{sound, pack_lt, both_left, both_right}
use Rattle.arm.proofs.RoundTrip.{decode-sound}
use Rattle.machine.specs.Isa.{Instr, LoadLiteral}
use Rattle.machine.specs.Bits.{byte}
use Rattle.machine.specs.State.{Region, State, code, with_x}
use Rattle.machine.specs.Memory.{read_le, bytes_of_words, nowhere, bytes_of, base_of, size_of}
use Rattle.machine.specs.Execute.{Helpers, done, accessed, loads, access, execute}
use Rattle.machine.specs.Encoders.{has_encoder}
use Rattle.machine.specs.Machine.{Status, running, at_return, at_jump, fault, Run, fetch, encoded, instruction, outcome, decoded}
use Rattle.machine.specs.Machine.{fetched, step, following, run}
use Rattle.machine.proofs.Regions.{within_yes, load_code}
use Rattle.machine.proofs.Numbers.{words_forward}
use Rattle.machine.proofs.Access.{exec-literal}

-- ---- words as bytes
pub length-bytes : (ws : List ℕ) → length (bytes_of_words ws) ≡ 4 * length ws
unfolding bytes_of_words
length-bytes [] = refl
length-bytes (w ∷ ws) = omega (arith, length-bytes ws)

read_cons : (b : ℕ) (l : List ℕ) (o n : ℕ) → read_le (b ∷ l) (suc o) n ≡ read_le l o n
unfolding read_le
read_cons b l o zero = refl
read_cons b l o (suc n) = ap (λ r. get_or l o 0 % 256 + 256 * r) (read_cons b l (suc o) n)

read_behind : (w : ℕ) (ws : List ℕ) (o n : ℕ) → read_le (bytes_of_words (w ∷ ws)) (4 + o) n ≡ read_le (bytes_of_words ws) o n
unfolding bytes_of_words
read_behind w ws o n =
    let l : List ℕ = bytes_of_words ws in
    ap (λ k. read_le (byte w 0 ∷ byte w 1 ∷ byte w 2 ∷ byte w 3 ∷ l) k n) (let e : 4 + o ≡ suc (suc (suc (suc o))) = omega arith in e)
    ∙ read_cons (byte w 0) (byte w 1 ∷ byte w 2 ∷ byte w 3 ∷ l) (suc (suc (suc o))) n
    ∙ read_cons (byte w 1) (byte w 2 ∷ byte w 3 ∷ l) (suc (suc o)) n
    ∙ read_cons (byte w 2) (byte w 3 ∷ l) (suc o) n
    ∙ read_cons (byte w 3) l o n

read-empty : (n o : ℕ) → read_le [] o n ≡ 0
unfolding read_le
read-empty zero o = refl
read-empty (suc n) o = omega (arith, read-empty n (suc o))

four_bytes : (w : ℕ) → w / 1 % 256 % 256 + 256 * (w / 256 % 256 % 256 + 256 * (w / 65536 % 256 % 256 + 256 * (w / 16777216 % 256 % 256 + 256 * 0))) ≡ w % 2 ^ 32
four_bytes w =
    let a : w / 65536 % 256 + 256 * (w / 65536 / 256 % 256) ≡ w / 65536 % 65536 = digit (w / 65536) 256 (omega arith) in
    let b : w / 256 % 256 + 256 * (w / 256 / 256 % 65536) ≡ w / 256 % 16777216 = digit (w / 256) 65536 (omega arith) in
    let c : w % 256 + 256 * (w / 256 % 16777216) ≡ w % 2 ^ 32 = digit w 16777216 (omega arith) in
    let d : w / 65536 / 256 ≡ w / 16777216 = div-div-eq-div-mul w 65536 256 in
    let e : w / 256 / 256 ≡ w / 65536 = div-div-eq-div-mul w 256 256 in
    let f : w / 1 ≡ w = div-one w in
    rw (f, mod-mod w 256, mod-mod (w / 256) 256, mod-mod (w / 65536) 256, mod-mod (w / 16777216) 256, ← c, ← b, e, ← a, d) (omega arith)
  where
    digit : (x m : ℕ) → 0 < m → x % 256 + 256 * (x / 256 % m) ≡ x % (m * 256)
    digit x m h = omega (arith, mod-mul x {m = m} {c = 256} h (omega arith))

pub read_word : (ws : List ℕ) (k : ℕ) → read_le (bytes_of_words ws) (4 * k) 4 ≡ get_or ws k 0 % 2 ^ 32
unfolding read_le bytes_of_words
read_word [] k = read-empty 4 (4 * k)
read_word (w ∷ ws) zero = four_bytes w
read_word (w ∷ ws) (suc k) = ap (λ o. read_le (bytes_of_words (w ∷ ws)) o 4) (let e : 4 * suc k ≡ 4 + 4 * k = omega arith in e) ∙ read_behind w ws (4 * k) 4 ∙ read_word ws k

-- eight bytes are two words
read-eight : (l : List ℕ) (o : ℕ) → read_le l o 8 ≡ read_le l o 4 + 2 ^ 32 * read_le l (o + 4) 4
unfolding read_le
read-eight l o = let e : o + 4 ≡ suc (suc (suc (suc o))) = omega arith in rw e (omega arith)

pub read-literal : (ws : List ℕ) (k : ℕ) → read_le (bytes_of_words ws) (4 * k) 8 ≡ get_or ws k 0 % 2 ^ 32 + 2 ^ 32 * (get_or ws (suc k) 0 % 2 ^ 32)
read-literal ws k =
    read-eight (bytes_of_words ws) (4 * k)
    ∙ ap₂ (λ a b. a + 2 ^ 32 * b) (read_word ws k) (ap (λ o. read_le (bytes_of_words ws) o 4) (let e : 4 * k + 4 ≡ 4 * suc k = omega arith in e) ∙ read_word ws (suc k))

-- ---- the word at the program counter
pub fetch_ok : (m : List Region) (ws : List ℕ) {pc : ℕ} (k : ℕ) → bytes_of m code ≡ bytes_of_words ws → pc ≡ base_of m code + 4 * k → k < length ws → fetch m pc ≡ some (get_or ws k 0 % 2 ^ 32)
unfolding fetch
fetch_ok m ws {pc} k e p h =
    let n : size_of m code ≡ 4 * length ws = ap length e ∙ length-bytes ws in
    let d : pc - base_of m code ≡ 4 * k = omega arith in
    rw (within_yes (get_or m code nowhere) pc 4 (omega arith) (omega arith), d, eq-eqb (4 * k % 4) 0 (omega arith), e) (ap some (read_word ws k))

-- ---- its instruction
abbrev whole : Class → Bool
whole c = both (sound (format c)) (eqb (total (format c)) 32)

all_whole : (c : Class) → T (whole c)
all_whole move_wide = tt
all_whole add_sub_imm = tt
all_whole add_sub_shifted = tt
all_whole logical_shifted = tt
all_whole logical_imm = tt
all_whole bitfield = tt
all_whole one_source = tt
all_whole two_source = tt
all_whole three_source = tt
all_whole cond_select = tt
all_whole memory_imm = tt
all_whole memory_reg = tt
all_whole memory_pair = tt
all_whole compare_branch = tt
all_whole test_branch = tt
all_whole cond_branch = tt
all_whole branch = tt
all_whole branch_reg = tt
all_whole adr = tt
all_whole load_literal = tt
all_whole nop = tt
all_whole float_two = tt
all_whole float_compare = tt
all_whole float_convert = tt

pub encode_lt : (i : Instr) → Carried i → encode i < 2 ^ 32
encode_lt i h =
    let c : Class = class i in
    let s : Bool = sound (format c) in
    let t : Bool = eqb (total (format c)) 32 in
    subst (λ n. encode i < 2 ^ n) (eqb→eq (total (format c)) 32 (both_right s t (all_whole c))) (pack_lt (format c) (operands i) (both_left s t (all_whole c)) h.0)

pub decode_lt : (w : ℕ) (i : Instr) → decode w ≡ valid i → w < 2 ^ 32
decode_lt w i e = subst (λ v. v < 2 ^ 32) (decode-sound w i e).word (encode_lt i (decode-sound w i e).carries)

pub instruction_ok : (w : ℕ) (i : Instr) → decode w ≡ valid i → has_encoder i ≡ true → instruction w ≡ some i
unfolding instruction
instruction_ok w i e q = ap encoded e ∙ rw q

-- ---- a step
pub step_ok : (h : Helpers) (s : State) (ws : List ℕ) (k : ℕ) (i : Instr) → bytes_of s.mem code ≡ bytes_of_words ws → s.pc ≡ base_of s.mem code + 4 * k → k < length ws
    → decode (get_or ws k 0) ≡ valid i → has_encoder i ≡ true → step h s ≡ outcome s (execute h i s)
unfolding step
step_ok h s ws k i e p l d q =
    ap (λ o. outcome s (fetched h o s)) (fetch_ok s.mem ws k e p l ∙ ap some (mod-eq_of_lt (decode_lt (get_or ws k 0) i d)))
    ∙ ap (λ o. outcome s (decoded h o s)) (instruction_ok (get_or ws k 0) i d q)

-- ---- runs
pub run_next : (n : ℕ) (h : Helpers) (s s' : State) → step h s ≡ record { status = running; state = s' } → run (suc n) h s ≡ run n h s'
unfolding run
run_next n h s s' e = ap (λ (r : Run). following r.status r (run n h)) e

-- a run of n steps, and then of m
abbrev pub onward : Helpers → ℕ → Run → Run
onward h m r = following r.status r (run m h)

onward-following : (h : Helpers) (n m : ℕ) (t : Status) (s : State) → ((s' : State) → run (n + m) h s' ≡ onward h m (run n h s'))
    → following t (record { status = t; state = s }) (run (n + m) h) ≡ onward h m (following t (record { status = t; state = s }) (run n h))
onward-following h n m running s f = f s
onward-following h n m at_return s f = refl
onward-following h n m at_jump s f = refl
onward-following h n m (fault k) s f = refl

pub run-add : (n m : ℕ) (h : Helpers) (s : State) → run (n + m) h s ≡ onward h m (run n h s)
unfolding run
run-add zero m h s = let e : 0 + m ≡ m = omega arith in ap (λ k. run k h s) e
run-add (suc n) m h s =
    let e : suc n + m ≡ suc (n + m) = omega arith in
    ap (λ k. run k h s) e ∙ onward-following h n m (step h s).status (step h s).state (run-add n m h)

-- a run that left stays as it is
pub run_more : (n m : ℕ) (h : Helpers) (s : State) {r : Run} → run n h s ≡ r → (r.status ≡ running → ⊥) → run (n + m) h s ≡ r
run_more n m h s {r} e f = run-add n m h s ∙ ap (onward h m) e ∙ stays r.status r f
  where
    stays : (t : Status) (r : Run) → (t ≡ running → ⊥) → following t r (run m h) ≡ r
    stays running r f = absurd (f refl)
    stays at_return r f = refl
    stays at_jump r f = refl
    stays (fault k) r f = refl

-- ---- a literal
pub exec-literal_ok : (h : Helpers) (s : State) (ws : List ℕ) (k imm rt : ℕ) → code < length s.mem → bytes_of s.mem code ≡ bytes_of_words ws
    → base_of s.mem code + 4 * length ws ≤ 2 ^ 64 → s.pc ≡ base_of s.mem code + 4 * k → imm < 2 ^ 18 → k + imm + 1 < length ws
    → execute h (LoadLiteral imm rt) s ≡ done (with_x rt (get_or ws (k + imm) 0 % 2 ^ 32 + 2 ^ 32 * (get_or ws (suc (k + imm)) 0 % 2 ^ 32)) s)
exec-literal_ok h s ws k imm rt c e b p l f =
    let n : size_of s.mem code ≡ 4 * length ws = ap length e ∙ length-bytes ws in
    let a : (s.pc + imm * 4) % 2 ^ 64 ≡ base_of s.mem code + 4 * (k + imm) = mod-eq_of_lt (omega arith) ∙ omega arith in
    exec-literal h s imm rt
    ∙ ap (λ d. access loads 8 ((s.pc + d) % 2 ^ 64) rt s) (words_forward 19 imm (omega arith) l)
    ∙ ap (λ q. accessed q (λ v. done (with_x rt v s))) (load_code s.mem ((s.pc + imm * 4) % 2 ^ 64) (4 * (k + imm)) 8 c a (omega arith))
    ∙ ap (λ y. done (with_x rt (read_le y (4 * (k + imm)) 8) s)) e
    ∙ ap (λ v. done (with_x rt v s)) (read-literal ws (k + imm))
