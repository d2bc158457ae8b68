-- What every instruction leaves as it is: the number of registers, the regions' number and bases, the bytes of code and flash. Each counts as one.
--     execute-keeps      of each instruction
--     step_keeps         of each step that is not refused
--     run-count          a run of at most n steps executes at most n instructions
-- Assumes nothing.
use mathlib.Core.Path.{◌≡◌, refl, sym, ap, ◌∙◌, subst}
use mathlib.Core.Logic.{◌≢◌}
use mathlib.Core.Bool.{Bool, true, false, cond, not, ◌&&◌}
use mathlib.Core.Option.{Option, none, some}
use mathlib.Core.List.{List, [], ◌∷◌}
use Prim.Native.Nat.{ℕ, zero, suc, ◌+◌, ◌*◌, ◌%◌, ◌^◌, ◌≤◌, ◌<◌}
use native.Mathlib.Omega.{arith}
use borrow.Author.Tests.{eqb-false}
use lib.Dec.{eqb}
use lib.ListN.{length, length-set}
use Rattle.machine.specs.Isa.{W, X, Flags, Keeps, Sets, Mode, Post, Offset, Pre, Pair, Stp, Ldp, Jump, Br, Blr, Ret}
use Rattle.machine.specs.Isa.{Instr, MoveWide, AddSubImm, AddSubShifted, LogicalShifted, LogicalImm, Bitfield, OneSource, TwoSource, ThreeSource, CondSelect, MemoryImm, MemoryReg, MemoryPair, CompareBranch, TestBranch, CondBranch, Branch, BranchReg, Adr, LoadLiteral, Nop, FloatTwo, FloatCompare, FloatConvert}
use Rattle.machine.specs.Bits.{SignExtend, Nzcv, Sum}
use Rattle.machine.specs.State.{Region, State, Request, read, write, guard, Outcome, code, context, ram, xip, map, guards, R, RSP, with_x, with_sp, with_mem, with_xsp, goto}
use Rattle.machine.specs.Memory.{write_le, Place, bytes_of, base_of, with_bytes, load, stored, store, locate}
use Rattle.machine.specs.Execute.{Helpers, Effect, next, returned, jumped, refused, done, accessed, add_sub, flags_if, destination, shifted, second, logic, logic_flags, test_flags, bit_mask, Direction, stores, loads, loads_signed, direction, access_bytes, access, scale_by, pair_address, writeback, pair, words, with_version, versioned, told, called, ask, jump, execute}
use Rattle.machine.specs.Machine.{Status, running, at_return, at_jump, fault, Run, fetch, instruction, outcome, decoded, fetched, step, following, run}
use Rattle.machine.proofs.Registers.{length-called}
use Rattle.machine.proofs.Regions.{length_with, base_with, bytes_other}

-- ---- memory
pub record KeptMem (m m' : List Region) : Type 0 where
  pub regions : length m' ≡ length m
  pub base : (k : ℕ) → base_of m' k ≡ base_of m k
  pub code_is : bytes_of m' code ≡ bytes_of m code
  pub flash_is : bytes_of m' xip ≡ bytes_of m xip

mem_refl : (m : List Region) → KeptMem m m
mem_refl m = record { regions = refl; base = λ k. refl; code_is = refl; flash_is = refl }

mem_trans : {m m' m'' : List Region} → KeptMem m m' → KeptMem m' m'' → KeptMem m m''
mem_trans p q = record { regions = q.regions ∙ p.regions; base = λ k. q.base k ∙ p.base k; code_is = q.code_is ∙ p.code_is; flash_is = q.flash_is ∙ p.flash_is }

mem_with : (k : ℕ) (l : List ℕ) (m : List Region) → k ≢ code → k ≢ xip → KeptMem m (with_bytes k l m)
mem_with k l m c x =
    record { regions = length_with k l m; base = base_with k l m; code_is = bytes_other k l m code (λ e. c (sym e)); flash_is = bytes_other k l m xip (λ e. x (sym e)) }

mem_written : (m : List Region) (k : ℕ) (l : List ℕ) (m' : List Region) (c x : Bool) → eqb k code ≡ c → eqb k xip ≡ x → cond (not c && not x) (some (with_bytes k l m)) none ≡ some m' → KeptMem m m'
mem_written m k l m' true x p q e = absurd (let y : ◌≡◌ {A = ℕ} 0 1 = cc in omega arith)
mem_written m k l m' false true p q e = absurd (let y : ◌≡◌ {A = ℕ} 0 1 = cc in omega arith)
mem_written m k l m' false false p q e = let y : with_bytes k l m ≡ m' = cc in subst (KeptMem m) y (mem_with k l m (eqb-false k code p) (eqb-false k xip q))

mem-stored : (m : List Region) (n v : ℕ) (p : Option Place) (m' : List Region) → stored m n v p ≡ some m' → KeptMem m m'
mem-stored m n v none m' e = absurd (let y : ◌≡◌ {A = ℕ} 0 1 = cc in omega arith)
mem-stored m n v (some p) m' e =
    mem_written m p.region (write_le (bytes_of m p.region) p.at n v) m' (eqb p.region code) (eqb p.region xip) refl refl e

pub store_keeps : (m : List Region) (a n v : ℕ) (m' : List Region) → store m a n v ≡ some m' → KeptMem m m'
unfolding store
store_keeps m a n v m' e = mem-stored m n v (locate 0 m a n) m' e

-- ---- states
-- before the program counter moves
record Same (s t : State) : Type 0 where
  registers : length t.x ≡ length s.x
  count : t.count ≡ s.count
  memory : KeptMem s.mem t.mem

pub record Kept (s t : State) : Type 0 where
  pub registers : length t.x ≡ length s.x
  pub count : t.count ≡ s.count + 1
  pub memory : KeptMem s.mem t.mem

abbrev pub KeptBy : State → Effect → Type 0
KeptBy s (next t) = Kept s t
KeptBy s (returned t) = Kept s t
KeptBy s (jumped t) = Kept s t
KeptBy s (refused k) = Unit {0}

same_refl : (s : State) → Same s s
same_refl s = record { registers = refl; count = refl; memory = mem_refl s.mem }

same_trans : {s t u : State} → Same s t → Same t u → Same s u
same_trans p q = record { registers = q.registers ∙ p.registers; count = q.count ∙ p.count; memory = mem_trans p.memory q.memory }

same_x : (n v : ℕ) (s : State) → Same s (with_x n v s)
same_x n v s = record { registers = length-set s.x n v; count = refl; memory = mem_refl s.mem }

same_sp : (v : ℕ) (s : State) → Same s (with_sp v s)
same_sp v s = record { registers = refl; count = refl; memory = mem_refl s.mem }

same_xsp : (n v : ℕ) (s : State) → Same s (with_xsp n v s)
same_xsp n v s = go (eqb n 31)
  where
    go : (b : Bool) → Same s (cond b (with_sp v s) (with_x n v s))
    go true = same_sp v s
    go false = same_x n v s

same_flags : (f : Flags) (g : Nzcv) (s : State) → Same s (flags_if f g s)
same_flags Keeps g s = same_refl s
same_flags Sets g s = record { registers = refl; count = refl; memory = mem_refl s.mem }

same_destination : (f : Flags) (n v : ℕ) (s : State) → Same s (destination f n v s)
same_destination Keeps n v s = same_xsp n v s
same_destination Sets n v s = same_x n v s

same_mem : (m : List Region) (s : State) → KeptMem s.mem m → Same s (with_mem m s)
same_mem m s k = record { registers = refl; count = refl; memory = k }

same_writeback : (m : Mode) (n v : ℕ) (s : State) → Same s (writeback m n v s)
same_writeback Post n v s = same_xsp n v s
same_writeback Offset n v s = same_refl s
same_writeback Pre n v s = same_xsp n v s

mem-versioned : (i : ℕ) (vs : List ℕ) (m : List Region) → xip < i → KeptMem m (versioned i vs m)
mem-versioned i [] m l = mem_refl m
mem-versioned i (v ∷ vs) m l = mem_trans (mem_with i (with_version v (bytes_of m i)) m (omega arith) (omega arith)) (mem-versioned (suc i) vs (with_bytes i (with_version v (bytes_of m i)) m) (omega arith))

same_called : (q : Request) (o : Outcome) (os : List Outcome) (s : State) → Same s (called q o os s)
same_called q o os s =
    record {
      registers = length-called q o os s;
      count = refl;
      memory = mem_trans (mem_with context (told o (bytes_of s.mem context)) s.mem (omega arith) (omega arith))
          (mem_trans (mem_with ram o.ram _ (omega arith) (omega arith)) (mem_trans (mem_with map o.map _ (omega arith) (omega arith)) (mem-versioned guards o.guards _ (omega arith))));
    }

keeps-goto : {s t : State} (a : ℕ) → Same s t → Kept s (goto a t)
keeps-goto a p = record { registers = p.registers; count = ap (λ n. n + 1) p.count; memory = p.memory }

-- ---- effects
keeps-cond : (s : State) (b : Bool) (e f : Effect) → KeptBy s e → KeptBy s f → KeptBy s (cond b e f)
keeps-cond s true e f p q = p
keeps-cond s false e f p q = q

keeps-load : (s : State) (q : Option ℕ) (f : ℕ → Effect) → ((v : ℕ) → KeptBy s (f v)) → KeptBy s (accessed q f)
keeps-load s none f k = tt
keeps-load s (some v) f k = k v

keeps-store : (s : State) (m : List Region) (a n v : ℕ) (f : List Region → Effect) → ((m' : List Region) → KeptMem m m' → KeptBy s (f m')) → KeptBy s (accessed (store m a n v) f)
keeps-store s m a n v f k = go (store m a n v) refl
  where
    go : (q : Option (List Region)) → store m a n v ≡ q → KeptBy s (accessed q f)
    go none e = tt
    go (some m') e = k m' (store_keeps m a n v m' e)

keeps-access : (d : Direction) (n a rt : ℕ) (s : State) → KeptBy s (access d n a rt s)
keeps-access stores n a rt s = keeps-store s s.mem a n (R X s rt) (λ m. done (with_mem m s)) (λ m k. keeps-goto (s.pc + 4) (same_mem m s k))
keeps-access loads n a rt s = keeps-load s (load s.mem a n) (λ v. done (with_x rt v s)) (λ v. keeps-goto (s.pc + 4) (same_x rt v s))
keeps-access loads_signed n a rt s =
    keeps-load s (load s.mem a n) (λ v. done (with_x rt (SignExtend (8 * n) 32 v) s)) (λ v. keeps-goto (s.pc + 4) (same_x rt (SignExtend (8 * n) 32 v) s))

done_keeps : (s t : State) → Same s t → KeptBy s (done t)
done_keeps s t p = keeps-goto (t.pc + 4) p

keeps-pair : (p : Pair) (a rt rt2 : ℕ) (m : Mode) (n v : ℕ) (s : State) → KeptBy s (pair p a rt rt2 (writeback m n v) s)
keeps-pair Stp a rt rt2 m n v s =
    keeps-store s s.mem a 8 (R X s rt) _
    (λ u k. keeps-store s u ((a + 8) % 2 ^ 64) 8 (R X s rt2) _ (λ w l. done_keeps s (writeback m n v (with_mem w s)) (same_trans (same_mem w s (mem_trans k l)) (same_writeback m n v (with_mem w s)))))
keeps-pair Ldp a rt rt2 m n v s =
    keeps-load s (load s.mem a 8) _
    (λ x. keeps-load s (load s.mem ((a + 8) % 2 ^ 64) 8) _
    (λ y. done_keeps s (writeback m n v (with_x rt2 y (with_x rt x s))) (same_trans (same_trans (same_x rt x s) (same_x rt2 y (with_x rt x s))) (same_writeback m n v (with_x rt2 y (with_x rt x s))))))

keeps-ask : (q : Request) (os : List Outcome) (s : State) → KeptBy s (ask q os s)
keeps-ask q [] s = tt
keeps-ask q (o ∷ os) s = done_keeps s (called q o os s) (same_called q o os s)

keeps-jump : (h : Helpers) (j : Jump) (a : ℕ) (s : State) → KeptBy s (jump h j a s)
keeps-jump h Br a s = keeps-goto a (same_refl s)
keeps-jump h Ret a s = keeps-goto a (same_refl s)
keeps-jump h Blr a s =
    keeps-cond s (eqb a h.h-read) _ _ (keeps-ask (read (R W s 1) (R W s 3) (R W s 2)) s.outcomes s)
    (keeps-cond s (eqb a h.h-write) _ _ (keeps-ask (write (R W s 1) (R W s 4) (R W s 3) (R W s 2)) s.outcomes s)
    (keeps-cond s (eqb a h.h-ram-ok) _ _ (keeps-ask (guard (R X s 1)) s.outcomes s) (keeps-goto a (same_x 30 ((s.pc + 4) % 2 ^ 64) s))))

keeps-set : (s : State) (f : Flags) (g : Nzcv) (rd v : ℕ) → KeptBy s (done (with_x rd v (flags_if f g s)))
keeps-set s f g rd v = done_keeps s (with_x rd v (flags_if f g s)) (same_trans (same_flags f g s) (same_x rd v (flags_if f g s)))

keeps-destination : (s : State) (f : Flags) (g : Nzcv) (rd v : ℕ) → KeptBy s (done (destination f rd v (flags_if f g s)))
keeps-destination s f g rd v = done_keeps s (destination f rd v (flags_if f g s)) (same_trans (same_flags f g s) (same_destination f rd v (flags_if f g s)))

-- ---- instructions
pub execute-keeps : (h : Helpers) (i : Instr) (s : State) → KeptBy s (execute h i s)
unfolding execute
execute-keeps h (MoveWide z m hw imm rd) s = done_keeps s _ (same_x rd _ s)
execute-keeps h (AddSubImm z o f imm rn rd) s = let r : Sum = add_sub z o (RSP z s rn) imm in keeps-destination s f r.nzcv rd r.result
execute-keeps h (AddSubShifted z o f k rm n rn rd) s = let r : Sum = add_sub z o (R z s rn) (shifted z k (R z s rm) n) in keeps-set s f r.nzcv rd r.result
execute-keeps h (LogicalShifted z o v k rm n rn rd) s =
    let r : ℕ = logic o (R z s rn) (second z v (shifted z k (R z s rm) n)) in keeps-set s (logic_flags o) (test_flags z r) rd r
execute-keeps h (LogicalImm o immr imms rn rd) s =
    let r : ℕ = logic o (R W s rn) (bit_mask immr imms) in keeps-destination s (logic_flags o) (test_flags W r) rd r
execute-keeps h (Bitfield z o immr imms rn rd) s = done_keeps s _ (same_x rd _ s)
execute-keeps h (OneSource o rn rd) s = done_keeps s _ (same_x rd _ s)
execute-keeps h (TwoSource z o rm rn rd) s = done_keeps s _ (same_x rd _ s)
execute-keeps h (ThreeSource o rm ra rn rd) s = done_keeps s _ (same_x rd _ s)
execute-keeps h (CondSelect z o rm k rn rd) s = done_keeps s _ (same_x rd _ s)
execute-keeps h (MemoryImm a imm rn rt) s = keeps-access (direction a) (access_bytes a) ((RSP X s rn + imm * access_bytes a) % 2 ^ 64) rt s
execute-keeps h (MemoryReg a c rm rn rt) s = keeps-access (direction a) (access_bytes a) ((RSP X s rn + R W s rm * scale_by c (access_bytes a)) % 2 ^ 64) rt s
execute-keeps h (MemoryPair m p imm rt2 rn rt) s =
    let d : ℕ = (RSP X s rn + SignExtend 10 64 (imm * 8)) % 2 ^ 64 in
    keeps-pair p (pair_address m (RSP X s rn) d) rt rt2 m rn d s
execute-keeps h (CompareBranch z t imm rt) s = keeps-goto _ (same_refl s)
execute-keeps h (TestBranch t n imm rt) s = keeps-goto _ (same_refl s)
execute-keeps h (CondBranch imm k) s = keeps-goto _ (same_refl s)
execute-keeps h (Branch imm) s = keeps-goto _ (same_refl s)
execute-keeps h (BranchReg j rn) s = keeps-jump h j (R X s rn) s
execute-keeps h (Adr imm rd) s = done_keeps s _ (same_x rd _ s)
execute-keeps h (LoadLiteral imm rt) s = keeps-access loads 8 ((s.pc + words 19 imm) % 2 ^ 64) rt s
execute-keeps h Nop s = done_keeps s s (same_refl s)
execute-keeps h (FloatTwo o rm rn rd) s = tt
execute-keeps h (FloatCompare rm rn) s = tt
execute-keeps h (FloatConvert o rn rd) s = tt

-- ---- steps
keeps-decoded : (h : Helpers) (o : Option Instr) (s : State) → KeptBy s (decoded h o s)
keeps-decoded h none s = tt
keeps-decoded h (some i) s = execute-keeps h i s

keeps-fetched : (h : Helpers) (o : Option ℕ) (s : State) → KeptBy s (fetched h o s)
keeps-fetched h none s = tt
keeps-fetched h (some w) s = keeps-decoded h (instruction w) s

-- a step that is refused leaves all as it is; any other keeps these
pub data StepKept (s : State) : Run → Type 0 where
  stepped : {t : Status} {u : State} → Kept s u → StepKept s (record { status = t; state = u })
  stopped : {k : ℕ} → StepKept s (record { status = fault k; state = s })

pub step_keeps : (h : Helpers) (s : State) → StepKept s (step h s)
unfolding step
step_keeps h s = go (fetched h (fetch s.mem s.pc) s) (keeps-fetched h (fetch s.mem s.pc) s)
  where
    go : (e : Effect) → KeptBy s e → StepKept s (outcome s e)
    go (next t) k = stepped k
    go (returned t) k = stepped k
    go (jumped t) k = stepped k
    go (refused n) k = stopped

count-le : {s : State} {r : Run} → StepKept s r → r.state.count ≤ s.count + 1
count-le (stepped k) = omega (arith, k.count)
count-le stopped = omega arith

-- at most one instruction a step
pub run-count : (n : ℕ) (h : Helpers) (s : State) → (run n h s).state.count ≤ s.count + n
unfolding run
run-count zero h s = omega arith
run-count (suc n) h s = go (step h s).status (count-le (step_keeps h s)) (run-count n h (step h s).state)
  where
    go : (t : Status) → (step h s).state.count ≤ s.count + 1 → (run n h (step h s).state).state.count ≤ (step h s).state.count + n → (following t (step h s) (run n h)).state.count ≤ s.count + suc n
    go running a b = omega arith
    go at_return a b = omega arith
    go at_jump a b = omega arith
    go (fault k) a b = omega arith
