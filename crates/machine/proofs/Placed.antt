-- An instruction that does not name a place by its distance does the same at every address, whatever the count.
--     at                 a state at an address, after so many instructions
--     placed             an effect so moved: on to the next word, one instruction more
--     execute_at         of the instructions that are not relative to the program counter, BLR apart
--     execute-call_at    of BLR to a helper
-- Assumes nothing.
use mathlib.Core.Path.{◌≡◌, refl, ap, ◌∙◌}
use mathlib.Core.Logic.{◌⊎◌, inl, inr}
use mathlib.Core.Bool.{Bool, true, false, cond}
use mathlib.Core.Option.{Option, none, some}
use mathlib.Core.List.{List, [], ◌∷◌}
use Prim.Native.Nat.{ℕ, ◌+◌, ◌*◌, ◌%◌, ◌^◌}
use borrow.Author.Tests.{eqb-false}
use lib.Dec.{T, eqb}
use Rattle.machine.specs.Isa.{W, X, Flags, Keeps, Sets, Mode, Post, Offset, Pre, Pair, Stp, Ldp, Br, Blr, Ret}
use Rattle.machine.specs.Isa.{Instr, MoveWide, AddSubImm, AddSubShifted, LogicalShifted, LogicalImm, Bitfield, OneSource, TwoSource, ThreeSource, CondSelect, MemoryImm, MemoryReg, MemoryPair, CompareBranch, TestBranch, CondBranch, Branch, BranchReg, Adr, LoadLiteral, Nop, FloatTwo, FloatCompare, FloatConvert}
use Rattle.machine.specs.Bits.{SignExtend, Nzcv, Sum}
use Rattle.machine.specs.State.{State, Request, read, write, guard, Outcome, R, RSP, with_x, with_sp, with_mem, with_xsp}
use Rattle.machine.specs.Memory.{load, store}
use Rattle.machine.specs.Execute.{Helpers, Effect, next, returned, jumped, refused, done, accessed, add_sub, flags_if, destination, shifted, second, logic, logic_flags, test_flags, bit_mask, Direction, stores, loads, loads_signed, direction, access_bytes, access, scale_by, pair_address, writeback, pair, ask, call, execute}

abbrev pub at : (pc count : ℕ) → State → State
at p n s = record { x = s.x; sp = s.sp; nzcv = s.nzcv; pc = p; mem = s.mem; outcomes = s.outcomes; requests = s.requests; count = n }

abbrev pub placed : (pc count : ℕ) → Effect → Effect
placed p n (next s) = next (at ((p + 4) % 2 ^ 64) (n + 1) s)
placed p n (returned s) = returned (at s.pc (n + 1) s)
placed p n (jumped s) = jumped (at s.pc (n + 1) s)
placed p n (refused k) = refused k

-- not relative to the program counter, and no call
abbrev pub unplaced : Instr → Bool
unplaced (MoveWide z m hw imm rd) = true
unplaced (AddSubImm z o f imm rn rd) = true
unplaced (AddSubShifted z o f k rm n rn rd) = true
unplaced (LogicalShifted z o v k rm n rn rd) = true
unplaced (LogicalImm o immr imms rn rd) = true
unplaced (Bitfield z o immr imms rn rd) = true
unplaced (OneSource o rn rd) = true
unplaced (TwoSource z o rm rn rd) = true
unplaced (ThreeSource o rm ra rn rd) = true
unplaced (CondSelect z o rm k rn rd) = true
unplaced (MemoryImm a imm rn rt) = true
unplaced (MemoryReg a c rm rn rt) = true
unplaced (MemoryPair m p imm rt2 rn rt) = true
unplaced (CompareBranch z t imm rt) = false
unplaced (TestBranch t n imm rt) = false
unplaced (CondBranch imm k) = false
unplaced (Branch imm) = false
unplaced (BranchReg Br rn) = true
unplaced (BranchReg Blr rn) = false
unplaced (BranchReg Ret rn) = true
unplaced (Adr imm rd) = false
unplaced (LoadLiteral imm rt) = false
unplaced Nop = true
unplaced (FloatTwo o rm rn rd) = true
unplaced (FloatCompare rm rn) = true
unplaced (FloatConvert o rn rd) = true

module _ (p n : ℕ) where
  -- ---- parts of a state
  xsp_at : (k v : ℕ) (s : State) → with_xsp k v (at p n s) ≡ at p n (with_xsp k v s)
  xsp_at k v s = go (eqb k 31)
    where
      go : (b : Bool) → cond b (with_sp v (at p n s)) (with_x k v (at p n s)) ≡ at p n (cond b (with_sp v s) (with_x k v s))
      go true = refl
      go false = refl

  flags_at : (f : Flags) (g : Nzcv) (s : State) → flags_if f g (at p n s) ≡ at p n (flags_if f g s)
  flags_at Keeps g s = refl
  flags_at Sets g s = refl

  destination_at : (f : Flags) (k v : ℕ) (s : State) → destination f k v (at p n s) ≡ at p n (destination f k v s)
  destination_at Keeps k v s = xsp_at k v s
  destination_at Sets k v s = refl

  writeback_at : (m : Mode) (k v : ℕ) (s : State) → writeback m k v (at p n s) ≡ at p n (writeback m k v s)
  writeback_at Post k v s = xsp_at k v s
  writeback_at Offset k v s = refl
  writeback_at Pre k v s = xsp_at k v s

  -- ---- effects
  accessed_at {ℓ} : {A : Type ℓ} (q : Option A) (f g : A → Effect) → ((a : A) → f a ≡ placed p n (g a)) → accessed q f ≡ placed p n (accessed q g)
  accessed_at none f g e = refl
  accessed_at (some a) f g e = e a

  access_at : (d : Direction) (k a rt : ℕ) (s : State) → access d k a rt (at p n s) ≡ placed p n (access d k a rt s)
  access_at stores k a rt s = accessed_at (store s.mem a k (R X s rt)) (λ m. done (with_mem m (at p n s))) (λ m. done (with_mem m s)) (λ m. refl)
  access_at loads k a rt s = accessed_at (load s.mem a k) (λ v. done (with_x rt v (at p n s))) (λ v. done (with_x rt v s)) (λ v. refl)
  access_at loads_signed k a rt s =
      accessed_at (load s.mem a k) (λ v. done (with_x rt (SignExtend (8 * k) 32 v) (at p n s))) (λ v. done (with_x rt (SignExtend (8 * k) 32 v) s)) (λ v. refl)

  pair_at : (q : Pair) (a rt rt2 : ℕ) (m : Mode) (k v : ℕ) (s : State) → pair q a rt rt2 (writeback m k v) (at p n s) ≡ placed p n (pair q a rt rt2 (writeback m k v) s)
  pair_at Stp a rt rt2 m k v s =
      accessed_at (store s.mem a 8 (R X s rt)) _ _
      (λ u. accessed_at (store u ((a + 8) % 2 ^ 64) 8 (R X s rt2)) _ _ (λ w. ap done (writeback_at m k v (with_mem w s))))
  pair_at Ldp a rt rt2 m k v s =
      accessed_at (load s.mem a 8) _ _
      (λ x. accessed_at (load s.mem ((a + 8) % 2 ^ 64) 8) _ _ (λ y. ap done (writeback_at m k v (with_x rt2 y (with_x rt x s)))))

  ask_at : (q : Request) (os : List Outcome) (s : State) → ask q os (at p n s) ≡ placed p n (ask q os s)
  ask_at q [] s = refl
  ask_at q (o ∷ os) s = refl

  -- ---- instructions
  pub execute_at : (h : Helpers) (i : Instr) (s : State) → T (unplaced i) → execute h i (at p n s) ≡ placed p n (execute h i s)
  unfolding execute
  execute_at h (MoveWide z m hw imm rd) s t = refl
  execute_at h (AddSubImm z o f imm rn rd) s t =
      let r : Sum = add_sub z o (RSP z s rn) imm in
      ap (λ u. done (destination f rd r.result u)) (flags_at f r.nzcv s) ∙ ap done (destination_at f rd r.result (flags_if f r.nzcv s))
  execute_at h (AddSubShifted z o f k rm m rn rd) s t =
      let r : Sum = add_sub z o (R z s rn) (shifted z k (R z s rm) m) in ap (λ u. done (with_x rd r.result u)) (flags_at f r.nzcv s)
  execute_at h (LogicalShifted z o v k rm m rn rd) s t =
      let r : ℕ = logic o (R z s rn) (second z v (shifted z k (R z s rm) m)) in ap (λ u. done (with_x rd r u)) (flags_at (logic_flags o) (test_flags z r) s)
  execute_at h (LogicalImm o immr imms rn rd) s t =
      let r : ℕ = logic o (R W s rn) (bit_mask immr imms) in
      ap (λ u. done (destination (logic_flags o) rd r u)) (flags_at (logic_flags o) (test_flags W r) s) ∙ ap done (destination_at (logic_flags o) rd r (flags_if (logic_flags o) (test_flags W r) s))
  execute_at h (Bitfield z o immr imms rn rd) s t = refl
  execute_at h (OneSource o rn rd) s t = refl
  execute_at h (TwoSource z o rm rn rd) s t = refl
  execute_at h (ThreeSource o rm ra rn rd) s t = refl
  execute_at h (CondSelect z o rm k rn rd) s t = refl
  execute_at h (MemoryImm a imm rn rt) s t = access_at (direction a) (access_bytes a) ((RSP X s rn + imm * access_bytes a) % 2 ^ 64) rt s
  execute_at h (MemoryReg a c rm rn rt) s t = access_at (direction a) (access_bytes a) ((RSP X s rn + R W s rm * scale_by c (access_bytes a)) % 2 ^ 64) rt s
  execute_at h (MemoryPair m q imm rt2 rn rt) s t =
      let d : ℕ = (RSP X s rn + SignExtend 10 64 (imm * 8)) % 2 ^ 64 in pair_at q (pair_address m (RSP X s rn) d) rt rt2 m rn d s
  execute_at h (CompareBranch z q imm rt) s t = absurd t
  execute_at h (TestBranch q k imm rt) s t = absurd t
  execute_at h (CondBranch imm k) s t = absurd t
  execute_at h (Branch imm) s t = absurd t
  execute_at h (BranchReg Br rn) s t = refl
  execute_at h (BranchReg Blr rn) s t = absurd t
  execute_at h (BranchReg Ret rn) s t = refl
  execute_at h (Adr imm rd) s t = absurd t
  execute_at h (LoadLiteral imm rt) s t = absurd t
  execute_at h Nop s t = refl
  execute_at h (FloatTwo o rm rn rd) s t = refl
  execute_at h (FloatCompare rm rn) s t = refl
  execute_at h (FloatConvert o rn rd) s t = refl

  -- a helper's address
  abbrev pub AHelper : Helpers → ℕ → Type 0
  AHelper h a = (a ≡ h.h-read) ⊎ ((a ≡ h.h-write) ⊎ (a ≡ h.h-ram-ok))

  call_at : (h : Helpers) (a : ℕ) (s : State) (b c d : Bool) → eqb a h.h-read ≡ b → eqb a h.h-write ≡ c → eqb a h.h-ram-ok ≡ d → AHelper h a → call h a (at p n s) ≡ placed p n (call h a s)
  call_at h a s true c d e f g w = rw e (ask_at (read (R W s 1) (R W s 3) (R W s 2)) s.outcomes s)
  call_at h a s false true d e f g w = rw (e, f) (ask_at (write (R W s 1) (R W s 4) (R W s 3) (R W s 2)) s.outcomes s)
  call_at h a s false false true e f g w = rw (e, f, g) (ask_at (guard (R X s 1)) s.outcomes s)
  call_at h a s false false false e f g (inl w) = absurd (eqb-false a h.h-read e w)
  call_at h a s false false false e f g (inr (inl w)) = absurd (eqb-false a h.h-write f w)
  call_at h a s false false false e f g (inr (inr w)) = absurd (eqb-false a h.h-ram-ok g w)

  pub execute-call_at : (h : Helpers) (rn : ℕ) (s : State) → AHelper h (R X s rn) → execute h (BranchReg Blr rn) (at p n s) ≡ placed p n (execute h (BranchReg Blr rn) s)
  unfolding execute
  execute-call_at h rn s w = call_at h (R X s rn) s (eqb (R X s rn) h.h-read) (eqb (R X s rn) h.h-write) (eqb (R X s rn) h.h-ram-ok) refl refl refl w
