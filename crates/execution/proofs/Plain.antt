-- An instruction of a line, as the machine over words executes it: at any address, whatever the count.
--     exec_next      where it goes on, the machine goes on at the next word, one instruction more
--     exec-stop      where it ends the run, the machine leaves in the same way
-- Assumes nothing.
use mathlib.Core.Path.{◌≡◌, refl, sym, ◌∙◌, subst}
use mathlib.Core.Logic.{inl, inr}
use mathlib.Core.Bool.{Bool, true, false}
use Prim.Native.Nat.{ℕ, ◌+◌, ◌%◌, ◌^◌}
use native.Mathlib.Omega.{arith}
use borrow.Author.Tests.{eqb-true}
use lib.Dec.{T, eqb}
use Rattle.arm.specs.declared.Size.TheVariants.{X}
use Rattle.arm.specs.declared.Jump.TheVariants.{Br, Blr, Ret}
use Rattle.arm.specs.declared.Instr.{Instr}
use Rattle.arm.specs.declared.Instr.TheVariants.{MoveWide, AddSubImm, AddSubShifted, LogicalShifted, LogicalImm, Bitfield, OneSource, TwoSource, ThreeSource, CondSelect, MemoryImm, MemoryReg, MemoryPair, CompareBranch, TestBranch, CondBranch, Branch, BranchReg, Adr, LoadLiteral, Nop, FloatTwo, FloatCompare, FloatConvert}
use Rattle.code.specs.Machine.{fall, stop}
use Rattle.machine.specs.State.{State, R}
use Rattle.machine.specs.Execute.{Helpers, Effect, next, returned, jumped, refused, execute}
use Rattle.machine.proofs.Keeps.{KeptMem, KeptBy, execute-keeps}
use Rattle.machine.proofs.Placed.{placed, unplaced, execute_at, execute-call_at}
use Rattle.relation.specs.Lines.{Stop, returns, jumps, fails, bare, at, of_effect, in_context, exec}

-- a line's instruction either fails, or is the machine's
pub data Runs (h : Helpers) (a n : ℕ) (i : Instr) (s : State) : Type 0 where
  failing : exec h i s ≡ stop fails → Runs h a n i s
  executing : exec h i s ≡ of_effect (execute h i s) → execute h i (at a n s) ≡ placed a n (execute h i s) → Runs h a n i s

module _ (h : Helpers) (a n : ℕ) where
  plainly : (i : Instr) (s : State) → T (unplaced i) → exec h i s ≡ of_effect (execute h i s) → Runs h a n i s
  plainly i s t e = executing e (execute_at a n h i s t)

  calling : (rn : ℕ) (s : State) (b c k d : Bool) → eqb (R X s rn) h.h-read ≡ b → eqb (R X s rn) h.h-write ≡ c → eqb (R X s rn) h.h-ram-ok ≡ k → in_context s ≡ d → Runs h a n (BranchReg Blr rn) s
  unfolding exec
  calling rn s true c k true e f j g = executing (rw (e, g)) (execute-call_at a n h rn s (inl (eqb-true (R X s rn) h.h-read e)))
  calling rn s true c k false e f j g = failing (rw (e, g))
  calling rn s false true k true e f j g = executing (rw (e, f, g)) (execute-call_at a n h rn s (inr (inl (eqb-true (R X s rn) h.h-write f))))
  calling rn s false true k false e f j g = failing (rw (e, f, g))
  calling rn s false false true true e f j g = executing (rw (e, f, j, g)) (execute-call_at a n h rn s (inr (inr (eqb-true (R X s rn) h.h-ram-ok j))))
  calling rn s false false true false e f j g = failing (rw (e, f, j, g))
  calling rn s false false false d e f j g = failing (rw (e, f, j))

  runs : (i : Instr) (s : State) → Runs h a n i s
  unfolding exec
  runs (MoveWide z m hw imm rd) s = plainly (MoveWide z m hw imm rd) s tt refl
  runs (AddSubImm z o f imm rn rd) s = plainly (AddSubImm z o f imm rn rd) s tt refl
  runs (AddSubShifted z o f k rm m rn rd) s = plainly (AddSubShifted z o f k rm m rn rd) s tt refl
  runs (LogicalShifted z o v k rm m rn rd) s = plainly (LogicalShifted z o v k rm m rn rd) s tt refl
  runs (LogicalImm o immr imms rn rd) s = plainly (LogicalImm o immr imms rn rd) s tt refl
  runs (Bitfield z o immr imms rn rd) s = plainly (Bitfield z o immr imms rn rd) s tt refl
  runs (OneSource o rn rd) s = plainly (OneSource o rn rd) s tt refl
  runs (TwoSource z o rm rn rd) s = plainly (TwoSource z o rm rn rd) s tt refl
  runs (ThreeSource o rm ra rn rd) s = plainly (ThreeSource o rm ra rn rd) s tt refl
  runs (CondSelect z o rm k rn rd) s = plainly (CondSelect z o rm k rn rd) s tt refl
  runs (MemoryImm m imm rn rt) s = plainly (MemoryImm m imm rn rt) s tt refl
  runs (MemoryReg m c rm rn rt) s = plainly (MemoryReg m c rm rn rt) s tt refl
  runs (MemoryPair m p imm rt2 rn rt) s = plainly (MemoryPair m p imm rt2 rn rt) s tt refl
  runs (CompareBranch z t imm rt) s = failing refl
  runs (TestBranch t k imm rt) s = failing refl
  runs (CondBranch imm k) s = failing refl
  runs (Branch imm) s = failing refl
  runs (BranchReg Br rn) s = plainly (BranchReg Br rn) s tt refl
  runs (BranchReg Blr rn) s = calling rn s (eqb (R X s rn) h.h-read) (eqb (R X s rn) h.h-write) (eqb (R X s rn) h.h-ram-ok) (in_context s) refl refl refl refl
  runs (BranchReg Ret rn) s = plainly (BranchReg Ret rn) s tt refl
  runs (Adr imm rd) s = failing refl
  runs (LoadLiteral imm rt) s = failing refl
  runs Nop s = plainly Nop s tt refl
  runs (FloatTwo o rm rn rd) s = failing refl
  runs (FloatCompare rm rn) s = failing refl
  runs (FloatConvert o rn rd) s = failing refl

  -- ---- it goes on
  pub record Goes (i : Instr) (s s₁ : State) : Type 0 where
    pub does : execute h i (at a n s) ≡ next (at ((a + 4) % 2 ^ 64) (n + 1) s₁)
    pub memory : KeptMem s.mem s₁.mem

  of_next : (i : Instr) (s s₁ : State) (e : Effect) → execute h i (at a n s) ≡ placed a n e → KeptBy s e → of_effect e ≡ fall s₁ → Goes i s s₁
  of_next i s s₁ (next t) p k q = let y : bare t ≡ s₁ = cc in subst (Goes i s) y (record { does = p; memory = k.memory })
  of_next i s s₁ (returned t) p k q = absurd (let y : ◌≡◌ {A = ℕ} 0 1 = cc in omega arith)
  of_next i s s₁ (jumped t) p k q = absurd (let y : ◌≡◌ {A = ℕ} 0 1 = cc in omega arith)
  of_next i s s₁ (refused m) p k q = absurd (let y : ◌≡◌ {A = ℕ} 0 1 = cc in omega arith)

  pub exec_next : (i : Instr) (s s₁ : State) → exec h i s ≡ fall s₁ → Goes i s s₁
  exec_next i s s₁ q = go (runs i s)
    where
      go : Runs h a n i s → Goes i s s₁
      go (failing e) = absurd (let y : ◌≡◌ {A = ℕ} 0 1 = cc in omega arith)
      go (executing e p) = of_next i s s₁ (execute h i s) p (execute-keeps h i s) (sym e ∙ q)

  -- ---- it ends the run
  abbrev pub Lands : Effect → Stop → Type 0
  Lands e (returns to t) = e ≡ returned (at to (n + 1) t)
  Lands e (jumps to t) = e ≡ jumped (at to (n + 1) t)
  Lands e fails = Unit {0}

  of_stop : (f e : Effect) (r : Stop) → f ≡ placed a n e → of_effect e ≡ stop r → Lands f r
  of_stop f (next t) r p q = absurd (let y : ◌≡◌ {A = ℕ} 0 1 = cc in omega arith)
  of_stop f (returned t) r p q = let y : returns t.pc (bare t) ≡ r = cc in subst (Lands f) y p
  of_stop f (jumped t) r p q = let y : jumps t.pc (bare t) ≡ r = cc in subst (Lands f) y p
  of_stop f (refused m) r p q = let y : fails ≡ r = cc in subst (Lands f) y tt

  pub exec-stop : (i : Instr) (s : State) (r : Stop) → exec h i s ≡ stop r → Lands (execute h i (at a n s)) r
  exec-stop i s r q = go (runs i s)
    where
      go : Runs h a n i s → Lands (execute h i (at a n s)) r
      go (failing e) = let y : fails ≡ r = cc in subst (Lands (execute h i (at a n s))) y tt
      go (executing e p) = of_stop (execute h i (at a n s)) (execute h i s) r p (sym e ∙ q)
