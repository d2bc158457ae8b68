-- The A64 machine as what runs lines and structured code (crate code, Machine): it needs no program counter and keeps no count there.
use Rattle.std.specs.Prelude.{Bool, true, false, cond, not, ◌||◌, ℕ, ◌+◌, ◌*◌, ◌%◌, ◌^◌, eqb}
use Rattle.arm.specs.declared.Size.TheVariants.{X}
use Rattle.arm.specs.declared.Jump.{Jump}
use Rattle.arm.specs.declared.Jump.TheVariants.{Br, Blr, Ret}
use Rattle.arm.specs.declared.Instr.{Instr}
use Rattle.code.specs.Items.{Hole, b, b_cond, cb, tb, adr, ldr}
use Rattle.code.specs.Machine.{Eff, fall, stop, Machine}
use Rattle.machine.specs.Bits.{bit, IsZero, ConditionHolds}
use Rattle.machine.specs.State.{State, context, R, with_x}
use Rattle.machine.specs.Memory.{base_of}
use Rattle.machine.specs.Execute.{Helpers, Effect, next, returned, jumped, refused, execute, tested}

-- how a run ends: by the return or by a jump to an address, with the state then; or not as it should
pub data Stop : Type 0 where
  returns jumps : (to : ℕ) → State → Stop
  fails : Stop

-- a state whose program counter and count are left aside
abbrev pub bare : State → State
bare s = record { x = s.x; sp = s.sp; nzcv = s.nzcv; pc = 0; mem = s.mem; outcomes = s.outcomes; requests = s.requests; count = 0 }

-- the same at an address, after so many instructions
abbrev pub at : (pc count : ℕ) → State → State
at p n s = record { x = s.x; sp = s.sp; nzcv = s.nzcv; pc = p; mem = s.mem; outcomes = s.outcomes; requests = s.requests; count = n }

abbrev pub of_effect : Effect → Eff State Stop
of_effect (next s) = fall (bare s)
of_effect (returned s) = stop (returns s.pc (bare s))
of_effect (jumped s) = stop (jumps s.pc (bare s))
of_effect (refused k) = stop fails

-- a call is to a helper, any other would go on elsewhere; and register 0 is the context
abbrev pub helper : Helpers → ℕ → Bool
helper h a = eqb a h.h-read || (eqb a h.h-write || eqb a h.h-ram-ok)

abbrev pub in_context : State → Bool
in_context s = eqb (R X s 0) (base_of s.mem context)

abbrev pub called : Helpers → Jump → ℕ → Bool → Effect → Eff State Stop
called h Br a c f = of_effect f
called h Blr a c f = cond (helper h a) (cond c (of_effect f) (stop fails)) (stop fails)
called h Ret a c f = of_effect f

abbrev pub is_call : Helpers → Instr → State → Effect → Eff State Stop
is_call h i s f = elim i [
  | Instr.MoveWide z m hw imm rd ↦ of_effect f
  | Instr.AddSubImm z o k imm rn rd ↦ of_effect f
  | Instr.AddSubShifted z o k j rm n rn rd ↦ of_effect f
  | Instr.LogicalShifted z o v j rm n rn rd ↦ of_effect f
  | Instr.LogicalImm o immr imms rn rd ↦ of_effect f
  | Instr.Bitfield z o immr imms rn rd ↦ of_effect f
  | Instr.OneSource o rn rd ↦ of_effect f
  | Instr.TwoSource z o rm rn rd ↦ of_effect f
  | Instr.ThreeSource o rm ra rn rd ↦ of_effect f
  | Instr.CondSelect z o rm k rn rd ↦ of_effect f
  | Instr.MemoryImm a imm rn rt ↦ of_effect f
  | Instr.MemoryReg a c rm rn rt ↦ of_effect f
  | Instr.MemoryPair m p imm rt2 rn rt ↦ of_effect f
  | Instr.CompareBranch z t imm rt ↦ stop fails
  | Instr.TestBranch t n imm rt ↦ stop fails
  | Instr.CondBranch imm k ↦ stop fails
  | Instr.Branch imm ↦ stop fails
  | Instr.BranchReg j rn ↦ called h j (R X s rn) (in_context s) f
  | Instr.Adr imm rd ↦ stop fails
  | Instr.LoadLiteral imm rt ↦ stop fails
  | Instr.Nop ↦ of_effect f
  | Instr.FloatTwo o rm rn rd ↦ stop fails
  | Instr.FloatCompare rm rn ↦ stop fails
  | Instr.FloatConvert o rn rd ↦ stop fails
]

-- an instruction of a line that names no place: those that are relative to the program counter stand in lines of their own
unfoldable pub exec : Helpers → Instr → State → Eff State Stop
exec h i s = is_call h i s (execute h i s)

unfoldable pub taken : Hole → State → Bool
taken b s = true
taken (b_cond k) s = ConditionHolds k s.nzcv
taken (cb z t rt) s = tested t (IsZero (R z s rt))
taken (tb t n rt) s = tested t (not (bit (R X s rt) n))
taken (adr rd) s = false
taken (ldr rt) s = false

-- the machine that runs a block whose code starts at `base`
abbrev pub arm : Helpers → (base : ℕ) → Machine
arm h base =
    record {
      State = State;
      Stop = Stop;
      exec = exec h;
      taken = taken;
      address = λ rd p s. with_x rd ((base + 4 * p) % 2 ^ 64) s;
      loads = λ rt v s. with_x rt v s;
    }
