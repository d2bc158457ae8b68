-- What a step's numbers are, so that its code does what the machine between does.
use Rattle.std.specs.Prelude.{◌≡◌, ◌≢◌, Bool, false, ◌&&◌, ◌||◌, List, [], ◌∷◌, ℕ, ◌^◌, ◌<◌, T, eqb}
use Rattle.arm.specs.declared.Flags.{Flags}
use Rattle.arm.specs.declared.Flags.TheVariants.{Keeps, Sets}
use Rattle.arm.specs.declared.Instr.{Instr}
use Rattle.arm.specs.declared.Instr.TheVariants.{MoveWide, AddSubImm, AddSubShifted, LogicalShifted, LogicalImm, Bitfield, OneSource, TwoSource, ThreeSource, CondSelect, MemoryImm, MemoryReg, MemoryPair, CompareBranch, TestBranch, CondBranch, Branch, BranchReg, Adr, LoadLiteral, Nop, FloatTwo, FloatCompare, FloatConvert}
use Rattle.lowering.specs.Steps.{Step}
use Rattle.relation.specs.Relation.{cls}

-- a temporary; or that or the zero register
unfoldable pub temp : ℕ → Bool
temp k = eqb (cls k) 0

unfoldable pub temp_or_zero : ℕ → Bool
temp_or_zero k = temp k || eqb k 31

-- add and subtract of an immediate read sp as register 31, and write it unless they set the flags
abbrev pub target : Flags → ℕ → Bool
target Keeps rd = temp rd
target Sets rd = temp_or_zero rd

-- the registers of an instruction on temporaries
unfoldable pub on_temps : Instr → Bool
on_temps (MoveWide z m hw imm rd) = temp rd
on_temps (AddSubImm z o f imm rn rd) = temp rn && target f rd
on_temps (AddSubShifted z o f h rm n rn rd) = temp_or_zero rm && temp_or_zero rn && temp_or_zero rd
on_temps (LogicalShifted z o i h rm n rn rd) = temp_or_zero rm && temp_or_zero rn && temp_or_zero rd
on_temps (LogicalImm o immr imms rn rd) = false
on_temps (Bitfield z o immr imms rn rd) = temp_or_zero rn && temp rd
on_temps (OneSource o rn rd) = temp_or_zero rn && temp rd
on_temps (TwoSource z o rm rn rd) = temp_or_zero rm && temp_or_zero rn && temp rd
on_temps (ThreeSource o rm ra rn rd) = temp_or_zero rm && temp_or_zero ra && temp_or_zero rn && temp rd
on_temps (CondSelect z o rm k rn rd) = temp_or_zero rm && temp_or_zero rn && temp rd
on_temps (MemoryImm a imm rn rt) = false
on_temps (MemoryReg a c rm rn rt) = false
on_temps (MemoryPair m p imm rt2 rn rt) = false
on_temps (CompareBranch z t imm rt) = false
on_temps (TestBranch t n imm rt) = false
on_temps (CondBranch imm k) = false
on_temps (Branch imm) = false
on_temps (BranchReg j rn) = false
on_temps (Adr imm rd) = false
on_temps (LoadLiteral imm rt) = false
on_temps Nop = false
on_temps (FloatTwo o rm rn rd) = false
on_temps (FloatCompare rm rn) = false
on_temps (FloatConvert o rn rd) = false

unfoldable pub StepFits : Step → Type 0
StepFits (Step.ld_reg t r) = (cls t ≡ 0) × (r < 16)
StepFits (Step.st_reg t r) = (cls t ≡ 0) × (r < 16)
StepFits (Step.ld_field f t) = cls t ≡ 0
StepFits (Step.st_field f t) = cls t ≡ 0
StepFits (Step.mov32 t v) = (cls t ≡ 0) × (v < 2 ^ 32)
StepFits (Step.add_imm d s v) = (cls d ≡ 0) × (cls s ≡ 0) × (s ≢ 9) × (v < 2 ^ 32)
StepFits (Step.ins i) = T (on_temps i)
StepFits (Step.load w signed i) = i < 32
StepFits (Step.store w alone i) = i < 32
StepFits (Step.check_brk glue pc count) = (pc < 2 ^ 32) × (count < 4096)
StepFits (Step.chain pc count) = (pc < 2 ^ 32) × (count < 4096)
StepFits (Step.fork k pc target count) = (pc < 2 ^ 32) × (target < 2 ^ 32) × (count < 4096)
StepFits (Step.ind t count brk) = (cls t ≡ 0) × (count < 4096)
StepFits (Step.limit pc count) = (pc < 2 ^ 32) × (count < 4096)
StepFits (Step.guard at helper pc) = pc < 2 ^ 32

abbrev pub AllFit : List Step → Type 0
AllFit [] = Unit {0}
AllFit (s ∷ ss) = StepFits s × AllFit ss
