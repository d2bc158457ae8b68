-- The faults of a block record in numbers: those of document 01's "Faults, in order", and those that document 02 adds. A fault's number is
-- 0 where there is none.
use Rattle.std.specs.Prelude.{Bool, true, false, ℕ, zero, suc, Result, Ok, Err}
use Rattle.faults.specs.declared.Fault.{Fault}
use Rattle.faults.specs.declared.Fault.TheVariants.{Cut, Field, Kind, Operand, Offset, Region, Start, TooMany, AfterJump, Room}
use Rattle.faults.specs.declared.Fault.TheVariants.{Unaligned, Overlap, Guard, RamEnd}

abbrev pub fault_number : Fault → ℕ
fault_number Cut = 1
fault_number Field = 2
fault_number Kind = 3
fault_number Operand = 4
fault_number Offset = 5
fault_number Region = 6
fault_number Start = 7
fault_number TooMany = 8
fault_number AfterJump = 9
fault_number Room = 10
fault_number Unaligned = 14
fault_number Overlap = 15
fault_number Guard = 16
fault_number RamEnd = 17

-- the number of a test's fault, 0 where there is none
abbrev pub fault_or_0 : {A : Type 0} → Result A Fault → ℕ
fault_or_0 (Ok x) = 0
fault_or_0 (Err f) = fault_number f

-- ---- the first that holds

infix 60 ◌gives◌
abbrev pub ◌gives◌ : Bool → ℕ → ℕ
true gives n = n
false gives n = 0

infixr 50 ◌then◌
abbrev pub ◌then◌ : ℕ → ℕ → ℕ
zero then m = m
suc n then m = suc n
