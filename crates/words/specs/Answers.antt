-- What an encoder answers: the word of an instruction, or document 01's fault 13.
use Rattle.std.specs.Prelude.{ℕ, ◌≡◌, Bool, true, false, Result, Ok, Err}
use Rattle.arm.specs.declared.Instr.{Instr}
use Rattle.arm.specs.Instr.{encode, Carried}
use Rattle.arm.specs.Decode.{carried, both}
use Rattle.words.specs.declared.EncodeError.{EncodeError}
use Rattle.words.specs.declared.EncodeError.TheVariants.{Reach, Unaligned, Operand}

abbrev pub pick : Bool → Result ℕ EncodeError → Result ℕ EncodeError → Result ℕ EncodeError
pick true a b = a
pick false a b = b

-- document 01's number of a fault
abbrev pub number : EncodeError → ℕ
number Reach = 11
number Unaligned = 12
number Operand = 13

-- the word where the condition holds and each operand fits its field, and fault 13 elsewhere
unfoldable pub answer_if : Bool → Instr → Result ℕ EncodeError
answer_if b i = pick (both b (carried i)) (Ok (encode i)) (Err Operand)

unfoldable pub answer : Instr → Result ℕ EncodeError
answer i = pick (carried i) (Ok (encode i)) (Err Operand)

-- ---- an answer in document 01's numbers: its word or words, or a fault's number, place and word
pub data Told (A : Type 0) : Type 0 where
  accepted : A → Told A
  refused : (number place : ℕ) → A → Told A

-- "their refusals give place 0 and word 0"
abbrev pub told : Result ℕ EncodeError → Told ℕ
told (Ok w) = accepted w
told (Err e) = refused (number e) 0 0

-- the word alone, and 0 where there is none
abbrev pub word_of : Result ℕ EncodeError → ℕ
word_of (Ok w) = w
word_of (Err e) = 0

-- `answer` by cases: `Answers i r` holds of this one answer
unfoldable pub Answers : Instr → Result ℕ EncodeError → Type 0
Answers i (Ok w) = Carried i × (w ≡ encode i)
Answers i (Err e) = (e ≡ Operand) × (Carried i → ⊥)
