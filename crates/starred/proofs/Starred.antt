-- Document 01's starred lines as one table: what the definitions give, and what the document says. All of it computes.
-- Assumes nothing.
use Prim.Native.Nat.{ℕ, ◌-◌, ◌%◌}
use mathlib.Core.Path.{◌≡◌, refl}
use mathlib.Core.List.{List, [], ◌∷◌}
use lib.IntN.{ℤ, pos}
use Rattle.arm.specs.declared.Size.TheVariants.{W}
use Rattle.arm.specs.declared.AddSub.TheVariants.{Add}
use Rattle.arm.specs.declared.Flags.TheVariants.{Keeps}
use Rattle.arm.specs.declared.Extract.TheVariants.{Ubfm}
use Rattle.arm.specs.declared.Instr.{Instr}
use Rattle.arm.specs.declared.Instr.TheVariants.{Bitfield, AddSubImm}
use Rattle.arm.specs.Instr.{encode}
use Rattle.words.specs.Answers.{answer, Told, refused, told, word_of}
use Rattle.chain.specs.Link.{linked}
use Rattle.constants.specs.Constants.{mov32_of, gen_add_imm_of, words_of}
use Rattle.lowering.specs.Instrs.{mov32 as mov32_instrs}
use Rattle.lowering.specs.Fragments.{add_imm}
use Rattle.card.specs.Word.{signed_of}
use Rattle.card.specs.Starred.{starred as card_lines}

infix 3 ◌is◌
pub record Line : Type 0 where
  pub given : List ℕ
  pub said : List ℕ

abbrev ◌is◌ : List ℕ → List ℕ → Line
g is s = record { given = g; said = s }

abbrev all_given : List Line → List (List ℕ)
all_given [] = []
all_given (l ∷ ls) = l.given ∷ all_given ls

abbrev all_said : List Line → List (List ℕ)
all_said [] = []
all_said (l ∷ ls) = l.said ∷ all_said ls

abbrev mov32 : ℕ → List ℕ
mov32 imm = words_of (mov32_of 0 imm)

-- the shift of 0 to 0, as lsl_imm's contract has it
abbrev lsl : ℕ → List ℕ
lsl sh = word_of (answer (Bitfield W Ubfm ((32 - sh % 32) % 32) (31 - sh % 32) 0 0)) ∷ []

abbrev link : ℤ → ℤ → List ℕ
link site body = word_of (linked site body) ∷ []

-- `Gen::add_imm` 0 to 0
abbrev gen_add_imm : ℕ → List ℕ
gen_add_imm imm = words_of (gen_add_imm_of 0 0 imm)

-- the same as the lowering defines it: its instructions, each as its word
abbrev encoded : List Instr → List ℕ
encoded [] = []
encoded (i ∷ rest) = encode i ∷ encoded rest

-- the card's lines: division and BitIns
abbrev rows : List (List ℕ × List ℕ) → List Line
rows [] = []
rows (l ∷ ls) = (l.0 is l.1) ∷ rows ls

abbrev table : List Line
table =
    -- the encoder
    (mov32 0xffff0000 is 0x52bfffe0 ∷ [])
    ∷ (mov32 0xffffffff is 0x12800000 ∷ [])
    ∷ (mov32 0x00012345 is 0x528468a0 ∷ 0x72a00020 ∷ [])
    ∷ (lsl 0 is 0x53007c00 ∷ [])
    ∷ (lsl 32 is 0x53007c00 ∷ [])
    ∷ (link (pos 0) (pos 4) is 0x14000001 ∷ [])
    ∷ (link (pos 4) (pos 0) is 0x17ffffff ∷ [])
    -- the lowering
    ∷ (gen_add_imm 0 is [])
    ∷ (gen_add_imm 0xfffff001 is 0x513ffc00 ∷ [])
    ∷ (gen_add_imm 0xfffff000 is 0x1281ffe9 ∷ 0x0b090000 ∷ [])
    ∷ (encoded (add_imm 0 0 0) is [])
    ∷ (encoded (add_imm 0 0 0xfffff001) is 0x513ffc00 ∷ [])
    ∷ (encoded (add_imm 0 0 0xfffff000) is 0x1281ffe9 ∷ 0x0b090000 ∷ [])
    -- the card
    ∷ rows card_lines

pub starred : all_given table ≡ all_said table
unfolding answer linked add_imm mov32_instrs signed_of
starred = refl

-- the examples of the faults that encoders and link give: number, place, word
abbrev faults : List (Told ℕ)
faults =
    told (linked (pos 0) (pos 134217728))
    ∷ told (linked (pos 2) (pos 0))
    ∷ told (answer (AddSubImm W Add Keeps 4096 0 0))
    ∷ []

pub faults-given : faults ≡ refused 11 0 0 ∷ refused 12 0 0 ∷ refused 13 0 0 ∷ []
unfolding answer linked
faults-given = refl
