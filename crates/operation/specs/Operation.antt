-- The payload of a field 05, from document 01's "The block record" and "Faults, in order": kind, guest length, glue, operands. A fault's
-- number is 0 where there is none.
use Rattle.std.specs.Prelude.{Bool, true, not, ◌&&◌, ◌||◌, List, [], ◌∷◌, ℕ, suc, ◌+◌, ◌*◌, leb, ltb, eqb, length}
use Rattle.block.specs.declared.BOp.{BOp}
use Rattle.block.specs.declared.Memory.{Memory}
use Rattle.block.specs.Block.{moved}
use Rattle.faults.specs.Faults.{◌gives◌, ◌then◌}
use Rattle.operands.specs.Kinds.{Class, fits, flag_of, kinds, kind_at, fast_of}
use Rattle.operands.specs.Numbers.{byte_at, num32}

-- ---- field 05: kind, guest length, glue, operands

abbrev pub operand : List ℕ → ℕ → ℕ
operand p i = num32 p (3 + 4 * i)

-- the operands of a payload; no kind has more than six
abbrev pub operands : List ℕ → List ℕ
operands p = operand p 0 ∷ operand p 1 ∷ operand p 2 ∷ operand p 3 ∷ operand p 4 ∷ operand p 5 ∷ []

-- the operands from the i-th on, left to right
abbrev pub operands_fit : List Class → List ℕ → ℕ → Bool
operands_fit [] p i = true
operands_fit (c ∷ cs) p i = fits c (operand p i) && operands_fit cs p (suc i)

-- so many words, four bytes each, are more than RAM's or XIP's length
abbrev pub too_long : Memory → ℕ → Bool
too_long m n = ltb m.ram_len (4 * n) || ltb m.xip_len (4 * n)

-- kind, length, glue, operands; "a group that moves more bytes (four for each word, rets and pc included) than the RAM's or the XIP's
-- length answers 4, last of its field's contents"
unfoldable pub contents_fault : Memory → List ℕ → ℕ
contents_fault m p =
    ltb (length p) 3 gives 2
    then leb (length kinds) (byte_at p 0) gives 3
    then not (eqb (length p) (3 + 4 * length (kind_at (byte_at p 0)).operands)) gives 2
    then ltb 1 (byte_at p 2) gives 4
    then not (operands_fit (kind_at (byte_at p 0)).operands p 0) gives 4
    then too_long m (moved (fast_of (byte_at p 0) (operands p))) gives 4

unfoldable pub operation_of : List ℕ → BOp
operation_of p = record { fast = fast_of (byte_at p 0) (operands p); len = byte_at p 1; glue = flag_of (byte_at p 2) }
