-- Document 01's starred lines on division and BitIns: what the card computes, and what the line gives.
use Rattle.std.specs.Prelude.{List, [], ◌∷◌, ℕ}
use Rattle.card.specs.Kinds.{QuoS, QuoU, RemS, RemU}
use Rattle.card.specs.Word.{div, bit_ins}

abbrev pub starred : List (List ℕ × List ℕ)
starred =
    -- "80000000 divided by ffffffff, signed: 80000000, remainder 0."
    ((div QuoS 0x80000000 0xffffffff ∷ div RemS 0x80000000 0xffffffff ∷ []), (0x80000000 ∷ 0 ∷ []))
    -- "7 by 0: quotient 0, remainder 0.", signed and unsigned
    ∷ ((div QuoS 7 0 ∷ div RemS 7 0 ∷ []), (0 ∷ 0 ∷ []))
    ∷ ((div QuoU 7 0 ∷ div RemU 7 0 ∷ []), (0 ∷ 0 ∷ []))
    -- "BitIns with p 4, l 0, d abcdef01, s 12345678: 23456781"
    ∷ ((bit_ins 4 0 0xabcdef01 0x12345678 ∷ []), (0x23456781 ∷ []))
    ∷ []
