-- What writing into a lent buffer leaves.
use Rattle.std.specs.Prelude.{ℕ, zero, suc, ◌+◌, ◌-◌, ◌/◌, ◌%◌, ◌<◌, ◌≤◌, ◌≡◌, cond, Some, None}
use Rattle.std.specs.Prelude.{List, [], ◌∷◌, ◌++◌, ltb, eqb, length}
use Rattle.std.proofs.lemmas.List.Edits.{sets}
use Rattle.std.specs.declared.option.Option.{Option}
use Rattle.io.specs.Digits.{hex_digit_ascii, last_digits}

-- r is the position behind k bytes at at, in a buffer of room bytes: behind all of them where there is room, and never past the end
-- unless at is
pub record Ahead (at k room r : ℕ) : Type 0 where
  pub kept : r ≤ at + (room - at)
  pub whole : at + k ≤ room → r ≡ at + k

-- a word's eight hexadecimal digits
unfoldable pub hex8 : ℕ → List ℕ
hex8 w = last_digits 16 8 w

-- the decimal digits of a number that has at most so many
unfoldable pub decimal_in : ℕ → ℕ → List ℕ
decimal_in zero n = []
decimal_in (suc most) n = cond (ltb n 10) (hex_digit_ascii n ∷ []) (decimal_in most (n / 10) ++ (hex_digit_ascii (n % 10) ∷ []))

-- those of a number of 64 bits
unfoldable pub decimal : ℕ → List ℕ
decimal n = decimal_in 20 n

-- the bytes of part find room in the line behind those that are held, and stand there; or there is no room, or was none before, and the
-- line stays as it is
abbrev pub Kept : (held : Option ℕ) (line part last : List ℕ) → Option ℕ → Type 0
Kept held line part last (Some r) =
    (len : ℕ) × (held ≡ Some len) × (len + length part ≤ length line) × (r ≡ len + length part) × (last ≡ sets line len part)
Kept held line part last None = (last ≡ line) × ((len : ℕ) → held ≡ Some len → length line < len + length part)

-- what stands behind the word at position i of a listing, of which left words are left: a line feed (10) behind the fifth of a line and
-- behind the last, a blank (32) behind any other
unfoldable pub separator_of : (i left : ℕ) → ℕ
separator_of i left = cond (eqb left 1) 10 (cond (eqb (i % 5) 4) 10 32)

-- the words of a listing from position i on, five a line
unfoldable pub rows : ℕ → List ℕ → List ℕ
rows i [] = []
rows i (w ∷ ws) = (hex8 w ++ (separator_of i (length (w ∷ ws)) ∷ [])) ++ rows (i + 1) ws

-- the buffer holds these bytes at at, where there is room for them
pub record Placed (bytes out : List ℕ) (at : ℕ) (last : List ℕ) (r : ℕ) : Type 0 where
  pub kept : r ≤ at + (length out - at)
  pub whole : at + length bytes ≤ length out → r ≡ at + length bytes
  pub holds : at + length bytes ≤ length out → last ≡ sets out at bytes
