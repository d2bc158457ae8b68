-- Signed numbers in fields of two's complement.
use Rattle.std.specs.Prelude.{ℕ, ◌+◌, ◌-◌, ◌%◌, Bool, ltb, ℤ, pos, negsuc}

-- from -half to half - 1 (negsuc n is -(n + 1))
abbrev pub reaches : ℕ → ℤ → Bool
reaches half (pos n) = ltb n half
reaches half (negsuc n) = ltb n half

-- the number modulo twice half
abbrev pub twos : ℕ → ℤ → ℕ
twos half (pos n) = n % (half + half)
twos half (negsuc n) = half + half - 1 - n % (half + half)
