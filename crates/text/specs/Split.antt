-- The lines and the words of a text, as lists of bytes.
use Rattle.std.specs.Prelude.{ℕ, ◌<◌, ◌≡◌, Bool, true, false, not, cond, List, [], length, drop, ltb, eqb}
use Rattle.std.specs.List.{position_or_len, before_first, after_first}

abbrev pub line_feed : ℕ → Bool
line_feed b = eqb b 10

-- tab, line feed, vertical tab, form feed, carriage return, space
abbrev pub blank : ℕ → Bool
blank b = cond (eqb b 32) true (cond (ltb b 9) false (ltb b 14))

-- s has no line feed
abbrev pub IsLastLine : List ℕ → Type 0
IsLastLine s = position_or_len line_feed s ≡ length s

-- what stands before the first line feed of s, which has one, and what stands behind that
pub record IsLine (s line rest : List ℕ) : Type 0 where
  pub ended : position_or_len line_feed s < length s
  pub before : line ≡ before_first line_feed s
  pub behind : rest ≡ after_first line_feed s

-- s from its first byte on that is no blank
abbrev pub trimmed : List ℕ → List ℕ
trimmed s = drop (position_or_len (λ b. not (blank b)) s) s

abbrev pub IsBlank : List ℕ → Type 0
IsBlank s = trimmed s ≡ []

-- the bytes from there to the next blank, of which there are some, and what stands behind them
pub record IsWord (s word rest : List ℕ) : Type 0 where
  pub some : 0 < length word
  pub before : word ≡ before_first blank (trimmed s)
  pub behind : rest ≡ drop (position_or_len blank (trimmed s)) (trimmed s)
