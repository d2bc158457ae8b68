-- A number as a word of text, from the word's bytes.
use Rattle.std.specs.Prelude.{ℕ, ◌+◌, ◌-◌, ◌*◌, ◌^◌, Bool, false, cond, List, [], ◌∷◌, get_or, drop, ltb, leb, eqb}
use Rattle.std.specs.Prelude.{ℤ, pos, negsuc, Some, None}
use Rattle.std.specs.declared.option.Option.{Option}

-- the value of `0` to `9`, `A` to `F`, `a` to `f`; 16 of any other byte
unfoldable pub digit_of : ℕ → ℕ
digit_of b =
    cond (ltb b 48) 16
    (cond (ltb b 58) (b - 48)
    (cond (ltb b 65) 16 (cond (ltb b 71) (b - 55) (cond (ltb b 97) 16 (cond (ltb b 103) (b - 87) 16)))))

-- the number v with more digits behind it, each below the base, if it is at most limit
unfoldable pub more : ℕ → ℕ → ℕ → List ℕ → Option ℕ
more base limit v [] = Some v
more base limit v (b ∷ bs) =
    cond (leb base (digit_of b)) None
    (cond (ltb limit (v * base + digit_of b)) None (more base limit (v * base + digit_of b) bs))

-- at least one digit
unfoldable pub whole : ℕ → ℕ → List ℕ → Option ℕ
whole base limit [] = None
whole base limit (b ∷ bs) = more base limit 0 (b ∷ bs)

-- digits, with or without a plus sign (43) before them
unfoldable pub unsigned : ℕ → ℕ → List ℕ → Option ℕ
unsigned base limit s = cond (eqb (get_or s 0 0) 43) (whole base limit (drop 1 s)) (whole base limit s)

-- the two's complement in 64 bits
unfoldable pub negated : Option ℕ → Option ℕ
negated (Some v) = Some (cond (eqb v 0) 0 (2 ^ 64 - v))
negated None = None

-- `0x` stands first
unfoldable pub hexadecimal : List ℕ → Bool
hexadecimal s = cond (eqb (get_or s 1 0) 120) (eqb (get_or s 0 0) 48) false

-- a minus sign (45) and digits, or `0x` and hexadecimal digits, or digits
unfoldable pub number_of : List ℕ → Option ℕ
number_of s =
    cond (eqb (get_or s 0 0) 45) (negated (whole 10 (2 ^ 63) (drop 1 s)))
    (cond (hexadecimal s) (unsigned 16 (2 ^ 64 - 1) (drop 2 s)) (unsigned 10 (2 ^ 63 - 1) s))

-- two's complement
unfoldable pub signed_of : ℕ → ℤ
signed_of n = cond (ltb n (2 ^ 63)) (pos n) (negsuc (2 ^ 64 - 1 - n))
