-- What an encoder asks beside the widths of the fields.
use Rattle.std.specs.Prelude.{ℕ, ◌+◌, ◌%◌, Bool, ltb, leb, eqb, ℤ}
use Rattle.arm.specs.Decode.{both}
use Rattle.words.specs.Signed.{reaches, twos}

-- a run of 1 to 31 ones, shifted left within 32 bits
unfoldable pub is_mask : ℕ → ℕ → Bool
is_mask ones shift = both (ltb 0 ones) (both (ltb ones 32) (leb (ones + shift) 32))

-- a field of at least one bit within 32 bits
unfoldable pub is_field : ℕ → ℕ → Bool
is_field lsb width = both (ltb 0 width) (leb (lsb + width) 32)

-- a pair's offset: a multiple of 8 from -512 to 504
unfoldable pub is_pair_offset : ℤ → Bool
is_pair_offset off = both (reaches 512 off) (eqb (twos 512 off % 8) 0)
