-- `link`: the branch from a chain site to a body, both addresses as signed 64-bit numbers.
use Rattle.std.specs.Prelude.{ℕ, ◌^◌, Bool, eqb, Result, Ok, Err, ℤ, pos, ◌-ℤ◌}
use Rattle.std.specs.Int.Signed.{quot_z}
use Rattle.arm.specs.Decode.{both}
use Rattle.arm.specs.Instr.{encode}
use Rattle.arm.specs.declared.Instr.TheVariants.{Branch}
use Rattle.words.specs.declared.EncodeError.{EncodeError}
use Rattle.words.specs.declared.EncodeError.TheVariants.{Reach, Unaligned}
use Rattle.words.specs.Answers.{pick}
use Rattle.words.specs.Signed.{reaches, twos}

-- a multiple of 4: the number modulo 4 is 0
abbrev pub aligned : ℤ → Bool
aligned x = eqb (twos 2 x) 0

-- in words; of integers, so the difference does not wrap
abbrev pub distance : ℤ → ℤ → ℤ
distance site body = quot_z (body -ℤ site) (pos 4)

-- the branch, or 11 for a distance outside -33554432 to 33554431 words
abbrev pub reached : ℤ → ℤ → Result ℕ EncodeError
reached site body =
    pick (reaches (2 ^ 25) (distance site body)) (Ok (encode (Branch (twos (2 ^ 25) (distance site body))))) (Err Reach)

-- before that, 12 for an address that is no multiple of 4
unfoldable pub linked : ℤ → ℤ → Result ℕ EncodeError
linked site body = pick (both (aligned site) (aligned body)) (reached site body) (Err Unaligned)
