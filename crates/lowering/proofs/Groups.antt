-- Groups: where the words of BlockMove start is a number of 32 bits.
use mathlib.Core.Bool.{Bool, true, false}
use Prim.Native.Nat.{ℕ, ◌^◌, ◌<◌}
use native.Mathlib.Omega.{arith}
use Rattle.lowering.specs.Steps.{move_offset}

pub offset_lt : (down : Bool) (n : ℕ) → move_offset down n < 2 ^ 32
offset_lt true n = omega arith
offset_lt false n = omega arith
