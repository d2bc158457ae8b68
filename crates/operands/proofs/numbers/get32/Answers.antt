-- `get32` meets its contract: four bytes at once, or two halves.
use Prim.Native.Nat.{ℕ, ◌+◌, ◌*◌}
use mathlib.Core.Path.{◌≡◌}
use mathlib.Core.List.{List}
use native.Mathlib.Omega.{arith}
use Rattle.operands.specs.Numbers.{byte_at, num16, num32}
use Rattle.operands.proofs.numbers.get32.Goals as goal

four : (s : List ℕ) (i : ℕ) {r : ℕ}
    → r ≡ byte_at s i + byte_at s (i + 1) * 256 + byte_at s (i + 2) * 65536 + byte_at s (i + 3) * 16777216 → r ≡ num32 s i
unfolding num16 num32
four s i e = let h : i + 2 + 1 ≡ i + 3 = omega arith in rw h (omega (arith, e))

pub returns-then-i-s : goal.returns-then-i-s
returns-then-i-s c =
    let a = c.args in
    four a.s.now a.i c.from_le_bytes.ensures

pub returns : goal.returns
unfolding num32
returns c = cc
