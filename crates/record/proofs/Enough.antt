-- 33 fields are enough: the definition of reading gives the same with any larger bound, so its bound is never met.
use mathlib.Core.Path.{◌≡◌, refl, ap}
use mathlib.Core.List.{List}
use Prim.Native.Nat.{ℕ, zero, suc, ◌+◌, ◌<◌, ◌≤◌}
use native.Mathlib.Omega.{arith}
use native.Mathlib.Nat.{suc-add}
use lib.Dec.{leb}
use lib.ListN.{length}
use Rattle.block.specs.declared.Block.{Block}
use Rattle.record.specs.Record.{payload_length, payload, operation_of, last_jumps, Reading, refused_or, push, end_or, operations, header}
use Rattle.record.proofs.Steps.{good, fault_at}

-- what follows an operation counts only where the operation has no fault
or_same : (f place : ℕ) (x y : Reading) → (f ≡ 0 → x ≡ y) → refused_or f place x ≡ refused_or f place y
unfolding refused_or
or_same zero place x y h = h refl
or_same (suc f) place x y h = refl

enough_from : (j k : ℕ) (s : List ℕ) (at : ℕ) (b : Block) → 33 ≤ b.n + suc j
    → operations (suc (j + k)) s at b ≡ operations (suc j) s at b
unfolding operations
enough_from zero k s at b h =
    ap (end_or (leb (length s) at) b)
    (or_same (fault_at s at b) at _ _
    (λ e. let r : b.n < 32 = (good b.memory s at b.n (last_jumps b.n b.ops) e).room in absurd (omega arith)))
enough_from (suc j) k s at b h =
    let h' : 33 ≤ b.n + 1 + suc j = omega arith in
    rw suc-add
    (ap (end_or (leb (length s) at) b)
    (or_same (fault_at s at b) at _ _
    (λ e. enough_from j k s (at + 3 + payload_length s at) (push b (operation_of (payload s at))) h')))

pub enough : (k : ℕ) (s : List ℕ) (from : ℕ) → operations (33 + k) s from (header s) ≡ operations 33 s from (header s)
unfolding header
enough k s from = rw (suc-add 32 k) (enough_from 32 k s from (header s) (omega arith))
