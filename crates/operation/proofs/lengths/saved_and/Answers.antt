-- `saved_and` meets its contract: below 4 the registers n to 3, else 4 to n, and one word more.
use mathlib.Core.Path.{◌≡◌, sym, ap, ◌∙◌}
use mathlib.Core.Bool.{Bool, cond}
use Prim.Native.Nat.{ℕ, suc, ◌-◌}
use borrow.Author.Tests.{lt-ltb, le-ltb}
use lib.Dec.{ltb}
use lib.ListN.{length}
use Rattle.block.specs.Block.{saved}
use Rattle.block.proofs.Groups.{saved-count}
use Rattle.operation.proofs.lengths.saved_and.Goals as goal

by_test : (n : ℕ) {u : Bool} → ltb n 4 ≡ u → cond u (5 - n) (n - 2) ≡ suc (length (saved n))
by_test n e = ap (λ (v : Bool). cond v (5 - n) (n - 2)) (sym e) ∙ saved-count n

pub returns-then-n-lt4 : goal.returns-then-n-lt4
returns-then-n-lt4 c = by_test c.args.n (lt-ltb _ _ c.if-n-lt4.true)

pub returns : goal.returns
returns c = by_test c.args.n (le-ltb _ _ c.if-n-lt4.false)
