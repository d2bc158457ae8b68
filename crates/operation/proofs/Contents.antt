-- A payload without a fault: what holds of it, and the number of the kind that it makes.
use mathlib.Core.Path.{◌≡◌, sym, ap}
use mathlib.Core.Bool.{true, false, not}
use mathlib.Core.List.{List}
use Prim.Native.Nat.{ℕ, ◌+◌, ◌*◌, ◌<◌, ◌≤◌}
use borrow.Author.Tests.{ltb-false, leb-false, eqb-true}
use lib.Dec.{leb, ltb, eqb}
use lib.ListN.{length}
use Rattle.block.specs.declared.Memory.{Memory}
use Rattle.block.specs.Block.{jumping, may_jump, moved}
use Rattle.faults.specs.Faults.{◌gives◌}
use Rattle.operands.specs.Kinds.{kinds, kind_at, fast_of}
use Rattle.operands.specs.Numbers.{byte_at}
use Rattle.faults.proofs.Laws.{then-zero, gives-zero}
use Rattle.operands.proofs.Laws.{not-true}
use Rattle.operands.proofs.Table.{kind-number}
use Rattle.operation.specs.Operation.{operands_fit, operands, too_long, contents_fault, operation_of}

pub record Contents (m : Memory) (p : List ℕ) : Type 0 where
  pub long : 3 ≤ length p
  pub kind : byte_at p 0 < 50
  pub size : length p ≡ 3 + 4 * length (kind_at (byte_at p 0)).operands
  pub glue : byte_at p 2 ≤ 1
  pub fit : operands_fit (kind_at (byte_at p 0)).operands p 0 ≡ true
  pub group : too_long m (moved (fast_of (byte_at p 0) (operands p))) ≡ false

pub contents_of : (m : Memory) (p : List ℕ) → contents_fault m p ≡ 0 → Contents m p
unfolding contents_fault
contents_of m p e =
    let a = then-zero (ltb (length p) 3 gives 2) _ e in
    let b = then-zero (leb (length kinds) (byte_at p 0) gives 3) _ a.1 in
    let c = then-zero (not (eqb (length p) (3 + 4 * length (kind_at (byte_at p 0)).operands)) gives 2) _ b.1 in
    let d = then-zero (ltb 1 (byte_at p 2) gives 4) _ c.1 in
    let f = then-zero (not (operands_fit (kind_at (byte_at p 0)).operands p 0) gives 4) _ d.1 in
    record {
      long = ltb-false (length p) 3 (gives-zero _ 1 a.0);
      kind = leb-false (length kinds) (byte_at p 0) (gives-zero _ 2 b.0);
      size = eqb-true _ _ (not-true _ (gives-zero _ 1 c.0));
      glue = ltb-false 1 (byte_at p 2) (gives-zero _ 3 d.0);
      fit = not-true _ (gives-zero _ 3 f.0);
      group = gives-zero _ 3 f.1;
    }

-- "Kinds 30 to 39 jump", and "PopPc jumps", and Tb
pub jumps : (p : List ℕ) → byte_at p 0 < 50 → jumping (byte_at p 0) ≡ may_jump (operation_of p).fast
unfolding operation_of
jumps p h = ap jumping (sym (kind-number (byte_at p 0) (operands p) h))
