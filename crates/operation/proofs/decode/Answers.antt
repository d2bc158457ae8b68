-- `decode` meets its contract: the tests in order, then the operation.
use Prim.Native.Nat.{ℕ, ◌+◌, ◌*◌, ◌<◌, ◌≤◌}
use mathlib.Core.Path.{◌≡◌, sym, ap, ◌∙◌}
use mathlib.Core.Bool.{Bool, false, not}
use mathlib.Core.List.{List}
use native.Mathlib.Omega.{arith}
use borrow.Author.Tests.{lt-ltb, le-ltb, le-leb, lt-leb, eq-eqb, ne_eqb}
use lib.ListN.{length}
use Rattle.block.specs.declared.Memory.{Memory}
use Rattle.block.specs.Block.{moved}
use Rattle.operands.specs.declared.rows.Shape.{Shape}
use Rattle.faults.specs.Faults.{◌gives◌}
use Rattle.operands.specs.Kinds.{kind_at, fast_of}
use Rattle.operands.specs.Rows.{shape_of}
use Rattle.operands.proofs.Table.{at_most-six}
use Rattle.operation.specs.Operation.{operands_fit, operands, too_long, contents_fault, operation_of}
use Rattle.operation.proofs.Operands.{fit_all}
use Rattle.operands.specs.Numbers.{byte_at}
use Rattle.operation.proofs.decode.Goals as goal

-- what `shape_of` answers of a payload's operands
module _ (k : ℕ) (p : List ℕ) {xs : List ℕ} {r : Shape} (given : xs ≡ operands p) (e : r ≡ shape_of k xs) where
  shape : r ≡ shape_of k (operands p)
  shape = e ∙ ap (shape_of k) given

  count_is : r.count ≡ length (kind_at k).operands
  count_is = ap (λ (w : Shape). w.count) shape

  fit_is : r.fit ≡ operands_fit (kind_at k).operands p 0
  fit_is = ap (λ (w : Shape). w.fit) shape ∙ fit_all k p

-- what `moved` and `too_long` answer of them
group_is : (m : Memory) (k : ℕ) (p : List ℕ) {xs : List ℕ} {n : ℕ} {t : Bool}
    → xs ≡ operands p → n ≡ moved (fast_of k xs) → t ≡ too_long m n
    → too_long m (moved (fast_of k (operands p))) ≡ t
group_is m k p given e f = sym (f ∙ ap (too_long m) (e ∙ ap (λ (ys : List ℕ). moved (fast_of k ys)) given))

-- the tests before that of a group's length have passed
passed : (m : Memory) (k : ℕ) (p : List ℕ) {xs : List ℕ} {r : Shape} {g : ℕ}
    → xs ≡ operands p → r ≡ shape_of k xs → 3 ≤ length p → k ≡ byte_at p 0 → k < 50 → length p ≡ 3 + 4 * r.count
    → g ≡ byte_at p 2 → g ≤ 1 → not r.fit ≡ false
    → contents_fault m p ≡ (too_long m (moved (fast_of k (operands p))) gives 4)
unfolding contents_fault
passed m k p given e long kind below size glue few fit =
    let n = count_is k p given e in
    let f = ap not (sym (fit_is k p given e)) ∙ fit in
    rw (le-ltb _ _ long, ← kind, lt-leb _ _ below, f, ← n, eq-eqb _ _ size, ← glue, le-ltb _ _ few)

pub returns-then-p-lt3-clause-fault : goal.returns-then-p-lt3-clause-fault
unfolding contents_fault
returns-then-p-lt3-clause-fault c = rw (lt-ltb _ _ c.if-p-lt3.true)

pub returns-then-kind-ge50-clause-fault : goal.returns-then-kind-ge50-clause-fault
unfolding contents_fault
returns-then-kind-ge50-clause-fault c = rw (le-ltb _ _ c.if-p-lt3.false, ← c.byte-kind.ensures, le-leb 50 _ c.if-kind-ge50.true)

pub overflow_mul-shape : goal.overflow_mul-shape
overflow_mul-shape c =
    let n = count_is c.byte-kind.result c.args.p.now c.operands_of-x.ensures c.shape_of-shape.ensures in
    omega (arith, n, at_most-six c.byte-kind.result)

pub overflow_add-shape : goal.overflow_add-shape
overflow_add-shape c =
    let n = count_is c.byte-kind.result c.args.p.now c.operands_of-x.ensures c.shape_of-shape.ensures in
    omega (arith, n, at_most-six c.byte-kind.result)

pub returns-then-p-shape-clause-fault : goal.returns-then-p-shape-clause-fault
unfolding contents_fault
returns-then-p-shape-clause-fault c =
    let n = count_is c.byte-kind.result c.args.p.now c.operands_of-x.ensures c.shape_of-shape.ensures in
    rw (
      le-ltb _ _ c.if-p-lt3.false,
      ← c.byte-kind.ensures,
      lt-leb _ _ c.if-kind-ge50.false,
      ← n,
      ne_eqb _ _ c.if-p-shape.true,
    )

pub returns-then-glue-gt1-clause-fault : goal.returns-then-glue-gt1-clause-fault
unfolding contents_fault
returns-then-glue-gt1-clause-fault c =
    let n = count_is c.byte-kind.result c.args.p.now c.operands_of-x.ensures c.shape_of-shape.ensures in
    rw (
      le-ltb _ _ c.if-p-lt3.false,
      ← c.byte-kind.ensures,
      lt-leb _ _ c.if-kind-ge50.false,
      ← n,
      eq-eqb _ _ c.if-p-shape.false,
      ← c.byte-glue.ensures,
      lt-ltb _ _ c.if-glue-gt1.true,
    )

pub returns-then-not-shape-clause-fault : goal.returns-then-not-shape-clause-fault
unfolding contents_fault
returns-then-not-shape-clause-fault c =
    let n = count_is c.byte-kind.result c.args.p.now c.operands_of-x.ensures c.shape_of-shape.ensures in
    let fit = fit_is c.byte-kind.result c.args.p.now c.operands_of-x.ensures c.shape_of-shape.ensures in
    let f = ap not (sym fit) ∙ c.if-not-shape.true in
    rw (
      le-ltb _ _ c.if-p-lt3.false,
      ← c.byte-kind.ensures,
      lt-leb _ _ c.if-kind-ge50.false,
      f,
      ← n,
      eq-eqb _ _ c.if-p-shape.false,
      ← c.byte-glue.ensures,
      le-ltb _ _ c.if-glue-gt1.false,
    )

pub returns-then-too_long-clause-fault : goal.returns-then-too_long-clause-fault
returns-then-too_long-clause-fault c =
    let k = c.byte-kind.result in
    let a = c.args in
    let given = c.operands_of-x.ensures in
    let g = group_is a.m k a.p.now given c.moved.ensures c.too_long.ensures in
    let told =
    passed a.m k a.p.now c.operands_of-x.ensures c.shape_of-shape.ensures c.if-p-lt3.false c.byte-kind.ensures
    c.if-kind-ge50.false c.if-p-shape.false c.byte-glue.ensures c.if-glue-gt1.false c.if-not-shape.false in
    rw (
      told,
      g,
      c.if-too_long.true,
    )

pub returns-clause-fault : goal.returns-clause-fault
returns-clause-fault c =
    let k = c.byte-kind.result in
    let a = c.args in
    let g = group_is a.m k a.p.now c.operands_of-x.ensures c.moved.ensures c.too_long.ensures in
    let told =
    passed a.m k a.p.now c.operands_of-x.ensures c.shape_of-shape.ensures c.if-p-lt3.false c.byte-kind.ensures
    c.if-kind-ge50.false c.if-p-shape.false c.byte-glue.ensures c.if-glue-gt1.false c.if-not-shape.false in
    rw (
      told,
      g,
      c.if-too_long.false,
    )

pub returns-clause-operation : goal.returns-clause-operation
unfolding operation_of
returns-clause-operation c =
    let o = c.fast_of.ensures ∙ ap (fast_of c.byte-kind.result) c.operands_of-x.ensures in
    rw (
      ← c.byte-kind.ensures,
      ← c.byte-glue.ensures,
      o,
      c.byte.ensures,
    )
