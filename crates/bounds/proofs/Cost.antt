-- WHAT A STEP COSTS, and a list of steps with it: words, labels and fix-ups at most (Short), chain sites exactly (Sites); and whether it is
-- a guard, which has literals of its own (Pool).
--     cost_of, total     a step's cost, that of a list of steps
--     Within            a list of steps costs no more than this
--     length-le         a step costs at least a word
-- Assumes nothing.
use mathlib.Core.Path.{◌≡◌}
use mathlib.Core.Bool.{Bool, true, false}
use mathlib.Core.List.{List, [], ◌∷◌, ◌++◌}
use Prim.Native.Nat.{ℕ, zero, suc, ◌+◌, ◌≤◌}
use native.Mathlib.Omega.{arith}
use lib.Dec.{T, leb, ltb, leb→le, ltb→lt}
use lib.ListN.{length}
use Rattle.arm.specs.Decode.{both}
use Rattle.arm.proofs.Pieces.{both_left, both_right}
use Rattle.code.specs.Items.{pick}
use Rattle.lowering.specs.Steps.{Step}

-- fix-ups are counted with the references to literals
pub data Measure : Type 0 where
  words labels jumps sites guards : Measure

abbrev pub Cost : Type 0
Cost = Measure → ℕ

abbrev pub cost : (w l j s : ℕ) → Cost
cost w l j s Measure.words = w
cost w l j s Measure.labels = l
cost w l j s Measure.jumps = j
cost w l j s Measure.sites = s
cost w l j s Measure.guards = 0

abbrev guard_cost : Cost
guard_cost Measure.words = 38
guard_cost Measure.labels = 1
guard_cost Measure.jumps = 5
guard_cost Measure.sites = 0
guard_cost Measure.guards = 1

abbrev pub cost_of : Step → Cost
cost_of (Step.ld_reg t r) = cost 3 0 0 0
cost_of (Step.st_reg t r) = cost 2 0 0 0
cost_of (Step.ld_field f t) = cost 1 0 0 0
cost_of (Step.st_field f t) = cost 1 0 0 0
cost_of (Step.mov32 t v) = cost 2 0 0 0
cost_of (Step.add_imm d s v) = cost 3 0 0 0
cost_of (Step.ins i) = cost 1 0 0 0
cost_of (Step.load w signed i) = cost 48 3 5 0
cost_of (Step.store w true i) = cost 38 2 6 0  -- a word may have two tests of a bit
cost_of (Step.store w false i) = cost 37 2 5 0
cost_of (Step.check_brk glue pc count) = cost 18 1 2 0
cost_of (Step.chain pc count) = cost 17 2 3 1
cost_of (Step.fork cond pc target count) = cost 35 5 7 2
cost_of (Step.ind t count brk) = cost 23 1 4 0
cost_of (Step.limit pc count) = cost 16 1 2 0
cost_of (Step.guard at helper pc) = guard_cost

abbrev pub total : List Step → Cost
total [] m = 0
total (s ∷ ss) m = cost_of s m + total ss m

pub total-append : (xs ys : List Step) (m : Measure) → total (xs ++ ys) m ≡ total xs m + total ys m
total-append [] ys m = omega arith
total-append (x ∷ xs) ys m = omega (arith, total-append xs ys m)

-- ---- sums, and the comparison by computing
infixl 20 ◌⊕◌
abbrev pub ◌⊕◌ : Cost → Cost → Cost
◌⊕◌ a b m = a m + b m

abbrev pub times : ℕ → Cost → Cost
times zero c m = 0
times (suc n) c m = c m + times n c m

abbrev every : (Measure → Bool) → Bool
every f = both (f Measure.words) (both (f Measure.labels) (both (f Measure.jumps) (both (f Measure.sites) (f Measure.guards))))

every_at : (f : Measure → Bool) → T (every f) → (m : Measure) → T (f m)
every_at f t Measure.words = both_left (f Measure.words) _ t
every_at f t Measure.labels = both_left (f Measure.labels) _ (both_right (f Measure.words) _ t)
every_at f t Measure.jumps = both_left (f Measure.jumps) _ (both_right (f Measure.labels) _ (both_right (f Measure.words) _ t))
every_at f t Measure.sites =
    both_left (f Measure.sites) _ (both_right (f Measure.jumps) _ (both_right (f Measure.labels) _ (both_right (f Measure.words) _ t)))
every_at f t Measure.guards =
    both_right (f Measure.sites) _ (both_right (f Measure.jumps) _ (both_right (f Measure.labels) _ (both_right (f Measure.words) _ t)))

abbrev pub below : Cost → Cost → Bool
below a b = every (λ m. leb (a m) (b m))

below_le : (a b : Cost) → T (below a b) → (m : Measure) → a m ≤ b m
below_le a b t m = leb→le (a m) (b m) (every_at (λ k. leb (a k) (b k)) t m)

-- ---- no more than this
pub record Within (c : Cost) (ss : List Step) : Type 0 where
  pub le : (m : Measure) → total ss m ≤ c m

pub own : {ss : List Step} → Within (total ss) ss
own = record { le = λ m. omega arith }

pub raised : {a b : Cost} {ss : List Step} → ((m : Measure) → a m ≤ b m) → Within a ss → Within b ss
raised k h = record { le = λ m. omega (arith, k m, h.le m) }

-- by computing
pub wider : {a b : Cost} {ss : List Step} → T (below a b) → Within a ss → Within b ss
wider {a = a} {b = b} t h = raised (below_le a b t) h

pub sure : {c : Cost} {ss : List Step} → T (below (total ss) c) → Within c ss
sure t = wider t own

pub joined : {a b : Cost} {xs ys : List Step} → Within a xs → Within b ys → Within (a ⊕ b) (xs ++ ys)
joined {xs = xs} {ys = ys} h k = record { le = λ m. omega (arith, total-append xs ys m, h.le m, k.le m) }

pub either : {c : Cost} {xs ys : List Step} (u : Bool) → Within c xs → Within c ys → Within c (pick u xs ys)
either true h k = h
either false h k = k

pub times_le : (c : Cost) (m : Measure) (n k : ℕ) → n ≤ k → times n c m ≤ times k c m
times_le c m zero k h = omega arith
times_le c m (suc n) zero h = omega arith
times_le c m (suc n) (suc k) h = omega (arith, times_le c m n k (omega arith))

pub no_sites : (w l j n : ℕ) → times n (cost w l j 0) Measure.sites ≡ 0
no_sites w l j zero = omega arith
no_sites w l j (suc n) = omega (arith, no_sites w l j n)

pub up-to : (c : Cost) {ss : List Step} (n k : ℕ) → n ≤ k → Within (times n c) ss → Within (times k c) ss
up-to c n k h = raised (λ m. times_le c m n k h)

-- ---- how many steps
word : (s : Step) → T (ltb 0 (cost_of s Measure.words))
word (Step.ld_reg t r) = tt
word (Step.st_reg t r) = tt
word (Step.ld_field f t) = tt
word (Step.st_field f t) = tt
word (Step.mov32 t v) = tt
word (Step.add_imm d s v) = tt
word (Step.ins i) = tt
word (Step.load w signed i) = tt
word (Step.store w true i) = tt
word (Step.store w false i) = tt
word (Step.check_brk glue pc count) = tt
word (Step.chain pc count) = tt
word (Step.fork cond pc target count) = tt
word (Step.ind t count brk) = tt
word (Step.limit pc count) = tt
word (Step.guard at helper pc) = tt

pub length-le : (ss : List Step) → length ss ≤ total ss Measure.words
length-le [] = omega arith
length-le (s ∷ ss) = omega (arith, ltb→lt 0 (cost_of s Measure.words) (word s), length-le ss)
