-- A block has at most five literals: the three helpers' addresses, the table's and the guard's. The invariant: a pool's length is at most
-- the number of the five that stand in it.
use mathlib.Core.Path.{◌≡◌, refl, sym, subst, ◌∙◌}
use mathlib.Core.Bool.{Bool, true, false, ◌&&◌}
use mathlib.Core.List.{List, [], ◌∷◌, ◌++◌, map}
use Prim.Native.Nat.{ℕ, zero, suc, ◌+◌, ◌<◌, ◌≤◌}
use native.Mathlib.Omega.{arith}
use lib.Dec.{eqb}
use lib.ListN.{length, get_or}
use borrow.Author.Tests.{eq-eqb}
use Rattle.arm.specs.declared.Instr.{Instr}
use Rattle.block.specs.declared.Width.{Width}
use Rattle.block.specs.declared.Width.TheVariants.{Byte as B8, Half as B16, Word as B32}
use Rattle.block.specs.declared.Block.{Block}
use Rattle.block.specs.Block.{ops_of, in_flash}
use Rattle.block.specs.Checked.{Checked}
use Rattle.code.specs.Items.{pick, add}
use Rattle.code.specs.Tree.{Depth, top, Var, Code, code, lit, to, exit, block, start, ◌then◌, words, inside, lines, nowhere, whole_lines}
use Rattle.code.specs.Tree.{plain, back, pool_in}
use Rattle.code.proofs.Tree.{pool_in-append, pool_in-plain}
use Rattle.lowering.specs.declared.RegCache.{RegCache}
use Rattle.lowering.specs.Cache.{empty_cache}
use Rattle.lowering.specs.Steps.{Step, ops_steps, block_steps}
use Rattle.lowering.specs.Fragments.{brk_first, try_region, align_test, map_test, call, exit_imm, chain, ind, check_brk, fork, limit, guard}
use Rattle.lowering.specs.Fragments.{load as load_code, store, step_code, step_cache, steps_code}
use Rattle.bounds.proofs.Cost.{Measure, cost_of, total}
use Rattle.bounds.proofs.Count.{unguarded}

-- 1 if a number stands in a list
abbrev has : ℕ → List ℕ → ℕ
has v [] = 0
has v (x ∷ xs) = pick (eqb v x) 1 (has v xs)

has_le : (v : ℕ) (xs : List ℕ) → has v xs ≤ 1
has_le v [] = omega arith
has_le v (x ∷ xs) = by (eqb v x) (has_le v xs)
  where
    by : (u : Bool) → has v xs ≤ 1 → pick u 1 (has v xs) ≤ 1
    by true h = omega arith
    by false h = h

add-length : (v : ℕ) (xs : List ℕ) → length (add v xs) + has v xs ≡ suc (length xs)
unfolding add
add-length v [] = refl
add-length v (x ∷ xs) = by (eqb v x) (add-length v xs)
  where
    by : (u : Bool) → length (add v xs) + has v xs ≡ suc (length xs) → length (pick u (x ∷ xs) (x ∷ add v xs)) + pick u 1 (has v xs) ≡ suc (suc (length xs))
    by true h = omega arith
    by false h = omega arith

has-added : (v : ℕ) (xs : List ℕ) → has v (add v xs) ≡ 1
unfolding add
has-added v [] = rw (eq-eqb v v refl)
has-added v (x ∷ xs) = by (eqb v x) refl (has-added v xs)
  where
    by : (u : Bool) → eqb v x ≡ u → has v (add v xs) ≡ 1 → has v (pick u (x ∷ xs) (x ∷ add v xs)) ≡ 1
    by true e h = rw e
    by false e h = rw e h

pick_more : (u : Bool) (m n : ℕ) → m ≤ n → pick u 1 m ≤ pick u 1 n
pick_more true m n h = omega arith
pick_more false m n h = h

has_more : (w v : ℕ) (xs : List ℕ) → has w xs ≤ has w (add v xs)
unfolding add
has_more w v [] = omega arith
has_more w v (x ∷ xs) = by (eqb v x) (has_more w v xs)
  where
    by : (u : Bool) → has w xs ≤ has w (add v xs) → has w (x ∷ xs) ≤ has w (pick u (x ∷ xs) (x ∷ add v xs))
    by true h = omega arith
    by false h = pick_more (eqb w x) (has w xs) (has w (add v xs)) h

-- every literal of a code has a property
abbrev Literals : (ℕ → Type 0) → {n : Depth} → Code n → Type 0
Literals P (code is) = Unit {0}
Literals P (lit rt v) = P v
Literals P (to h v) = Unit {0}
Literals P (exit h) = Unit {0}
Literals P (block c) = Literals P c
Literals P (start rd c) = Literals P c
Literals P (c then d) = Literals P c × Literals P d

-- how many of these stand in a list
abbrev standing : List ℕ → List ℕ → ℕ
standing [] ps = 0
standing (v ∷ vs) ps = has v ps + standing vs ps

standing_le : (vs ps : List ℕ) → standing vs ps ≤ length vs
standing_le [] ps = omega arith
standing_le (v ∷ vs) ps = omega (arith, has_le v ps, standing_le vs ps)

standing_more : (vs : List ℕ) (v : ℕ) (ps : List ℕ) → standing vs ps ≤ standing vs (add v ps)
standing_more [] v ps = omega arith
standing_more (w ∷ vs) v ps = omega (arith, has_more w v ps, standing_more vs v ps)

-- one of these more, unless it stands there
standing-added : (vs : List ℕ) (i : ℕ) (ps : List ℕ) → i < length vs
    → suc (standing vs ps) ≤ standing vs (add (get_or vs i 0) ps) + has (get_or vs i 0) ps
standing-added [] i ps h = omega arith
standing-added (v ∷ vs) zero ps h = omega (arith, has-added v ps, standing_more vs v ps)
standing-added (v ∷ vs) (suc i) ps h = omega (arith, has_more v (get_or vs i 0) ps, standing-added vs i ps (omega arith))

module _ (vs : List ℕ) where
  abbrev Few : List ℕ → Type 0
  Few ps = length ps ≤ standing vs ps

  abbrev Keeps : ℕ → Type 0
  Keeps v = (ps : List ℕ) → Few ps → Few (add v ps)

  keeps : (i : ℕ) → i < length vs → Keeps (get_or vs i 0)
  keeps i k ps h = omega (arith, add-length (get_or vs i 0) ps, standing-added vs i ps k)

  few-lines : {n : Depth} (k : Code n) (d : Var n → ℕ) (x : ℕ) (ps : List ℕ) → Literals Keeps k → Few ps → Few (pool_in ps (lines k d x))
  unfolding lines pool_in
  few-lines (code is) d x ps l h = subst Few (sym (pool_in-plain ps is)) h
  few-lines (lit rt v) d x ps l h = l ps h
  few-lines (to t v) d x ps l h = h
  few-lines (exit t) d x ps l h = h
  few-lines (block k) d x ps l h = few-lines k (inside 0 d) x ps l h
  few-lines (start rd k) d x ps l h =
      subst Few (sym (pool_in-append ps (lines k (λ v. suc (d v)) (suc x)) (back rd (words k) ∷ [])))
      (few-lines k (λ v. suc (d v)) (suc x) ps l h)
  few-lines (j then k) d x ps l h =
      subst Few (sym (pool_in-append ps (lines j (λ v. words k + d v) (words k + x)) (lines k d x)))
      (few-lines k d x (pool_in ps (lines j (λ v. words k + d v) (words k + x))) l.1 (few-lines j (λ v. words k + d v) (words k + x) ps l.0 h))

-- ---- the lowering's literals
brk_none : (P : ℕ → Type 0) (n : Depth) (u : Bool) → Literals P (brk_first {n = n} u)
unfolding brk_first
brk_none P n false = tt
brk_none P n true = (tt, tt)

align_none : (P : ℕ → Type 0) (n : Depth) (u : Bool) (w : Width) → Literals P (align_test {n = n} u w)
unfolding align_test
align_none P n u B8 = tt
align_none P n u B16 = tt
align_none P n false B32 = tt
align_none P n true B32 = (tt, tt)

map-none : (P : ℕ → Type 0) (n : Depth) (u : Bool) → Literals P (map_test {n = n} u)
unfolding map_test
map-none P n false = tt
map-none P n true = (tt, tt)

module _ (blk : Block) where
  abbrev addresses : List ℕ
  addresses =
      blk.addresses.h_read ∷ blk.addresses.h_write ∷ blk.addresses.table ∷ blk.guard.at ∷ blk.guard.h_ram_ok ∷ []

  abbrev OneOfFive : ℕ → Type 0
  OneOfFive = Keeps addresses

  guard-literals : (rc : RegCache) (pc : ℕ)
      → Literals OneOfFive (step_code blk rc {n = top} (Step.guard blk.guard.at blk.guard.h_ram_ok pc))
  unfolding step_code guard call exit_imm
  guard-literals rc pc =
      (tt, (keeps addresses 3 (omega arith), (tt, (tt, (tt, ((tt, (keeps addresses 4 (omega arith), tt)), (tt, (tt, tt))))))))

  step-literals : (rc : RegCache) (s : Step) → cost_of s Measure.guards ≡ 0 → Literals OneOfFive (step_code blk rc {n = top} s)
  unfolding step_code call exit_imm chain ind check_brk fork limit load_code store try_region
  step-literals rc (Step.ld_reg t r) z = tt
  step-literals rc (Step.st_reg t r) z = tt
  step-literals rc (Step.ld_field f t) z = tt
  step-literals rc (Step.st_field f t) z = tt
  step-literals rc (Step.mov32 t v) z = tt
  step-literals rc (Step.add_imm d s v) z = tt
  step-literals rc (Step.ins i) z = tt
  step-literals rc (Step.load w signed i) z =
      (((tt, (tt, (tt, tt))), (tt, (tt, (tt, tt)))), (tt, ((tt, (keeps addresses 0 (omega arith), tt)), tt)))
  step-literals rc (Step.store w alone i) z =
      let m = blk.memory.map in
      ((align_none _ _ (alone && m) w, (tt, (tt, (map-none _ _ m, (tt, tt))))), (tt, (tt, (keeps addresses 1 (omega arith), tt))))
  step-literals rc (Step.check_brk glue pc count) z = (tt, (tt, (tt, (tt, tt))))
  step-literals rc (Step.chain pc count) z = (tt, ((tt, tt), (tt, tt)))
  step-literals rc (Step.fork cond pc target count) z = ((tt, (tt, ((tt, tt), (tt, tt)))), (tt, ((tt, tt), (tt, tt))))
  step-literals rc (Step.ind t count brk) z =
      (tt, ((brk_none _ _ brk, (tt, (keeps addresses 2 (omega arith), (tt, (tt, tt))))), (tt, tt)))
  step-literals rc (Step.limit pc count) z = (tt, (tt, (tt, tt)))
  step-literals rc (Step.guard at helper pc) z = absurd (omega arith)

  steps-literals : (rc : RegCache) (ss : List Step) → total ss Measure.guards ≡ 0 → Literals OneOfFive (steps_code blk rc ss)
  unfolding steps_code
  steps-literals rc [] z = tt
  steps-literals rc (s ∷ ss) z = (step-literals rc s (omega arith), steps-literals (step_cache rc s) ss (omega arith))

  block-literals : Checked blk → Literals OneOfFive (steps_code blk empty_cache (block_steps blk))
  unfolding steps_code block_steps step_cache
  block-literals ck =
      let ops : List Step = ops_steps 0 blk.pc0 (ops_of blk) in
      let of-ops = steps-literals empty_cache ops (unguarded blk ck) in
      (step-literals empty_cache (Step.limit blk.pc0 blk.n) refl, by ops of-ops (in_flash blk.pc0))
    where
      by : (ops : List Step) → Literals OneOfFive (steps_code blk empty_cache ops) → (u : Bool)
          → Literals OneOfFive
          (steps_code blk empty_cache (pick u [] (Step.guard blk.guard.at blk.guard.h_ram_ok blk.pc0 ∷ []) ++ ops))
      by ops h true = h
      by ops h false = (guard-literals empty_cache blk.pc0, h)

  pub five : Checked blk → (is end : List Instr)
      → length (pool_in [] (whole_lines (code is then steps_code blk empty_cache (block_steps blk)) end)) ≤ 5
  unfolding whole_lines
  five ck is end =
      let k : Code top = code is then steps_code blk empty_cache (block_steps blk) in
      let ps : List ℕ = pool_in [] (lines k nowhere 0) in
      let few : Few addresses ps = few-lines addresses k nowhere 0 [] (tt, block-literals ck) (omega arith) in
      subst (λ qs. length qs ≤ 5) (sym (pool_in-append [] (lines k nowhere 0) (map plain end) ∙ pool_in-plain ps end))
      (omega (arith, few, standing_le addresses ps))
