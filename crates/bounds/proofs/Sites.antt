-- The chain sites: positions that rise, one target each, two at most.
use mathlib.Core.Path.{◌≡◌, refl, sym, ap, ap₂, subst, ◌∙◌}
use mathlib.Core.Bool.{Bool, true, false, ◌&&◌}
use mathlib.Core.List.{List, [], ◌∷◌, ◌++◌}
use Prim.Native.Nat.{ℕ, suc, ◌+◌, ◌≤◌}
use native.Mathlib.Omega.{arith}
use lib.ListN.{length, length-append}
use Rattle.block.specs.declared.Width.{Width}
use Rattle.block.specs.declared.Width.TheVariants.{Byte as B8, Half as B16, Word as B32}
use Rattle.block.specs.declared.BOp.{BOp}
use Rattle.block.specs.declared.Block.{Block}
use Rattle.block.specs.Block.{ops_of, may_jump, in_flash}
use Rattle.code.specs.Items.{pick, Rise}
use Rattle.code.specs.Tree.{Depth, top, Code, code, lit, to, exit, block, start, ◌then◌, words}
use Rattle.code.proofs.Order.{rise_append}
use Rattle.lowering.specs.declared.RegCache.{RegCache}
use Rattle.lowering.specs.Cache.{empty_cache}
use Rattle.lowering.specs.Steps.{Step, behind, op_steps, ops_steps, guard_steps, block_steps}
use Rattle.lowering.specs.Fragments.{brk_first, try_region, align_test, map_test, call, exit_imm, chain, ind, check_brk, fork, limit, guard}
use Rattle.lowering.specs.Fragments.{load, store, step_code, step_cache, steps_code, opening}
use Rattle.lowering.specs.Compile.{block_code, starts, targets}
use Rattle.lowering.proofs.Targets.{targets-append}
use Rattle.bounds.specs.Whole.{Sited}
use Rattle.bounds.proofs.Cost.{Measure, cost_of, total, total-append}
use Rattle.bounds.proofs.Count.{sites_of, op-few}

-- ---- positions
-- no address is taken
abbrev None : {n : Depth} → Code n → Type 0
None (code is) = Unit {0}
None (lit rt v) = Unit {0}
None (to h v) = Unit {0}
None (exit h) = Unit {0}
None (block c) = None c
None (start rd c) = ⊥
None (c then d) = None c × None d

none_starts : {n : Depth} (c : Code n) (p : ℕ) → None c → starts c p ≡ []
unfolding starts
none_starts (code is) p h = refl
none_starts (lit rt v) p h = refl
none_starts (to k v) p h = refl
none_starts (exit k) p h = refl
none_starts (block c) p h = none_starts c p h
none_starts (start rd c) p h = elim h [ ]
none_starts (c then d) p h = ap₂ ◌++◌ (none_starts c p h.0) (none_starts d (p + words c) h.1)

-- where an address is taken, none is taken inside
abbrev Flat : {n : Depth} → Code n → Type 0
Flat (code is) = Unit {0}
Flat (lit rt v) = Unit {0}
Flat (to h v) = Unit {0}
Flat (exit h) = Unit {0}
Flat (block c) = Flat c
Flat (start rd c) = None c
Flat (c then d) = Flat c × Flat d

flat_rise : {n : Depth} (c : Code n) (p : ℕ) → Flat c → Rise p (p + words c) (starts c p)
unfolding starts words
flat_rise (code is) p h = omega arith
flat_rise (lit rt v) p h = omega arith
flat_rise (to k v) p h = omega arith
flat_rise (exit k) p h = omega arith
flat_rise (block c) p h = flat_rise c p h
flat_rise (start rd c) p h = (omega arith, subst (λ xs. Rise (suc p) (p + suc (words c)) xs) (sym (none_starts c p h)) (omega arith))
flat_rise (c then d) p h =
    rise_append p (p + words c) (p + (words c + words d)) (starts c p) (starts d (p + words c)) (flat_rise c p h.0)
    (subst (λ q. Rise (p + words c) q (starts d (p + words c))) (omega arith) (flat_rise d (p + words c) h.1))

-- ---- the fragments
flat-brk : (n : Depth) (u : Bool) → None (brk_first {n = n} u)
unfolding brk_first
flat-brk n false = tt
flat-brk n true = (tt, tt)

flat_align : (n : Depth) (u : Bool) (w : Width) → None (align_test {n = n} u w)
unfolding align_test
flat_align n u B8 = tt
flat_align n u B16 = tt
flat_align n false B32 = tt
flat_align n true B32 = (tt, tt)

flat_map : (n : Depth) (u : Bool) → None (map_test {n = n} u)
unfolding map_test
flat_map n false = tt
flat_map n true = (tt, tt)

none_flat : {n : Depth} (c : Code n) → None c → Flat c
none_flat (code is) h = tt
none_flat (lit rt v) h = tt
none_flat (to k v) h = tt
none_flat (exit k) h = tt
none_flat (block c) h = none_flat c h
none_flat (start rd c) h = elim h [ ]
none_flat (c then d) h = (none_flat c h.0, none_flat d h.1)

-- a step's addresses: as many as its targets
pub record Sites (s : Step) {n : Depth} (c : Code n) : Type 0 where
  pub flat : Flat c
  pub many : (p : ℕ) → length (starts c p) ≡ cost_of s Measure.sites
  pub aims : length (targets (s ∷ [])) ≡ cost_of s Measure.sites

none_here : (s : Step) {n : Depth} (c : Code n) → length (targets (s ∷ [])) ≡ 0 → cost_of s Measure.sites ≡ 0 → None c
    → Sites s c
none_here s c e z h = record { flat = none_flat c h; many = λ p. ap length (none_starts c p h) ∙ sym z; aims = e ∙ sym z }

store_none : (w : Width) (alone : Bool) (i : ℕ) → cost_of (Step.store w alone i) Measure.sites ≡ 0
store_none w true i = refl
store_none w false i = refl

module _ (blk : Block) (rc : RegCache) where
  step-sites : (s : Step) → Sites s (step_code blk rc {n = top} s)
  unfolding step_code call exit_imm chain ind check_brk fork limit guard load store try_region starts
  step-sites (Step.ld_reg t r) = none_here _ _ refl refl tt
  step-sites (Step.st_reg t r) = none_here _ _ refl refl tt
  step-sites (Step.ld_field f t) = none_here _ _ refl refl tt
  step-sites (Step.st_field f t) = none_here _ _ refl refl tt
  step-sites (Step.mov32 t v) = none_here _ _ refl refl tt
  step-sites (Step.add_imm d s v) = none_here _ _ refl refl tt
  step-sites (Step.ins i) = none_here _ _ refl refl tt
  step-sites (Step.load w signed i) = none_here _ _ refl refl (((tt, (tt, (tt, tt))), (tt, (tt, (tt, tt)))), (tt, ((tt, (tt, tt)), tt)))
  step-sites (Step.store w alone i) =
      let m = blk.memory.map in
      none_here _ _ refl (store_none w alone i)
      ((flat_align _ (alone && m) w, (tt, (tt, (flat_map _ m, (tt, tt))))), (tt, (tt, (tt, tt))))
  step-sites (Step.check_brk glue pc count) = none_here _ _ refl refl (tt, (tt, (tt, (tt, tt))))
  step-sites (Step.chain pc count) = record { flat = (tt, ((tt, tt), (tt, tt))); many = λ p. refl; aims = refl }
  step-sites (Step.fork cond pc target count) =
      record { flat = ((tt, (tt, ((tt, tt), (tt, tt)))), (tt, ((tt, tt), (tt, tt)))); many = λ p. refl; aims = refl }
  step-sites (Step.ind t count brk) = none_here _ _ refl refl (tt, ((flat-brk _ brk, (tt, (tt, (tt, (tt, tt))))), (tt, tt)))
  step-sites (Step.limit pc count) = none_here _ _ refl refl (tt, (tt, (tt, tt)))
  step-sites (Step.guard at helper pc) =
      none_here _ _ refl refl (tt, (tt, (tt, (tt, (tt, ((tt, (tt, tt)), (tt, (tt, tt))))))))

steps-flat : (blk : Block) (rc : RegCache) (ss : List Step) → Flat (steps_code blk rc ss)
unfolding steps_code
steps-flat blk rc [] = tt
steps-flat blk rc (s ∷ ss) = ((step-sites blk rc s).flat, steps-flat blk (step_cache rc s) ss)

steps-many : (blk : Block) (rc : RegCache) (ss : List Step) (p : ℕ) → length (starts (steps_code blk rc ss) p) ≡ total ss Measure.sites
unfolding steps_code starts
steps-many blk rc [] p = refl
steps-many blk rc (s ∷ ss) p =
    length-append (starts (step_code blk rc s) p) _
    ∙ ap₂ ◌+◌ ((step-sites blk rc s).many p) (steps-many blk (step_cache rc s) ss (p + words (step_code blk rc {n = top} s)))

steps-aims : (blk : Block) (ss : List Step) → length (targets ss) ≡ total ss Measure.sites
steps-aims blk [] = refl
steps-aims blk (s ∷ ss) =
    ap length (targets-append (s ∷ []) ss)
    ∙ length-append (targets (s ∷ [])) (targets ss)
    ∙ ap₂ ◌+◌ (step-sites blk empty_cache s).aims (steps-aims blk ss)

-- ---- at most two: a jump's own, or those behind an operation that does not jump
by_jump : (u : Bool) (rest : List Step) (n : ℕ) → n ≤ sites_of u → total rest Measure.sites ≤ 2
    → n + total (pick u [] rest) Measure.sites ≤ 2
by_jump true rest n h k = omega arith
by_jump false rest n h k = omega arith

ops_two : (i pc : ℕ) (os : List BOp) → total (ops_steps i pc os) Measure.sites ≤ 2
unfolding ops_steps
ops_two i pc [] = omega arith
ops_two i pc (o ∷ os) =
    let next = behind pc o in
    let op = op_steps o i next in
    let h = by_jump (may_jump o.fast) (ops_steps (i + 1) next os) _ (op-few o i next).sites (ops_two (i + 1) next os) in
    omega (arith, total-append op (pick (may_jump o.fast) [] (ops_steps (i + 1) next os)) Measure.sites, h)

code-flat : (blk : Block) → Flat (block_code blk)
unfolding block_code
code-flat blk = (tt, steps-flat blk empty_cache (block_steps blk))

code-many : (blk : Block) → length (starts (block_code blk) 0) ≡ length (targets (block_steps blk))
unfolding block_code starts words
code-many blk = steps-many blk empty_cache (block_steps blk) (0 + length opening) ∙ sym (steps-aims blk (block_steps blk))

guard_none : (u : Bool) (at helper pc : ℕ) → total (pick u [] (Step.guard at helper pc ∷ [])) Measure.sites ≡ 0
guard_none true at helper pc = refl
guard_none false at helper pc = refl

block_two : (blk : Block) → length (targets (block_steps blk)) ≤ 2
unfolding block_steps
block_two blk =
    let ops : List Step = ops_steps 0 blk.pc0 (ops_of blk) in
    omega (
      arith,
      steps-aims blk (block_steps blk),
      total-append (guard_steps blk) ops Measure.sites,
      guard_none (in_flash blk.pc0) blk.guard.at blk.guard.h_ram_ok blk.pc0,
      ops_two 0 blk.pc0 (ops_of blk),
    )

steps_rise : (blk : Block) → Rise 0 (words (block_code blk)) (starts (block_code blk) 0)
steps_rise blk = subst (λ q. Rise 0 q (starts (block_code blk) 0)) (omega arith) (flat_rise (block_code blk) 0 (code-flat blk))

pub sited : (blk : Block) → Sited blk
sited blk = record { rising = steps_rise blk; all = code-many blk; two = block_two blk }
