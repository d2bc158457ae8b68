-- Lists of steps: one behind another, and what a list leaves.
use mathlib.Core.Path.{◌≡◌, refl, sym, ap, ap₂, ◌∙◌}
use mathlib.Core.Bool.{Bool, true, false}
use mathlib.Core.List.{List, [], ◌∷◌, ◌++◌, append_assoc, append-nil}
use Prim.Native.Nat.{ℕ, zero, suc}
use lib.ListN.{take}
use Rattle.std.specs.Borrow.{GName}
use Rattle.block.specs.declared.Block.{Block}
use Rattle.block.specs.declared.Width.{Width}
use Rattle.block.specs.declared.Width.TheVariants.{Byte as B8, Half as B16, Word as B32}
use Rattle.code.specs.Tree.{Depth, top, under, Var, Code, ◌then◌, nowhere}
use Rattle.lowering.specs.declared.RegCache.{RegCache}
use Rattle.lowering.specs.Steps.{Step}
use Rattle.lowering.specs.Fragments.{align_test, map_test, try_region, brk_first, call, exit_imm, chain, ind, hold, check_brk, fork, limit, guard, load, store}
use Rattle.lowering.specs.Fragments.{step_code, step_cache, steps_code}
use Rattle.lowering.specs.Given.{given}
use Rattle.lowering.specs.Compile.{targets}
use Rattle.lowering.proofs.Targets.{targets-append}
use Rattle.asm.specs.State.{State}
use Rattle.emission.specs.Total.{after_t, starts_t}
use Rattle.emission.proofs.After.{none, code-after, then-after}
use Rattle.stepping.specs.Behind.{cache_behind}
use Rattle.stepping.specs.Done.{kept, Generated, step_done, steps_done}

-- ---- of the block, the code of steps reads the layout, the memory and the addresses
module _ (blk : Block) where
  abbrev fields : Block
  fields = given blk.layout blk.memory blk.addresses

  pub given-step : {n : Depth} (rc : RegCache) (s : Step) → step_code blk rc {n = n} s ≡ step_code fields rc s
  unfolding call exit_imm chain ind hold check_brk fork limit guard load store step_code
  given-step rc _ = refl

  pub given-steps : (rc : RegCache) (ss : List Step) → steps_code blk rc ss ≡ steps_code fields rc ss
  unfolding steps_code
  given-steps rc [] = refl
  given-steps rc (s ∷ ss) = ap₂ ◌then◌ (given-step rc s) (given-steps (step_cache rc s) ss)

-- ---- these steps and then those
pub cache-append : (rc : RegCache) (xs ys : List Step) → cache_behind rc (xs ++ ys) ≡ cache_behind (cache_behind rc xs) ys
unfolding cache_behind
cache-append rc [] ys = refl
cache-append rc (x ∷ xs) ys = cache-append (step_cache rc x) xs ys

pub steps_append : (xs ys : List Step) (s : Generated) → steps_done (xs ++ ys) s ≡ steps_done ys (steps_done xs s)
unfolding steps_done
steps_append [] ys s = refl
steps_append (x ∷ xs) ys s = steps_append xs ys (step_done x s)

-- ---- their code and its starts, all of them
then_is : (c d : Code top) (s : State) → after_t (c then d) nowhere 0 s ≡ after_t d nowhere 0 (after_t c nowhere 0 s)
then_is c d s = sym (then-after nowhere 0 c d s (after_t c nowhere 0 s) (after_t d nowhere 0 (after_t c nowhere 0 s)) refl refl)

module _ (blk : Block) where
  steps_then : (rc : RegCache) (xs ys : List Step) (s : State) → after_t (steps_code blk rc (xs ++ ys)) nowhere 0 s ≡ after_t (steps_code blk (cache_behind rc xs) ys) nowhere 0 (after_t (steps_code blk rc xs) nowhere 0 s)
  unfolding steps_code cache_behind
  steps_then rc [] ys s = ap (after_t (steps_code blk rc ys) nowhere 0) (code-after nowhere 0 [] s s (none s))
  steps_then rc (x ∷ xs) ys s =
      let m : State = after_t (step_code blk rc x) nowhere 0 s in
      then_is (step_code blk rc x) (steps_code blk (step_cache rc x) (xs ++ ys)) s ∙ steps_then (step_cache rc x) xs ys m
      ∙ ap (after_t (steps_code blk (cache_behind (step_cache rc x) xs) ys) nowhere 0) (sym (then_is (step_code blk rc x) (steps_code blk (step_cache rc x) xs) s))

  starts-then : (rc : RegCache) (xs ys : List Step) (s : State) → starts_t (steps_code blk rc (xs ++ ys)) nowhere 0 s ≡ starts_t (steps_code blk rc xs) nowhere 0 s ++ starts_t (steps_code blk (cache_behind rc xs) ys) nowhere 0 (after_t (steps_code blk rc xs) nowhere 0 s)
  unfolding steps_code cache_behind starts_t
  starts-then rc [] ys s = ap (starts_t (steps_code blk rc ys) nowhere 0) (code-after nowhere 0 [] s s (none s))
  starts-then rc (x ∷ xs) ys s =
      let m : State = after_t (step_code blk rc x) nowhere 0 s in
      ap (λ l. starts_t (step_code blk rc x) nowhere 0 s ++ l)
      (starts-then (step_cache rc x) xs ys m
      ∙ ap (λ t. starts_t (steps_code blk (step_cache rc x) xs) nowhere 0 m ++ starts_t (steps_code blk (cache_behind (step_cache rc x) xs) ys) nowhere 0 t) (sym (then_is (step_code blk rc x) (steps_code blk (step_cache rc x) xs) s)))
      ∙ sym (append_assoc (starts_t (step_code blk rc x) nowhere 0 s) _ _)

  pub steps-after : (rc : RegCache) (xs ys : List Step) (s s₁ s₂ : State) → s₁ ≡ after_t (steps_code blk rc xs) nowhere 0 s → s₂ ≡ after_t (steps_code blk (cache_behind rc xs) ys) nowhere 0 s₁ → s₂ ≡ after_t (steps_code blk rc (xs ++ ys)) nowhere 0 s
  steps-after rc xs ys s s₁ s₂ p q = q ∙ ap (after_t (steps_code blk (cache_behind rc xs) ys) nowhere 0) p ∙ sym (steps_then rc xs ys s)

  pub steps-starts : (rc : RegCache) (xs ys : List Step) (s s₁ : State) → s₁ ≡ after_t (steps_code blk rc xs) nowhere 0 s → starts_t (steps_code blk rc (xs ++ ys)) nowhere 0 s ≡ starts_t (steps_code blk rc xs) nowhere 0 s ++ starts_t (steps_code blk (cache_behind rc xs) ys) nowhere 0 s₁
  steps-starts rc xs ys s s₁ p = starts-then rc xs ys s ∙ ap (λ t. starts_t (steps_code blk rc xs) nowhere 0 s ++ starts_t (steps_code blk (cache_behind rc xs) ys) nowhere 0 t) (sym p)

-- ---- of what is kept, no more than two
take-kept : (n : ℕ) (xs ys : List ℕ) → take n (take n xs ++ ys) ≡ take n (xs ++ ys)
take-kept zero xs ys = refl
take-kept (suc n) [] ys = refl
take-kept (suc n) (x ∷ xs) ys = ap (λ l. x ∷ l) (take-kept n xs ys)

pub kept_kept : (ps xs ys : List ℕ) → kept (kept ps xs) ys ≡ kept ps (xs ++ ys)
unfolding kept
kept_kept ps [] ys = refl
kept_kept ps (x ∷ xs) [] = ap (λ l. take 2 (ps ++ (x ∷ l))) (sym (append-nil xs))
kept_kept ps (x ∷ xs) (y ∷ ys) = take-kept 2 (ps ++ (x ∷ xs)) (y ∷ ys) ∙ ap (take 2) (append_assoc ps (x ∷ xs) (y ∷ ys))

-- ---- a step that goes on at no fixed address has no site
align_starts : {n : Depth} (u : Bool) (w : Width) (e : Var (under n) → ℕ) (x : ℕ) (s : State) → starts_t (align_test {n = n} u w) e x s ≡ []
unfolding starts_t align_test
align_starts true B32 e x s = refl
align_starts false B32 e x s = refl
align_starts _ B16 e x s = refl
align_starts _ B8 e x s = refl

map-starts : {n : Depth} (u : Bool) (e : Var (under n) → ℕ) (x : ℕ) (s : State) → starts_t (map_test {n = n} u) e x s ≡ []
unfolding starts_t map_test
map-starts false e x s = refl
map-starts true e x s = refl

module _ (blk : Block) (rc : RegCache) {n : Depth} (v : Var n → ℕ) (k : ℕ) (s : State) where
  pub no_start : (x : Step) → targets (x ∷ []) ≡ [] → starts_t (step_code blk rc {n = n} x) v k s ≡ []
  unfolding starts_t step_code load try_region store ind brk_first check_brk limit guard call exit_imm
  no_start (Step.store w alone i) e = simp (align_starts, map-starts)
  no_start (Step.chain pc count) e = cc
  no_start (Step.fork cond pc target count) e = cc
  no_start (Step.ind t count true) e = refl
  no_start (Step.ind t count false) e = refl
  no_start _ e = refl

-- then it adds code alone
abbrev pub code_done : Step → Generated → Generated
code_done x s =
    record {
      code = after_t (step_code s.given s.cache x) nowhere 0 s.code;
      words = s.words;
      table = s.table;
      given = s.given;
      cache = step_cache s.cache x;
      ats = s.ats;
      targets = s.targets;
    }

pub still_done : (x : Step) (s : Generated) → targets (x ∷ []) ≡ [] → step_done x s ≡ code_done x s
unfolding step_done kept
still_done x s e = ap₂ (λ ps ts. record (code_done x s) { ats = kept s.ats ps; targets = kept s.targets ts }) (no_start s.given s.cache nowhere 0 s.code x e) e

-- ---- WHAT A LIST OF STEPS LEAVES
module _ (w t : GName) (blk : Block) where
  abbrev pub with : State → RegCache → (ats targets : List ℕ) → Generated
  with s rc ps ts = record { code = s; words = w; table = t; given = blk; cache = rc; ats = ps; targets = ts }

  abbrev pub left : List Step → State → RegCache → (ats targets : List ℕ) → Generated
  left xs s rc ps ts =
      let c = steps_code blk rc xs in
      with (after_t c nowhere 0 s) (cache_behind rc xs) (kept ps (starts_t c nowhere 0 s)) (kept ts (targets xs))

  pub done_is : (xs : List Step) (s : State) (rc : RegCache) (ps ts : List ℕ) → steps_done xs (with s rc ps ts) ≡ left xs s rc ps ts
  unfolding steps_done step_done steps_code cache_behind starts_t kept
  done_is [] s rc ps ts = ap (λ u. with u rc ps ts) (code-after nowhere 0 [] s s (none s))
  done_is (x ∷ xs) s rc ps ts =
      let c : Code top = step_code blk rc x in
      let r : RegCache = step_cache rc x in
      let d : Code top = steps_code blk r xs in
      let u : State = after_t c nowhere 0 s in
      let p = kept_kept ps (starts_t c nowhere 0 s) (starts_t d nowhere 0 u) in
      let q = kept_kept ts (targets (x ∷ [])) (targets xs) ∙ ap (kept ts) (sym (targets-append (x ∷ []) xs)) in
      done_is xs u r (kept ps (starts_t c nowhere 0 s)) (kept ts (targets (x ∷ [])))
      ∙ ap₂ (λ ls ms. with (after_t d nowhere 0 u) (cache_behind r xs) ls ms) p q
      ∙ ap (λ v. with v (cache_behind r xs) (kept ps (starts_t (c then d) nowhere 0 s)) (kept ts (targets (x ∷ xs)))) (then-after nowhere 0 c d s u _ refl refl)
