-- A BLOCK'S WORDS ARE THOSE BY THE RUST'S STAMPS, of so many steps as the clock can count. The two caches stay tied (Recency.antt) from
-- step to step, and a step's code asks of a cache what is held, what is marked and, where no slot is free, which one to give up. Assumes
-- nothing.
use mathlib.Core.Path.{◌≡◌, refl, sym, ap, ap₂, ◌∙◌}
use mathlib.Core.Bool.{Bool, true, false}
use mathlib.Core.List.{List, [], ◌∷◌}
use Prim.Native.Nat.{ℕ, ◌+◌, ◌%◌, ◌^◌, ◌<◌, ◌≤◌}
use native.Mathlib.Omega.{arith}
use lib.ListN.{length, get_or}
use Rattle.block.specs.declared.Layout.{Layout}
use Rattle.block.specs.declared.Block.{Block}
use Rattle.code.specs.Items.{pick}
use Rattle.code.specs.Tree.{top, code, ◌then◌, lines_words, whole_lines}
use Rattle.lowering.specs.declared.RegCache.{RegCache}
use Rattle.lowering.specs.Instrs.{CPU, str}
use Rattle.lowering.specs.Cache.{host, off_reg, FREE, empty_cache, position, is_held, oldest, chosen, slot_for}
use Rattle.lowering.specs.Cache.{spill, ld_reg, st_reg, flush, reload}
use Rattle.lowering.specs.Steps.{Step, block_steps}
use Rattle.lowering.specs.Fragments.{load, store, call, check_brk, hold, chain, fork, ind, limit, guard, exit_imm}
use Rattle.lowering.specs.Fragments.{step_code, step_cache, steps_code, opening, closing}
use Rattle.lowering.specs.Compile.{block_code, block_lines, block_words}
use Rattle.lowering.specs.Stamps.{Stamps, empty_stamps, oldest_stamp, behind_all, uses, uses_of, asked, stamped_code, stamped_words}
use Rattle.lowering.specs.Recency.{SameWords}
use Rattle.lowering.proofs.Recency.{Tied, same_oldest, tied_all, tied_empty}

-- ---- two caches that answer alike
record AnswersAlike (rc rc' : RegCache) : Type 0 where
  guests : rc.guest ≡ rc'.guest
  dirties : rc.dirty ≡ rc'.dirty
  given_up : is_held rc' FREE ≡ false → oldest rc ≡ oldest rc'

module _ {rc rc' : RegCache} (a : AnswersAlike rc rc') (lay : Layout) where
  full : {A : Type 0} (x : A) (f : ℕ → A) → pick (is_held rc FREE) x (f (oldest rc)) ≡ pick (is_held rc' FREE) x (f (oldest rc'))
  full x f = by (is_held rc' FREE) refl
    where
      by : (b : Bool) → is_held rc' FREE ≡ b → pick (is_held rc FREE) x (f (oldest rc)) ≡ pick (is_held rc' FREE) x (f (oldest rc'))
      by true e = rw (a.guests, e)
      by false e = rw (a.given_up e, a.guests)

  chosen-like : chosen rc ≡ chosen rc'
  unfolding chosen
  chosen-like = full (position FREE rc.guest) (λ i. i) ∙ rw a.guests

  spill-like : spill lay rc ≡ spill lay rc'
  unfolding spill
  spill-like =
      full [] (λ i. pick (get_or rc.dirty i false) (str (host i) CPU (off_reg lay (get_or rc.guest i 0)) ∷ []) [])
      ∙ rw (a.guests, a.dirties)

  slot_for-like : (r : ℕ) → slot_for rc r ≡ slot_for rc' r
  unfolding slot_for
  slot_for-like r = rw (chosen-like, a.guests)

  ld_reg-like : (t r : ℕ) → ld_reg lay rc t r ≡ ld_reg lay rc' t r
  unfolding ld_reg
  ld_reg-like t r = rw (spill-like, slot_for-like r, chosen-like, a.guests)

  st_reg-like : (t r : ℕ) → st_reg lay rc t r ≡ st_reg lay rc' t r
  unfolding st_reg
  st_reg-like t r = rw (spill-like, slot_for-like r, a.guests)

  flush-like : flush lay rc ≡ flush lay rc'
  unfolding flush
  flush-like = rw (a.guests, a.dirties)

  reload-like : reload lay rc ≡ reload lay rc'
  unfolding reload
  reload-like = rw a.guests

module _ (blk : Block) {rc rc' : RegCache} (a : AnswersAlike rc rc') where
  abbrev stores : flush blk.layout rc ≡ flush blk.layout rc'
  stores = flush-like a blk.layout

  abbrev loads : reload blk.layout rc ≡ reload blk.layout rc'
  loads = reload-like a blk.layout

  step-like : (s : Step) → step_code blk rc {n = top} s ≡ step_code blk rc' {n = top} s
  unfolding step_code load store call check_brk hold chain fork ind limit guard exit_imm
  step-like (Step.ld_reg t r) = ap code (ld_reg-like a blk.layout t r)
  step-like (Step.st_reg t r) = ap code (st_reg-like a blk.layout t r)
  step-like (Step.ld_field f t) = refl
  step-like (Step.st_field f t) = refl
  step-like (Step.mov32 t v) = refl
  step-like (Step.add_imm d s v) = refl
  step-like (Step.ins i) = refl
  step-like (Step.load w signed i) = rw (stores, loads)
  step-like (Step.store w alone i) = rw (stores, loads)
  step-like (Step.check_brk true pc n) = rw stores
  step-like (Step.check_brk false pc n) = rw stores
  step-like (Step.chain pc n) = rw stores
  step-like (Step.fork c pc target n) = rw stores
  step-like (Step.ind t n brk) = rw stores
  step-like (Step.limit pc n) = rw stores
  step-like (Step.guard at helper pc) = rw (stores, loads)

-- ---- a step's uses
step-uses : (s : Step) → uses (uses_of s) ≤ 1
step-uses (Step.ld_reg t r) = omega arith
step-uses (Step.st_reg t r) = omega arith
step-uses (Step.ld_field f t) = omega arith
step-uses (Step.st_field f t) = omega arith
step-uses (Step.mov32 t v) = omega arith
step-uses (Step.add_imm d s v) = omega arith
step-uses (Step.ins i) = omega arith
step-uses (Step.load w signed i) = omega arith
step-uses (Step.store w alone i) = omega arith
step-uses (Step.check_brk glue pc n) = omega arith
step-uses (Step.chain pc n) = omega arith
step-uses (Step.fork c pc target n) = omega arith
step-uses (Step.ind t n brk) = omega arith
step-uses (Step.limit pc n) = omega arith
step-uses (Step.guard at helper pc) = omega arith

step-behind : (rc : RegCache) (s : Step) → step_cache rc s ≡ behind_all (uses_of s) rc
unfolding step_cache behind_all
step-behind rc (Step.ld_reg t r) = refl
step-behind rc (Step.st_reg t r) = refl
step-behind rc (Step.ld_field f t) = refl
step-behind rc (Step.st_field f t) = refl
step-behind rc (Step.mov32 t v) = refl
step-behind rc (Step.add_imm d s v) = refl
step-behind rc (Step.ins i) = refl
step-behind rc (Step.load w signed i) = refl
step-behind rc (Step.store w alone i) = refl
step-behind rc (Step.check_brk glue pc n) = refl
step-behind rc (Step.chain pc n) = refl
step-behind rc (Step.fork c pc target n) = refl
step-behind rc (Step.ind t n brk) = refl
step-behind rc (Step.limit pc n) = refl
step-behind rc (Step.guard at helper pc) = refl

-- ---- tied caches answer alike, step by step
asked-alike : {n : ℕ} {st : Stamps} {rc : RegCache} → Tied n st rc → n < 2 ^ 32 → AnswersAlike (asked st) rc
unfolding oldest
asked-alike {n} {st} {rc} t b =
    record {
      guests = sym t.guests;
      dirties = sym t.dirties;
      given_up = λ e. let o : get_or rc.order 0 0 % 8 ≡ oldest_stamp st = same_oldest t b e in omega arith;
    }

same_code : (blk : Block) (ss : List Step) (n : ℕ) (st : Stamps) (rc : RegCache) → n + length ss < 2 ^ 32 → Tied n st rc
    → stamped_code blk st ss ≡ steps_code blk rc ss
unfolding stamped_code steps_code
same_code blk [] n st rc b t = refl
same_code blk (s ∷ ss) n st rc b t =
    rw (step-behind rc s)
    (ap₂ (λ c d. c then d) (step-like blk (asked-alike t (omega arith)) s)
    (same_code blk ss (n + uses (uses_of s)) _ _ (omega (arith, step-uses s)) (tied_all (uses_of s) n st rc (omega (arith, step-uses s)) t)))

pub same_words : (blk : Block) → length (block_steps blk) < 2 ^ 32 → SameWords blk
unfolding stamped_words block_words block_lines block_code
same_words blk b =
    ap (λ c. lines_words (whole_lines (code opening then c) closing))
    (same_code blk (block_steps blk) 0 empty_stamps empty_cache (omega arith) tied_empty)
