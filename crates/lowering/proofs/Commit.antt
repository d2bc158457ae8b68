-- A block's code is the commit's with the tests of 2026-04 added (specs/Commit.antt). Assumes nothing.
use mathlib.Core.Path.{◌≡◌, refl, sym, subst, ap, ap₂, ◌∙◌}
use mathlib.Core.Bool.{Bool, true, false, ◌&&◌}
use mathlib.Core.List.{List, [], ◌∷◌, ◌++◌, map, reverse}
use Prim.Native.Nat.{ℕ, suc, ◌+◌, ◌*◌, ◌%◌}
use native.Mathlib.Omega.{arith}
use lib.Dec.{eqb}
use lib.ListN.{length}
use Rattle.arm.specs.declared.Instr.{Instr}
use Rattle.arm.specs.Instr.{encode}
use Rattle.block.specs.declared.Width.{Width}
use Rattle.block.specs.declared.Width.TheVariants.{Byte as B8, Half as B16, Word as B32}
use Rattle.block.specs.declared.Block.{Block}
use Rattle.block.specs.declared.Base.{Base}
use Rattle.block.specs.declared.Base.TheVariants.{Reg, Sp}
use Rattle.block.specs.declared.Amount.{Amount}
use Rattle.block.specs.declared.Amount.TheVariants.{Reg as ByReg, Inc as ByInc}
use Rattle.block.specs.declared.Rk.{Rk}
use Rattle.block.specs.declared.Rk.TheVariants.{Reg as RkReg, Imm as RkImm, Bit as RkBit}
use Rattle.block.specs.declared.RmwOp.{RmwOp}
use Rattle.block.specs.declared.RmwOp.TheVariants.{Or as RmwOr, And as RmwAnd, Xor as RmwXor, Add as RmwAdd, Sub as RmwSub, Mov as RmwMov}
use Rattle.block.specs.Block.{members, span, saved, pair_of}
use Rattle.code.specs.Items.{pick, pad_of}
use Rattle.code.specs.Tree.{Depth, top, under, Var, Code, code, block, ◌then◌, words, labels, jumps, Line, plain, lines, nowhere}
use Rattle.code.specs.Tree.{whole_lines, pool_in, lines_words}
use Rattle.code.proofs.Tree.{pool_in-append, pool_same, whole-size, whole_length}
use Rattle.code.proofs.Fetch.{words-length}
use Rattle.lowering.specs.declared.RegCache.{RegCache}
use Rattle.lowering.specs.Instrs.{KEEP, KEEP2, mov}
use Rattle.lowering.specs.Cache.{empty_cache}
use Rattle.lowering.specs.Steps.{Step, base, rhs, advance, combined, rmw_value, lowered, move_words, move_base, pop, push_all, pop_all}
use Rattle.lowering.specs.Steps.{block_steps}
use Rattle.lowering.specs.Fragments.{align_test, store, step_code, step_cache, steps_code, closing}
use Rattle.lowering.specs.Compile.{block_code, block_lines, block_words, starts, targets, zip_sites, sites}
use Rattle.lowering.specs.Commit.{commit_step, commit_code, commit_lines, commit_words, commit_sites, Adds, same, tests, both, is_word}
use Rattle.lowering.specs.Commit.{word_store, tested, all_tested, Counts, AsCommit, Departs}
use Rattle.lowering.proofs.Targets.{targets-append}

-- ---- what is added counts
more_words : {n : Depth} {k : ℕ} {c d : Code n} → Adds n k c d → words d ≡ words c + 2 * k
unfolding words
more_words (same c) = omega arith
more_words (tests e f) = omega arith
more_words (both a b) = omega (arith, more_words a, more_words b)

more_jumps : {n : Depth} {k : ℕ} {c d : Code n} → Adds n k c d → jumps d ≡ jumps c + 2 * k
unfolding jumps
more_jumps (same c) = omega arith
more_jumps (tests e f) = omega arith
more_jumps (both a b) = omega (arith, more_jumps a, more_jumps b)

same_labels : {n : Depth} {k : ℕ} {c d : Code n} → Adds n k c d → labels d ≡ labels c
unfolding labels
same_labels (same c) = refl
same_labels (tests e f) = refl
same_labels (both a b) = omega (arith, same_labels a, same_labels b)

none_added : {n : Depth} {k : ℕ} {c d : Code n} → Adds n k c d → k ≡ 0 → d ≡ c
none_added (same c) e = refl
none_added (tests f g) e = absurd (omega arith)
none_added (both a b) e = ap₂ ◌then◌ (none_added a (omega arith)) (none_added b (omega arith))

-- ---- the pool and the length
-- a literal's load knows no distance
one_pool : {n : Depth} (ps : List ℕ) (c : Code n) (e f : Var n → ℕ) (x y : ℕ) → pool_in ps (lines c e x) ≡ pool_in ps (lines c f y)
one_pool ps c e f x y = sym (pool_same ps c (λ v. 0) 0 0 e x) ∙ pool_same ps c (λ v. 0) 0 0 f y

same_pool : {n : Depth} {k : ℕ} {c d : Code n} → Adds n k c d → (ps : List ℕ) (e f : Var n → ℕ) (x y : ℕ)
    → pool_in ps (lines d e x) ≡ pool_in ps (lines c f y)
unfolding lines pool_in
same_pool (same c) ps e f x y = one_pool ps c e f x y
same_pool (tests a b) ps e f x y = one_pool ps (block (block (code [] then a) then b)) e f x y
same_pool (both {c₁ = c₁} {d₁ = d₁} {c₂ = c₂} {d₂ = d₂} a b) ps e f x y =
    let d₃ : List Line = lines d₁ (λ v. words d₂ + e v) (words d₂ + x) in
    let c₃ : List Line = lines c₁ (λ v. words c₂ + f v) (words c₂ + y) in
    pool_in-append ps d₃ (lines d₂ e x) ∙ same_pool b (pool_in ps d₃) e f x y
    ∙ ap (λ qs. pool_in qs (lines c₂ f y)) (same_pool a ps _ _ _ _) ∙ sym (pool_in-append ps c₃ (lines c₂ f y))

whole_same_pool : {k : ℕ} {c d : Code top} → Adds top k c d → (end : List Instr)
    → pool_in [] (whole_lines d end) ≡ pool_in [] (whole_lines c end)
unfolding whole_lines
whole_same_pool {c = c} {d = d} a end =
    pool_in-append [] (lines d nowhere 0) (map plain end)
    ∙ ap (λ qs. pool_in qs (map plain end)) (same_pool a [] nowhere nowhere 0 0)
    ∙ sym (pool_in-append [] (lines c nowhere 0) (map plain end))

-- two words a store leave the pool's place even or odd, as it was
same_pad : (n k : ℕ) (ps : List ℕ) → pad_of (n + 2 * k) ps ≡ pad_of n ps
unfolding pad_of
same_pad n k [] = refl
same_pad n k (v ∷ vs) = ap (λ m. pick (eqb m 0) [] (encode Instr.Nop ∷ [])) (let z : (n + 2 * k) % 2 ≡ n % 2 = omega arith in z)

more_length : {k : ℕ} {c d : Code top} → Adds top k c d → (end : List Instr)
    → length (lines_words (whole_lines d end)) ≡ length (lines_words (whole_lines c end)) + 2 * k
more_length {k} {c} {d} a end =
    let ds : List Line = whole_lines d end in
    let cs : List Line = whole_lines c end in
    let pool : pool_in [] ds ≡ pool_in [] cs = whole_same_pool a end in
    let size-c : length cs ≡ words c + length end = sym (whole_length c end) ∙ whole-size c end in
    let size-d : length ds ≡ words d + length end = sym (whole_length d end) ∙ whole-size d end in
    let size : length ds ≡ length cs + 2 * k = omega (arith, more_words a, size-c, size-d) in
    let pad : pad_of (length ds) (pool_in [] ds) ≡ pad_of (length cs) (pool_in [] cs) =
    ap₂ pad_of size pool ∙ same_pad (length cs) k (pool_in [] cs) in
    omega (arith, words-length ds, words-length cs, size, ap length pad, ap length pool)

-- ---- a step, the steps, the block
-- with the same code before
last_adds : {n : Depth} {k : ℕ} {c d : Code n} (e : Code n) → Adds n k c d → Adds n k (e then c) (e then d)
last_adds {n} {k} {c} {d} e a = subst (λ j. Adds n j (e then c) (e then d)) (let z : 0 + k ≡ k = omega arith in z) (both (same e) a)

test_adds : {n : Depth} (e : Code (under (under n))) (f : Code (under n)) (w : Width) (alone on : Bool)
    → Adds n (pick ((alone && is_word w) && on) 1 0) (block (block (align_test false w then e) then f))
    (block (block (align_test (alone && on) w then e) then f))
unfolding align_test
test_adds e f w false on = same _
test_adds e f B8 true on = same _
test_adds e f B16 true on = same _
test_adds e f B32 true false = same _
test_adds e f B32 true true = tests e f

none_without_map : (u : Bool) → ◌≡◌ {A = ℕ} (pick (u && false) 1 0) 0
none_without_map false = refl
none_without_map true = refl

-- a step is a store, or it is as the commit has it
data StoreOrSame : Step → Type 0 where
  stores : (w : Width) (alone : Bool) (i : ℕ) → StoreOrSame (Step.store w alone i)
  unchanged : {s : Step} → commit_step s ≡ s → word_store s ≡ false → StoreOrSame s

look : (s : Step) → StoreOrSame s
look (Step.ld_reg t r) = unchanged refl refl
look (Step.st_reg t r) = unchanged refl refl
look (Step.ld_field f t) = unchanged refl refl
look (Step.st_field f t) = unchanged refl refl
look (Step.mov32 t v) = unchanged refl refl
look (Step.add_imm d s v) = unchanged refl refl
look (Step.ins i) = unchanged refl refl
look (Step.load w signed i) = unchanged refl refl
look (Step.store w alone i) = stores w alone i
look (Step.check_brk glue pc count) = unchanged refl refl
look (Step.chain pc count) = unchanged refl refl
look (Step.fork cond pc target count) = unchanged refl refl
look (Step.ind t count brk) = unchanged refl refl
look (Step.limit pc count) = unchanged refl refl
look (Step.guard at helper pc) = unchanged refl refl

cache_same : (rc : RegCache) (s : Step) → step_cache rc (commit_step s) ≡ step_cache rc s
unfolding step_cache
cache_same rc s = by (look s)
  where
    by : {s : Step} → StoreOrSame s → step_cache rc (commit_step s) ≡ step_cache rc s
    by (stores w alone i) = refl
    by (unchanged e f) = ap (step_cache rc) e

first_target : (s : Step) (xs ys : List Step) → targets xs ≡ targets ys → targets (s ∷ xs) ≡ targets (commit_step s ∷ ys)
first_target s xs ys h = by (look s)
  where
    by : {s : Step} → StoreOrSame s → targets (s ∷ xs) ≡ targets (commit_step s ∷ ys)
    by (stores w alone i) = h
    by {s} (unchanged e f) =
        targets-append (s ∷ []) xs ∙ ap₂ (λ x ts. targets (x ∷ []) ++ ts) (sym e) h ∙ sym (targets-append (commit_step s ∷ []) ys)

targets_as : (ss : List Step) → targets ss ≡ targets (map commit_step ss)
targets_as [] = refl
targets_as (s ∷ ss) = first_target s ss (map commit_step ss) (targets_as ss)

module _ (blk : Block) where
  step_adds : {n : Depth} (rc : RegCache) (s : Step) → Adds n (tested blk s) (step_code blk rc (commit_step s)) (step_code blk rc s)
  unfolding step_code store
  step_adds {n} rc s = by (look s)
    where
      by : {s : Step} → StoreOrSame s → Adds n (tested blk s) (step_code blk rc (commit_step s)) (step_code blk rc s)
      by (stores w alone i) = test_adds _ _ w alone blk.memory.map
      by (unchanged e f) = rw (e, f) (same _)

  steps-add : (rc : RegCache) (ss : List Step) → Adds top (all_tested blk ss) (steps_code blk rc (map commit_step ss)) (steps_code blk rc ss)
  unfolding steps_code all_tested
  steps-add rc [] = same _
  steps-add rc (s ∷ ss) = rw (cache_same rc s) (both (step_adds rc s) (steps-add (step_cache rc s) ss))

  block_adds : Adds top (all_tested blk (block_steps blk)) (commit_code blk) (block_code blk)
  unfolding commit_code block_code
  block_adds = last_adds _ (steps-add empty_cache (block_steps blk))

  as_commit : all_tested blk (block_steps blk) ≡ 0 → AsCommit blk
  unfolding block_words block_lines commit_words commit_lines sites commit_sites
  as_commit e =
      let code_same : block_code blk ≡ commit_code blk = none_added block_adds e in
      record {
        words_same = ap (λ c. lines_words (whole_lines c closing)) code_same;
        sites_same = ap₂ (λ c ts. zip_sites (starts c 0) ts) code_same (targets_as (block_steps blk));
      }

  -- without a code map none is tested
  no_tests : blk.memory.map ≡ false → (ss : List Step) → all_tested blk ss ≡ 0
  unfolding all_tested
  no_tests e [] = refl
  no_tests e (s ∷ ss) = ap₂ ◌+◌ (ap (λ u. pick (word_store s && u) 1 0) e ∙ none_without_map (word_store s)) (no_tests e ss)

  -- ---- operations
  tested-append : (xs ys : List Step) → all_tested blk (xs ++ ys) ≡ all_tested blk xs + all_tested blk ys
  unfolding all_tested
  tested-append [] ys = omega arith
  tested-append (x ∷ xs) ys = omega (arith, tested-append xs ys)

  base-untested : (b : Base) → tested blk (base b) ≡ 0
  base-untested (Reg r) = refl
  base-untested Sp = refl

  amount-untested : (by : Amount) → all_tested blk (advance by) ≡ 0
  unfolding all_tested
  amount-untested (ByReg r) = refl
  amount-untested (ByInc v) = refl

  rhs-untested : (rk : Rk) (rv : ℕ) → all_tested blk (rhs rk rv) ≡ 0
  unfolding all_tested
  rhs-untested RkReg rv = refl
  rhs-untested RkImm rv = refl
  rhs-untested RkBit rv = refl

  words-untested : (store : Bool) (i k : ℕ) (rs : List ℕ) → all_tested blk (move_words store i k rs) ≡ 0
  unfolding all_tested move_words
  words-untested store i k [] = refl
  words-untested true i k (r ∷ rs) = omega (arith, words-untested true i (suc k) rs)
  words-untested false i k (r ∷ rs) = omega (arith, words-untested false i (suc k) rs)

  moved-base-untested : (post down : Bool) (n r : ℕ) → all_tested blk (move_base post down n r) ≡ 0
  unfolding all_tested
  moved-base-untested false down n r = refl
  moved-base-untested true false n r = refl
  moved-base-untested true true n r = refl

  pushes-untested : (i : ℕ) (rs : List ℕ) → all_tested blk (push_all i rs) ≡ 0
  unfolding all_tested push_all
  pushes-untested i [] = refl
  pushes-untested i (r ∷ rs) = omega (arith, pushes-untested i rs)

  value-untested : (op : RmwOp) (w : Width) (v i : ℕ) → all_tested blk (rmw_value op w v i) ≡ 0
  unfolding all_tested
  value-untested RmwOr w v i = refl
  value-untested RmwAnd w v i = refl
  value-untested RmwXor w v i = refl
  value-untested RmwAdd w v i = refl
  value-untested RmwSub w v i = refl
  value-untested RmwMov w v i = refl

  pops-untested : (i : ℕ) (rs : List ℕ) → all_tested blk (pop_all i rs) ≡ 0
  unfolding all_tested pop_all
  pops-untested i [] = refl
  pops-untested i (r ∷ rs) = omega (arith, pops-untested i rs)

  counted : (i next : ℕ) → Counts blk i next
  unfolding all_tested lowered
  counted i next =
      record {
        stored = λ s off b w. omega (arith, base-untested b);
        indexed = λ s b x sh w. omega arith;
        posted = λ s b inc w. omega arith;
        modified = λ b off v w op.
            let last : List Step = Step.ins (mov 0 KEEP) ∷ Step.store w true i ∷ [] in
            omega (arith, tested-append (rmw_value op w v i) last, value-untested op w v i);
        ret-pushed = omega arith;
        advanced = λ s b by w.
            let last : List Step = Step.st_reg 0 b ∷ Step.ld_reg 1 s ∷ Step.store w true i ∷ [] in
            omega (arith, tested-append (advance by) last, amount-untested by);
        combined = λ b off rv op rk.
            let last : List Step = Step.ins (mov KEEP2 1) ∷ Step.ld_reg 0 b ∷ Step.add_imm KEEP 0 off ∷ combined op i in
            omega (arith, tested-append (rhs rk rv) last, rhs-untested rk rv);
        moved = λ b mask store post down.
            omega (
              arith,
              tested-append (move_words store i 0 (members mask)) (move_base post down (span mask) b),
              words-untested store i 0 (members mask),
              moved-base-untested post down (span mask) b,
            );
        rets-pushed = λ n. omega (arith, pushes-untested i (reverse (saved n)));
        pc-popped = λ n.
            let last : List Step = pop i (Step.ins (mov KEEP 0)) ++ (Step.ind KEEP (i + 1) true ∷ []) in
            omega (arith, tested-append (pop_all i (saved n)) last, pops-untested i (saved n));
        pair-loaded = λ p off b. omega (arith, base-untested b, words-untested false i 0 (pair_of p));
        pair-stored = λ p off b. omega (arith, base-untested b, words-untested true i 0 (pair_of p));
      }

  pub departs : Departs blk
  unfolding block_lines block_words commit_lines commit_words
  departs =
      record {
        step = step_adds;
        whole = block_adds;
        words_more = more_words block_adds;
        jumps_more = more_jumps block_adds;
        labels_same = same_labels block_adds;
        targets_same = targets_as (block_steps blk);
        pool_same = whole_same_pool block_adds closing;
        length_more = more_length block_adds closing;
        untested = as_commit;
        flag_0 = λ e. as_commit (no_tests e (block_steps blk));
        counts = counted;
      }
