-- A step's code is short: its words, labels and fix-ups are at most what the step costs; and a test of a bit is near the label that
-- it goes to.
use mathlib.Core.Path.{◌≡◌, refl}
use mathlib.Core.Bool.{Bool, true, false, not, ◌&&◌}
use mathlib.Core.List.{List, [], ◌∷◌, ◌++◌}
use Prim.Native.Nat.{ℕ, suc, ◌+◌, ◌-◌, ◌/◌, ◌%◌, ◌<◌, ◌≤◌}
use native.Mathlib.Omega.{arith}
use lib.Dec.{eqb, ltb}
use lib.ListN.{length, get_or, length-append}
use Rattle.arm.specs.declared.Instr.{Instr}
use Rattle.block.specs.declared.Width.{Width}
use Rattle.block.specs.declared.Width.TheVariants.{Byte as B8, Half as B16, Word as B32}
use Rattle.block.specs.declared.Layout.{Layout}
use Rattle.block.specs.declared.Block.{Block}
use Rattle.block.specs.Block.{bytes}
use Rattle.code.specs.Items.{pick}
use Rattle.code.specs.Tree.{Depth, top, under, Var, inner, outer, Code, words, labels, jumps, Tests}
use Rattle.lowering.specs.declared.RegCache.{RegCache}
use Rattle.lowering.specs.Instrs.{CPU, RAM, XIP, mov32, ldr}
use Rattle.lowering.specs.Cache.{POOL, host, FREE, off_reg, oldest, is_held, chosen, spill, ld_reg, st_reg, flush_from, flush, reload_from}
use Rattle.lowering.specs.Cache.{reload}
use Rattle.lowering.specs.Steps.{Step}
use Rattle.lowering.specs.Fragments.{minus, add_imm, brk_first, even, try_region, extended, align_test, map_test, call, exit_imm, chain, ind}
use Rattle.lowering.specs.Fragments.{hold, check_brk, fork, limit, guard, load, store, step_code, step_cache, steps_code}
use Rattle.bounds.proofs.Cost.{Measure, Cost, cost, cost_of, total}

-- ---- the lists of instructions
pick-short : (x : Bool) (is js : List Instr) (k : ℕ) → length is ≤ k → length js ≤ k → length (pick x is js) ≤ k
pick-short true is js k h l = h
pick-short false is js k h l = l

mov32-short : (rd v : ℕ) → length (mov32 rd v) ≤ 2
unfolding mov32
mov32-short rd v =
    pick-short (eqb (v / 65536) 0) _ _ 2 (omega arith)
    (pick-short (eqb (v % 65536) 0) _ _ 2 (omega arith) (pick-short (eqb (v / 65536) 65535) _ _ 2 (omega arith) (omega arith)))

add_imm-short : (d s v : ℕ) → length (add_imm d s v) ≤ 3
unfolding add_imm
add_imm-short d s v =
    pick-short (eqb v 0) _ _ 3 (pick-short (eqb d s) _ _ 3 (omega arith) (omega arith))
    (pick-short (ltb v 4096) _ _ 3 (omega arith)
    (pick-short (ltb (minus v) 4096) _ _ 3 (omega arith) (simp length-append (omega (arith, mov32-short 9 v)))))

spill-short : (lay : Layout) (rc : RegCache) → length (spill lay rc) ≤ 1
unfolding spill
spill-short lay rc =
    pick-short (is_held rc FREE) _ _ 1 (omega arith) (pick-short (get_or rc.dirty (oldest rc) false) _ _ 1 (omega arith) (omega arith))

ld_reg-short : (lay : Layout) (rc : RegCache) (t r : ℕ) → length (ld_reg lay rc t r) ≤ 3
unfolding ld_reg
ld_reg-short lay rc t r =
    let h : length (pick (is_held rc r) [] (spill lay rc ++ (ldr (host (chosen rc)) CPU (off_reg lay r) ∷ []))) ≤ 2
    = pick-short (is_held rc r) [] _ 2 (omega arith) (simp length-append (omega (arith, spill-short lay rc))) in
    simp length-append (omega arith)

st_reg-short : (lay : Layout) (rc : RegCache) (t r : ℕ) → length (st_reg lay rc t r) ≤ 2
unfolding st_reg
st_reg-short lay rc t r =
    let h : length (pick (is_held rc r) [] (spill lay rc)) ≤ 1 = pick-short (is_held rc r) [] _ 1 (omega arith) (spill-short lay rc) in
    simp length-append (omega arith)

flush-from : (lay : Layout) (hs gs : List ℕ) (ds : List Bool) → length (flush_from lay hs gs ds) ≤ length hs
unfolding flush_from
flush-from lay [] gs ds = omega arith
flush-from lay (h ∷ hs) [] ds = omega arith
flush-from lay (h ∷ hs) (g ∷ gs) [] = omega arith
flush-from lay (h ∷ hs) (g ∷ gs) (d ∷ ds) =
    let h : length (flush_from lay hs gs ds) ≤ length hs = flush-from lay hs gs ds in
    pick-short (d && not (eqb g FREE)) _ _ (suc (length hs)) (omega arith) (omega arith)

reload-from : (lay : Layout) (hs gs : List ℕ) → length (reload_from lay hs gs) ≤ length hs
unfolding reload_from
reload-from lay [] gs = omega arith
reload-from lay (h ∷ hs) [] = omega arith
reload-from lay (h ∷ hs) (g ∷ gs) =
    let h : length (reload_from lay hs gs) ≤ length hs = reload-from lay hs gs in
    pick-short (eqb g FREE) _ _ (suc (length hs)) (omega arith) (omega arith)

flush-short : (lay : Layout) (rc : RegCache) → length (flush lay rc) ≤ 8
unfolding flush
flush-short lay rc = flush-from lay POOL rc.guest rc.dirty

reload-short : (lay : Layout) (rc : RegCache) → length (reload lay rc) ≤ 8
unfolding reload
reload-short lay rc = reload-from lay POOL rc.guest

even-short : (w : Width) → length (even w) ≤ 3
unfolding even
even-short B8 = omega arith
even-short B16 = simp length-append (omega (arith, mov32-short 2 4294967294))
even-short B32 = omega arith

extended-short : (w : Width) (signed : Bool) → length (extended w signed) ≤ 1
unfolding extended
extended-short B8 false = omega arith
extended-short B16 false = omega arith
extended-short B32 false = omega arith
extended-short B8 true = omega arith
extended-short B16 true = omega arith
extended-short B32 true = omega arith

-- ---- a fragment: its words, labels and fix-ups, and its tests of a bit
pub record Short (w l j : ℕ) {n : Depth} (c : Code n) : Type 0 where
  pub words_le : words c ≤ w
  pub labels_le : labels c ≤ l
  pub jumps_le : jumps c ≤ j
  pub tests : (d : Var n → ℕ) (x : ℕ) → Tests c d x

abbrev pub CostsAtMost : Cost → {n : Depth} → Code n → Type 0
CostsAtMost k c = Short (k Measure.words) (k Measure.labels) (k Measure.jumps) c

brk-short : (n : Depth) (u : Bool) → Short 2 0 1 (brk_first {n = n} u)
unfolding brk_first words labels jumps Tests
brk-short n false = record { words_le = omega arith; labels_le = omega arith; jumps_le = omega arith; tests = λ d x. tt }
brk-short n true = record { words_le = omega arith; labels_le = omega arith; jumps_le = omega arith; tests = λ d x. (tt, tt) }

map-short : (n : Depth) (u : Bool) → Short 3 0 1 (map_test {n = n} u)
unfolding map_test words labels jumps Tests
map-short n false = record { words_le = omega arith; labels_le = omega arith; jumps_le = omega arith; tests = λ d x. tt }
map-short n true = record { words_le = omega arith; labels_le = omega arith; jumps_le = omega arith; tests = λ d x. (tt, tt) }

-- the tests of a bit, k at most: each goes behind the block around it, the first of two past the second
record Aligns (k : ℕ) (n : Depth) (u : Bool) (w : Width) : Type 0 where
  pub words_le : words (align_test {n = n} u w) ≤ k
  pub labels_le : labels (align_test {n = n} u w) ≤ 0
  pub jumps_le : jumps (align_test {n = n} u w) ≤ k
  pub tests : (d : Var (under n) → ℕ) (x : ℕ) → 2 + d inner < 8192 → Tests (align_test {n = n} u w) d x

-- one, of a halfword; two of a word, where words are tested
aligns : (k : ℕ) (n : Depth) (u : Bool) (w : Width) → 1 ≤ k → (u ≡ true → 2 ≤ k) → Aligns k n u w
unfolding align_test words labels jumps Tests
aligns k n u B8 one two = record { words_le = omega arith; labels_le = omega arith; jumps_le = omega arith; tests = λ d x h. tt }
aligns k n u B16 one two = record { words_le = one; labels_le = omega arith; jumps_le = one; tests = λ d x h. omega arith }
aligns k n false B32 one two = record { words_le = omega arith; labels_le = omega arith; jumps_le = omega arith; tests = λ d x h. tt }
aligns k n true B32 one two =
    record { words_le = two refl; labels_le = omega arith; jumps_le = two refl; tests = λ d x h. (omega arith, omega arith) }

region-short : (n : Depth) (reg gbase len : ℕ) (w : Width) (signed : Bool) (miss done : Var n)
    → Short 12 0 2 (try_region reg gbase len w signed miss done)
unfolding try_region words labels jumps Tests
region-short n reg gbase len w signed miss done =
    record {
      words_le = simp length-append (omega (arith, mov32-short 2 gbase, even-short w, mov32-short 2 (len - bytes w)));
      labels_le = omega arith;
      jumps_le = omega arith;
      tests = λ d x. (tt, (tt, (tt, tt)));
    }

module _ (blk : Block) (rc : RegCache) (n : Depth) where
  call-short : (f : ℕ) → Short 18 0 1 (call blk rc {n = n} f)
  unfolding call words labels jumps Tests
  call-short f =
      record {
        words_le = omega (arith, flush-short blk.layout rc, reload-short blk.layout rc);
        labels_le = omega arith;
        jumps_le = omega arith;
        tests = λ d x. (tt, (tt, tt));
      }

  exit-short : (pc count : ℕ) → Short 13 0 1 (exit_imm blk rc {n = n} pc count)
  unfolding exit_imm words labels jumps Tests
  exit-short pc count =
      record {
        words_le = simp length-append (omega (arith, flush-short blk.layout rc, mov32-short 9 pc));
        labels_le = omega arith;
        jumps_le = omega arith;
        tests = λ d x. (tt, tt);
      }

  chain-short : (pc count : ℕ) → CostsAtMost (cost_of (Step.chain pc count)) (chain blk rc {n = n} pc count)
  unfolding chain words labels jumps Tests
  chain-short pc count =
      record {
        words_le = simp length-append (omega (arith, flush-short blk.layout rc, mov32-short 9 pc));
        labels_le = omega arith;
        jumps_le = omega arith;
        tests = λ d x. (tt, ((tt, tt), (tt, tt)));
      }

module _ (blk : Block) (rc : RegCache) (n : Depth) where
  ind-short : (t count : ℕ) (brk : Bool) → CostsAtMost (cost_of (Step.ind t count brk)) (ind blk rc {n = n} t count brk)
  unfolding ind words labels jumps Tests
  ind-short t count brk =
      let q = brk-short n brk in
      record {
        words_le = simp length-append (omega (arith, flush-short blk.layout rc, q.words_le));
        labels_le = omega (arith, q.labels_le);
        jumps_le = omega (arith, q.jumps_le);
        tests = λ d x. (tt, ((q.tests _ _, (tt, (tt, (tt, (tt, tt))))), (tt, tt)));
      }

  hold-short : (u : Bool) → length (hold blk rc u) ≤ 3
  unfolding hold
  hold-short false = omega arith
  hold-short true = simp length-append (omega (arith, mov32-short 9 1))

  check-short : (glue : Bool) (pc count : ℕ)
      → CostsAtMost (cost_of (Step.check_brk glue pc count)) (check_brk blk rc {n = n} glue pc count)
  unfolding check_brk words labels jumps Tests
  check-short glue pc count =
      let q = exit-short blk rc (under n) pc count in
      record {
        words_le = omega (arith, hold-short glue, q.words_le);
        labels_le = omega (arith, q.labels_le);
        jumps_le = omega (arith, q.jumps_le);
        tests = λ d x. (tt, (tt, (tt, q.tests _ _)));
      }

  fork-short : (cond pc target count : ℕ)
      → CostsAtMost (cost_of (Step.fork cond pc target count)) (fork blk rc {n = n} cond pc target count)
  unfolding fork words labels jumps Tests
  fork-short cond pc target count =
      let p = chain-short blk rc (under n) pc count in
      let q = chain-short blk rc n target count in
      record {
        words_le = omega (arith, p.words_le, q.words_le);
        labels_le = omega (arith, p.labels_le, q.labels_le);
        jumps_le = omega (arith, p.jumps_le, q.jumps_le);
        tests = λ d x. ((tt, p.tests _ _), q.tests _ _);
      }

  limit-short : (pc count : ℕ) → CostsAtMost (cost_of (Step.limit pc count)) (limit blk rc {n = n} pc count)
  unfolding limit words labels jumps Tests
  limit-short pc count =
      let q = exit-short blk rc (under n) pc 0 in
      record {
        words_le = omega (arith, q.words_le);
        labels_le = omega (arith, q.labels_le);
        jumps_le = omega (arith, q.jumps_le);
        tests = λ d x. (tt, (tt, q.tests _ _));
      }

  guard-short : (at helper pc : ℕ) → CostsAtMost (cost_of (Step.guard at helper pc)) (guard blk rc {n = n} at helper pc)
  unfolding guard words labels jumps Tests
  guard-short at helper pc =
      let p = call-short blk rc (under n) helper in
      let q = exit-short blk rc (under n) pc 0 in
      record {
        words_le = omega (arith, p.words_le, q.words_le);
        labels_le = omega (arith, p.labels_le, q.labels_le);
        jumps_le = omega (arith, p.jumps_le, q.jumps_le);
        tests = λ d x. (tt, (tt, (tt, (tt, (tt, (p.tests _ _, (tt, q.tests _ _)))))));
      }

  load-short : (w : Width) (signed : Bool) (i : ℕ)
      → CostsAtMost (cost_of (Step.load w signed i)) (load blk rc {n = n} w signed i)
  unfolding load words labels jumps Tests
  load-short w signed i =
      let m = blk.memory in
      let p = region-short (under (under (under n))) RAM m.ram_base m.ram_len w signed inner (outer (outer inner)) in
      let q = region-short (under (under n)) XIP m.xip_base m.xip_len w signed inner (outer inner) in
      let r = call-short blk rc (under n) blk.addresses.h_read in
      record {
        words_le = omega (arith, p.words_le, q.words_le, r.words_le, mov32-short 3 (bytes w), extended-short w signed);
        labels_le = omega (arith, p.labels_le, q.labels_le, r.labels_le);
        jumps_le = omega (arith, p.jumps_le, q.jumps_le, r.jumps_le);
        tests = λ d x. ((p.tests _ _, q.tests _ _), (tt, (r.tests _ _, tt)));
      }

  tested-short : (k : ℕ) {a j : ℕ} (w : Width) (alone : Bool) (i : ℕ) → 36 + k ≤ a → 4 + k ≤ j
      → Aligns k (under n) (alone && blk.memory.map) w → Short a 2 j (store blk rc {n = n} w alone i)
  unfolding store words labels jumps Tests
  tested-short k w alone i ha hj t =
      let m = map-short (under n) blk.memory.map in
      let r = call-short blk rc (under n) blk.addresses.h_write in
      let start = mov32-short 2 blk.memory.ram_base in
      let last = mov32-short 2 (blk.memory.ram_len - bytes w) in
      record {
        words_le = simp length-append (omega (arith, t.words_le, m.words_le, r.words_le, start, last, mov32-short 4 (bytes w)));
        labels_le = omega (arith, t.labels_le, m.labels_le, r.labels_le);
        jumps_le = omega (arith, t.jumps_le, m.jumps_le, r.jumps_le);
        tests = λ d x. (
          (
            t.tests _ _ (simp length-append (omega (arith, m.words_le, start, last))),
            (tt, (tt, (m.tests _ _, (tt, tt)))),
          ),
          (tt, r.tests _ _),
        );
      }

  store-short : (w : Width) (alone : Bool) (i : ℕ) → CostsAtMost (cost_of (Step.store w alone i)) (store blk rc {n = n} w alone i)
  store-short w true i =
      tested-short 2 w true i (omega arith) (omega arith)
      (aligns 2 (under n) blk.memory.map w (omega arith) (λ e. omega arith))
  store-short w false i =
      tested-short 1 w false i (omega arith) (omega arith)
      (aligns 1 (under n) false w (omega arith) (λ e. absurd (let z : ◌≡◌ {A = ℕ} 0 1 = cc in omega arith)))

  plain-short : (w : ℕ) (is : List Instr) → length is ≤ w → CostsAtMost (cost w 0 0 0) {n = n} (Code.code is)
  unfolding words labels jumps Tests
  plain-short w is h = record { words_le = h; labels_le = omega arith; jumps_le = omega arith; tests = λ d x. tt }

  pub step-short : (s : Step) → CostsAtMost (cost_of s) (step_code blk rc {n = n} s)
  unfolding step_code
  step-short (Step.ld_reg t r) = plain-short _ _ (ld_reg-short blk.layout rc t r)
  step-short (Step.st_reg t r) = plain-short _ _ (st_reg-short blk.layout rc t r)
  step-short (Step.ld_field f t) = plain-short _ _ (omega arith)
  step-short (Step.st_field f t) = plain-short _ _ (omega arith)
  step-short (Step.mov32 t v) = plain-short _ _ (mov32-short t v)
  step-short (Step.add_imm d s v) = plain-short _ _ (add_imm-short d s v)
  step-short (Step.ins i) = plain-short _ _ (omega arith)
  step-short (Step.load w signed i) = load-short w signed i
  step-short (Step.store w alone i) = store-short w alone i
  step-short (Step.check_brk glue pc count) = check-short glue pc count
  step-short (Step.chain pc count) = chain-short blk rc n pc count
  step-short (Step.fork cond pc target count) = fork-short cond pc target count
  step-short (Step.ind t count brk) = ind-short t count brk
  step-short (Step.limit pc count) = limit-short pc count
  step-short (Step.guard at helper pc) = guard-short at helper pc

-- ---- steps in order
pub steps-short : (blk : Block) (rc : RegCache) (ss : List Step) → CostsAtMost (total ss) (steps_code blk rc ss)
unfolding steps_code words labels jumps Tests
steps-short blk rc [] = record { words_le = omega arith; labels_le = omega arith; jumps_le = omega arith; tests = λ d x. tt }
steps-short blk rc (s ∷ ss) =
    let p = step-short blk rc top s in
    let q = steps-short blk (step_cache rc s) ss in
    record {
      words_le = omega (arith, p.words_le, q.words_le);
      labels_le = omega (arith, p.labels_le, q.labels_le);
      jumps_le = omega (arith, p.jumps_le, q.jumps_le);
      tests = λ d x. (p.tests _ _, q.tests _ _);
    }
