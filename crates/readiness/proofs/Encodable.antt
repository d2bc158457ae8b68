-- Every instruction of a block is one that an encoder has, so that the machine takes its word, and its literals have 64 bits.
--     Encodable           of structured code
--     block_encodable     of every checked block
-- Assumes nothing.
use mathlib.Core.Path.{◌≡◌, refl}
use mathlib.Core.Bool.{Bool, true, false, not, ◌&&◌}
use mathlib.Core.List.{List, [], ◌∷◌, ◌++◌, reverse}
use Prim.Native.Nat.{ℕ, zero, suc, ◌+◌, ◌-◌, ◌/◌, ◌%◌, ◌^◌, ◌<◌}
use native.Mathlib.Nat.{mod-lt, mod-eq_of_lt}
use native.Mathlib.Omega.{arith}
use borrow.Author.Tests.{le-leb, lt-leb, eq-eqb}
use lib.Dec.{eqb, ltb}
use lib.ListN.{get_or}
use Rattle.arm.specs.declared.Instr.{Instr}
use Rattle.block.specs.declared.Op.{Op}
use Rattle.block.specs.declared.Op.TheVariants.{Add, Sub, RSub, And, AndNot, Or, Xor, Mul, Shl, Shr, Sar}
use Rattle.block.specs.declared.RmwOp.{RmwOp}
use Rattle.block.specs.declared.RmwOp.TheVariants.{Or as RmwOr, And as RmwAnd, Xor as RmwXor, Add as RmwAdd, Sub as RmwSub, Mov as RmwMov}
use Rattle.block.specs.declared.Cond.{Cond}
use Rattle.block.specs.declared.Cond.TheVariants.{Eq, Ne, LtU, GtU, LeU, GeU, LtS, GtS, LeS, GeS}
use Rattle.block.specs.declared.Base.{Base}
use Rattle.block.specs.declared.Base.TheVariants.{Reg, Sp}
use Rattle.block.specs.declared.Amount.{Amount}
use Rattle.block.specs.declared.Amount.TheVariants.{Reg as ByReg, Inc as ByInc}
use Rattle.block.specs.declared.Width.{Width}
use Rattle.block.specs.declared.Width.TheVariants.{Byte as B8, Half as B16, Word as B32}
use Rattle.block.specs.declared.Rk.{Rk}
use Rattle.block.specs.declared.Rk.TheVariants.{Reg as RkReg, Imm as RkImm, Bit as RkBit}
use Rattle.block.specs.declared.Part.{Part}
use Rattle.block.specs.declared.Part.TheVariants.{Byte as PartByte, Half as PartHalf, Upper as PartUpper}
use Rattle.block.specs.declared.Choice.{Choice}
use Rattle.block.specs.declared.Choice.TheVariants.{MinS, MaxS, MinU, MaxU}
use Rattle.block.specs.declared.UnKind.{UnKind}
use Rattle.block.specs.declared.UnKind.TheVariants.{Not, Neg, Abs, Rev, Clz, SatS, SatU}
use Rattle.block.specs.declared.DivKind.{DivKind}
use Rattle.block.specs.declared.DivKind.TheVariants.{QuoS, QuoU, RemS, RemU}
use Rattle.block.specs.declared.Fast.{Fast}
use Rattle.block.specs.declared.Fast.TheVariants.{Nop, MovI, Mov, AddRI, ShlI, SarI, Alu3, Alu3I, Alu2, Alu2I, A4, Ext, MinMax, Un, Div}
use Rattle.block.specs.declared.Fast.TheVariants.{Mov2, Mov2I, BitExt, BitIns, SpAdd, RFromSp, Ld, St, LdIdx, StIdx, LdPost, StPost, Rmw}
use Rattle.block.specs.declared.Fast.TheVariants.{PushRet, PopRets, BrI, BrR, DecBr, BitBr, Goto, Call, Rts, GotoR, CallR, PopRet}
use Rattle.block.specs.declared.Fast.TheVariants.{BlockMove, PushRets, PopPc, LdPair, StPair, LdPre, StPre, LdPostR, MemA4, Tb}
use Rattle.block.specs.declared.BOp.{BOp}
use Rattle.block.specs.declared.Layout.{Layout}
use Rattle.block.specs.declared.Guard.{Guard}
use Rattle.block.specs.declared.Block.{Block}
use Rattle.block.specs.Block.{ops_of, may_jump, uses_bus, in_flash, bytes, members, span, saved, pair_of}
use Rattle.block.specs.Checked.{AddressesFit, GuardFits}
use Rattle.code.specs.Items.{pick, Hole, b, b_cond, cb, tb, adr, ldr}
use Rattle.code.specs.Tree.{Depth, top, under, Var, Code, code, lit, to, exit, block, start, ◌then◌}
use Rattle.machine.specs.Encoders.{encoders, has_encoder}
use Rattle.lowering.specs.declared.RegCache.{RegCache}
use Rattle.lowering.specs.Instrs.{mov, mov32, csel, str, indexed, sbfx, ubfx, lsl_i, lsr_i, asr_i}
use Rattle.lowering.specs.Instrs.{ldr as ldr_ins}
use Rattle.lowering.specs.Cache.{POOL, host, FREE, empty_cache, off_reg, oldest, is_held, chosen, spill, flush_from}
use Rattle.lowering.specs.Cache.{flush, reload_from, reload}
use Rattle.lowering.specs.Cache.{ld_reg as ld_reg_code, st_reg as st_reg_code}
use Rattle.lowering.specs.Steps.{Step, lowered, op_steps, ops_steps, block_steps, behind, alu, acond, ext, choice, rhs, base, un, div, low}
use Rattle.lowering.specs.Steps.{advance, rmw_value, move_words, move_base, push_all, pop_all}
use Rattle.lowering.specs.Fragments.{minus, add_imm, brk_first, even, loads, try_region, extended, align_test, map_test, stores, call, exit_imm}
use Rattle.lowering.specs.Fragments.{chain, ind, hold, check_brk, fork, limit, guard, load, store, step_code, step_cache, steps_code, opening}
use Rattle.lowering.specs.Fragments.{closing}
use Rattle.lowering.specs.Compile.{block_code}

-- ---- the property
abbrev pub Known : List Instr → Type 0
Known [] = Unit {0}
Known (i ∷ is) = (has_encoder i ≡ true) × Known is

-- a condition is one of fourteen and always
abbrev pub HoleKnown : Hole → Type 0
HoleKnown b = Unit {0}
HoleKnown (b_cond k) = k < 15
HoleKnown (cb z t rt) = Unit {0}
HoleKnown (tb t k rt) = Unit {0}
HoleKnown (adr rd) = ⊥
HoleKnown (ldr rt) = ⊥

unfoldable pub Encodable : {n : Depth} → Code n → Type 0
Encodable (code is) = Known is
Encodable (lit rt v) = v < 2 ^ 64
Encodable (to h v) = HoleKnown h
Encodable (exit h) = HoleKnown h
Encodable (block c) = Encodable c
Encodable (start rd c) = Encodable c
Encodable (c then d) = Encodable c × Encodable d

known-append : (xs ys : List Instr) → Known xs → Known ys → Known (xs ++ ys)
known-append [] ys h k = k
known-append (x ∷ xs) ys h k = (h.0, known-append xs ys h.1 k)

known-pick : (u : Bool) (xs ys : List Instr) → Known xs → Known ys → Known (pick u xs ys)
known-pick true xs ys h k = h
known-pick false xs ys h k = k

-- ---- straight pieces
mov32-known : (rd v : ℕ) → Known (mov32 rd v)
unfolding mov32 has_encoder encoders
mov32-known rd v = known-pick (eqb (v / 65536) 0) _ _ (refl, tt) (known-pick (eqb (v % 65536) 0) _ _ (refl, tt) (known-pick (eqb (v / 65536) 65535) _ _ (refl, tt) (refl, (refl, tt))))

mov-known : (d s : ℕ) → has_encoder (mov d s) ≡ true
unfolding has_encoder encoders
mov-known d s = refl

str_known : (t n o : ℕ) → has_encoder (str t n o) ≡ true
unfolding has_encoder encoders
str_known t n o = refl

ldr-known : (t n o : ℕ) → has_encoder (ldr_ins t n o) ≡ true
unfolding has_encoder encoders
ldr-known t n o = refl

add_imm-known : (d s v : ℕ) → Known (add_imm d s v)
unfolding add_imm has_encoder encoders
add_imm-known d s v =
    known-pick (eqb v 0) _ _ (known-pick (eqb d s) _ _ tt (refl, tt))
    (known-pick (ltb v 4096) _ _ (refl, tt) (known-pick (ltb (minus v) 4096) _ _ (refl, tt) (known-append (mov32 9 v) _ (mov32-known 9 v) (refl, tt))))

module _ (lay : Layout) (rc : RegCache) where
  spill-known : Known (spill lay rc)
  unfolding spill
  spill-known = known-pick (is_held rc FREE) _ _ tt (known-pick (get_or rc.dirty (oldest rc) false) _ _ (str_known _ _ _, tt) tt)

  ld_reg-known : (t r : ℕ) → Known (ld_reg_code lay rc t r)
  unfolding ld_reg_code
  ld_reg-known t r = known-append (pick (is_held rc r) [] (spill lay rc ++ (ldr_ins (host (chosen rc)) 19 (off_reg lay r) ∷ []))) _ (known-pick (is_held rc r) _ _ tt (known-append (spill lay rc) _ spill-known (ldr-known _ _ _, tt))) (mov-known t _, tt)

  st_reg-known : (t r : ℕ) → Known (st_reg_code lay rc t r)
  unfolding st_reg_code
  st_reg-known t r = known-append (pick (is_held rc r) [] (spill lay rc)) _ (known-pick (is_held rc r) _ _ tt spill-known) (mov-known _ t, tt)

flush-from : (lay : Layout) (hs gs : List ℕ) (ds : List Bool) → Known (flush_from lay hs gs ds)
unfolding flush_from
flush-from lay [] gs ds = tt
flush-from lay (h ∷ hs) [] ds = tt
flush-from lay (h ∷ hs) (g ∷ gs) [] = tt
flush-from lay (h ∷ hs) (g ∷ gs) (d ∷ ds) = known-pick (d && not (eqb g FREE)) _ _ (str_known h _ _, flush-from lay hs gs ds) (flush-from lay hs gs ds)

flush-known : (lay : Layout) (rc : RegCache) → Known (flush lay rc)
unfolding flush
flush-known lay rc = flush-from lay POOL rc.guest rc.dirty

reload-from : (lay : Layout) (hs gs : List ℕ) → Known (reload_from lay hs gs)
unfolding reload_from
reload-from lay [] gs = tt
reload-from lay (h ∷ hs) [] = tt
reload-from lay (h ∷ hs) (g ∷ gs) = known-pick (eqb g FREE) _ _ (reload-from lay hs gs) (ldr-known h _ _, reload-from lay hs gs)

reload-known : (lay : Layout) (rc : RegCache) → Known (reload lay rc)
unfolding reload
reload-known lay rc = reload-from lay POOL rc.guest

-- ---- fragments
module _ (blk : Block) (rc : RegCache) (addresses : AddressesFit blk.addresses) where
  abbrev lay : Layout
  lay = blk.layout

  call_known : (n : Depth) (f : ℕ) → f < 2 ^ 64 → Encodable {n = n} (call blk rc f)
  unfolding call Encodable has_encoder encoders
  call_known n f h = (flush-known lay rc, (h, (refl, reload-known lay rc)))

  exit_imm-known : (n : Depth) (pc count : ℕ) → Encodable {n = n} (exit_imm blk rc pc count)
  unfolding exit_imm Encodable has_encoder encoders
  exit_imm-known n pc count = (known-append (flush lay rc) _ (flush-known lay rc) (known-append (mov32 9 pc) _ (mov32-known 9 pc) (refl, (refl, tt))), tt)

  chain-known : (n : Depth) (pc count : ℕ) → Encodable {n = n} (chain blk rc pc count)
  unfolding chain Encodable has_encoder encoders
  chain-known n pc count =
      (known-append (flush lay rc) _ (flush-known lay rc) (refl, tt), ((tt, known-append (mov32 9 pc) _ (mov32-known 9 pc) (refl, tt)), ((refl, (refl, tt)), tt)))

  ind-known : (n : Depth) (t count : ℕ) (brk : Bool) → Encodable {n = n} (ind blk rc t count brk)
  unfolding ind brk_first Encodable has_encoder encoders
  ind-known n t count brk = (
    known-append (flush lay rc) _ (flush-known lay rc) (refl, (refl, tt)),
    ((first_known brk, ((refl, tt), (addresses.table, ((refl, (refl, (refl, tt))), (omega arith, (refl, (refl, tt))))))), ((refl, (refl, tt)), tt)),
  )
    where
      first_known : (u : Bool) → Encodable (brk_first {n = n} u)
      first_known false = tt
      first_known true = ((refl, tt), tt)

  check_brk-known : (n : Depth) (glue : Bool) (pc count : ℕ) → Encodable {n = n} (check_brk blk rc glue pc count)
  unfolding check_brk hold Encodable has_encoder encoders
  check_brk-known n glue pc count = ((refl, tt), (tt, (hold-known glue, exit_imm-known (under n) pc count)))
    where
      hold-known : (u : Bool) → Known (hold blk rc u)
      hold-known false = tt
      hold-known true = known-append (mov32 9 1) _ (mov32-known 9 1) (refl, tt)

  fork-known : (n : Depth) (k pc target count : ℕ) → k < 15 → Encodable {n = n} (fork blk rc k pc target count)
  unfolding fork Encodable
  fork-known n k pc target count h = ((h, chain-known (under n) pc count), chain-known n target count)

  limit-known : (n : Depth) (pc count : ℕ) → Encodable {n = n} (limit blk rc pc count)
  unfolding limit Encodable has_encoder encoders
  limit-known n pc count = ((refl, (refl, tt)), (omega arith, exit_imm-known (under n) pc 0))

  guard-known : (n : Depth) (pc : ℕ) → (g : Guard) → GuardFits g → Encodable {n = n} (guard blk rc g.at g.h_ram_ok pc)
  unfolding guard Encodable has_encoder encoders
  guard-known n pc g z =
      ((refl, tt), (z.at, ((refl, (refl, tt)), (omega arith, ((refl, tt), (call_known (under n) g.h_ram_ok z.h-ram-ok, (tt, exit_imm-known (under n) pc 0)))))))

  even-known : (w : Width) → Known (even w)
  unfolding even has_encoder encoders
  even-known B8 = tt
  even-known B16 = known-append (mov32 2 (2 ^ 32 - 2)) _ (mov32-known 2 (2 ^ 32 - 2)) (refl, tt)
  even-known B32 = tt

  region-known : (n : Depth) (r g len : ℕ) (w : Width) (signed : Bool) (miss fin : Var n) → Encodable (try_region r g len w signed miss fin)
  unfolding try_region Encodable has_encoder encoders loads
  region-known n r g len w signed miss fin = (
    known-append (mov32 2 g) _ (mov32-known 2 g) (refl, known-append (even w) _ (even-known w) (known-append (mov32 2 (len - bytes w)) _ (mov32-known 2 (len - bytes w)) (refl, tt))),
    (omega arith, ((access-known w signed, tt), tt)),
  )
    where
      access-known : (w : Width) (signed : Bool) → has_encoder (indexed (loads w signed) 0 r 3) ≡ true
      access-known B8 false = refl
      access-known B8 true = refl
      access-known B16 false = refl
      access-known B16 true = refl
      access-known B32 false = refl
      access-known B32 true = refl

  load-known : (n : Depth) (w : Width) (signed : Bool) (i : ℕ) → Encodable {n = n} (load blk rc w signed i)
  unfolding load Encodable extended has_encoder encoders
  load-known n w signed i =
      ((region-known (under (under (under n))) _ _ _ w signed _ _, region-known (under (under n)) _ _ _ w signed _ _), ((refl, (refl, (refl, mov32-known 3 (bytes w)))), (call_known (under n) _ addresses.h-read, extended-known w signed)))
    where
      extended-known : (w : Width) (signed : Bool) → Known (extended w signed)
      extended-known w false = tt
      extended-known B8 true = (refl, tt)
      extended-known B16 true = (refl, tt)
      extended-known B32 true = tt

  store-known : (n : Depth) (w : Width) (alone : Bool) (i : ℕ) → Encodable {n = n} (store blk rc w alone i)
  unfolding store align_test map_test stores Encodable has_encoder encoders
  store-known n w alone i = (
    (
      align_known (under n) (alone && blk.memory.map) w,
      (
        known-append (mov32 2 blk.memory.ram_base) _ (mov32-known 2 blk.memory.ram_base) (refl, known-append (mov32 2 (blk.memory.ram_len - bytes w)) _ (mov32-known 2 _) (refl, tt)),
        (omega arith, (map-known (under n) blk.memory.map, ((access-known w, tt), tt))),
      ),
    ),
    ((refl, (refl, (refl, (refl, mov32-known 4 (bytes w))))), call_known (under n) _ addresses.h-write),
  )
    where
      align_known : (m : Depth) (u : Bool) (w : Width) → Encodable (align_test {n = m} u w)
      align_known m u B8 = tt
      align_known m u B16 = tt
      align_known m false B32 = tt
      align_known m true B32 = (tt, tt)

      map-known : (m : Depth) (u : Bool) → Encodable (map_test {n = m} u)
      map-known m false = tt
      map-known m true = ((refl, (refl, tt)), tt)

      access-known : (w : Width) → has_encoder (indexed (stores w) 1 21 3) ≡ true
      access-known B8 = refl
      access-known B16 = refl
      access-known B32 = refl

-- ---- steps of operations: the test of the limit and the guard stand before them all
abbrev pub StepKnown : Step → Type 0
StepKnown (Step.ld_reg t r) = Unit {0}
StepKnown (Step.st_reg t r) = Unit {0}
StepKnown (Step.ld_field f t) = Unit {0}
StepKnown (Step.st_field f t) = Unit {0}
StepKnown (Step.mov32 t v) = Unit {0}
StepKnown (Step.add_imm d s v) = Unit {0}
StepKnown (Step.ins i) = has_encoder i ≡ true
StepKnown (Step.load w signed i) = Unit {0}
StepKnown (Step.store w alone i) = Unit {0}
StepKnown (Step.check_brk glue pc count) = Unit {0}
StepKnown (Step.chain pc count) = Unit {0}
StepKnown (Step.fork k pc target count) = k < 15
StepKnown (Step.ind t count brk) = Unit {0}
StepKnown (Step.limit pc count) = ⊥
StepKnown (Step.guard at helper pc) = ⊥

abbrev pub AllKnown : List Step → Type 0
AllKnown [] = Unit {0}
AllKnown (s ∷ ss) = StepKnown s × AllKnown ss

all_append : (ss ts : List Step) → AllKnown ss → AllKnown ts → AllKnown (ss ++ ts)
all_append [] ts h k = k
all_append (s ∷ ss) ts h k = (h.0, all_append ss ts h.1 k)

step-known : (blk : Block) (rc : RegCache) → AddressesFit blk.addresses → (s : Step) → StepKnown s → Encodable {n = top} (step_code blk rc s)
unfolding step_code Encodable has_encoder encoders
step-known blk rc z (Step.ld_reg t r) h = ld_reg-known blk.layout rc t r
step-known blk rc z (Step.st_reg t r) h = st_reg-known blk.layout rc t r
step-known blk rc z (Step.ld_field f t) h = (refl, tt)
step-known blk rc z (Step.st_field f t) h = (refl, tt)
step-known blk rc z (Step.mov32 t v) h = mov32-known t v
step-known blk rc z (Step.add_imm d s v) h = add_imm-known d s v
step-known blk rc z (Step.ins i) h = (h, tt)
step-known blk rc z (Step.load w signed i) h = load-known blk rc z top w signed i
step-known blk rc z (Step.store w alone i) h = store-known blk rc z top w alone i
step-known blk rc z (Step.check_brk glue pc count) h = check_brk-known blk rc z top glue pc count
step-known blk rc z (Step.chain pc count) h = chain-known blk rc z top pc count
step-known blk rc z (Step.fork k pc target count) h = fork-known blk rc z top k pc target count h
step-known blk rc z (Step.ind t count brk) h = ind-known blk rc z top t count brk
step-known blk rc z (Step.limit pc count) h = absurd h
step-known blk rc z (Step.guard at helper pc) h = absurd h

steps-known : (blk : Block) (rc : RegCache) → AddressesFit blk.addresses → (ss : List Step) → AllKnown ss → Encodable (steps_code blk rc ss)
unfolding steps_code Encodable
steps-known blk rc z [] h = tt
steps-known blk rc z (s ∷ ss) h = (step-known blk rc z s h.0, steps-known blk (step_cache rc s) z ss h.1)

-- ---- the choices inside an operation
lsl-known : (n : ℕ) → n < 32 → has_encoder (lsl_i 0 0 n) ≡ true
unfolding has_encoder encoders
lsl-known zero h = refl
lsl-known (suc n) h =
    let e : (32 - suc n) % 32 ≡ 32 - suc n = mod-eq_of_lt (omega arith) in
    rw (e, lt-leb (32 - suc n) (31 - suc n) (omega arith), eq-eqb (suc (31 - suc n)) (32 - suc n) (omega arith))

shift-known : (n : ℕ) → n < 32 → (has_encoder (lsr_i 0 0 n) ≡ true) × (has_encoder (asr_i 0 0 n) ≡ true)
unfolding has_encoder encoders
shift-known n h = (rw (le-leb n 31 (omega arith)), rw (le-leb n 31 (omega arith)))

alu-known : (op : Op) → has_encoder (alu op) ≡ true
unfolding has_encoder encoders
alu-known Add = refl
alu-known Sub = refl
alu-known RSub = refl
alu-known And = refl
alu-known AndNot = refl
alu-known Or = refl
alu-known Xor = refl
alu-known Mul = refl
alu-known Shl = refl
alu-known Shr = refl
alu-known Sar = refl

ext-known : (part : Part) (signed : Bool) → has_encoder (ext part signed) ≡ true
unfolding has_encoder encoders
ext-known PartByte false = refl
ext-known PartByte true = refl
ext-known PartHalf false = refl
ext-known PartHalf true = refl
ext-known PartUpper false = refl
ext-known PartUpper true = refl

cond-known : (q : Cond) → acond q < 15
cond-known Eq = omega arith
cond-known Ne = omega arith
cond-known LtU = omega arith
cond-known GtU = omega arith
cond-known LeU = omega arith
cond-known GeU = omega arith
cond-known LtS = omega arith
cond-known GtS = omega arith
cond-known LeS = omega arith
cond-known GeS = omega arith

rhs-known : (rk : Rk) (v : ℕ) → AllKnown (rhs rk v)
unfolding has_encoder encoders
rhs-known RkReg v = (tt, tt)
rhs-known RkImm v = (tt, tt)
rhs-known RkBit v = (tt, (refl, (refl, tt)))

base-known : (x : Base) → StepKnown (base x)
base-known (Reg r) = tt
base-known Sp = tt

advance-known : (x : Amount) → AllKnown (advance x)
unfolding has_encoder encoders
advance-known (ByReg r) = (tt, (refl, tt))
advance-known (ByInc v) = (tt, tt)

un-known : (k : UnKind) → AllKnown (un k)
unfolding has_encoder encoders
un-known Not = (refl, tt)
un-known Neg = (refl, tt)
un-known Abs = (refl, (refl, tt))
un-known Rev = (refl, tt)
un-known Clz = (refl, tt)
un-known SatS = (tt, (refl, (refl, (tt, (refl, (refl, tt))))))
un-known SatU = (refl, (refl, (tt, (refl, (refl, tt)))))

div_known : (k : DivKind) → AllKnown (div k)
unfolding has_encoder encoders
div_known QuoS = (refl, tt)
div_known QuoU = (refl, tt)
div_known RemS = (refl, (refl, (refl, (refl, tt))))
div_known RemU = (refl, (refl, (refl, (refl, tt))))

low-known : (l : ℕ) (signed : Bool) → AllKnown (low l signed)
unfolding has_encoder encoders
low-known l signed = by (eqb l 0) signed
  where
    by : (u v : Bool) → AllKnown (pick u [] (Step.ins (pick v (sbfx 0 0 0 l) (ubfx 0 0 0 l)) ∷ []))
    by true v = tt
    by false true = (rw (le-leb 0 (0 + l - 1) (omega arith)), tt)
    by false false = (rw (le-leb 0 (0 + l - 1) (omega arith)), tt)

rmw-known : (op : RmwOp) (w : Width) (v i : ℕ) → AllKnown (rmw_value op w v i)
unfolding has_encoder encoders
rmw-known RmwOr w v i = (refl, (tt, (tt, (refl, tt))))
rmw-known RmwAnd w v i = (refl, (tt, (tt, (refl, tt))))
rmw-known RmwXor w v i = (refl, (tt, (tt, (refl, tt))))
rmw-known RmwAdd w v i = (refl, (tt, (tt, (refl, tt))))
rmw-known RmwSub w v i = (refl, (tt, (tt, (refl, tt))))
rmw-known RmwMov w v i = (tt, tt)

choice-known : (k : Choice) → has_encoder (csel 0 0 1 (choice k)) ≡ true
unfolding has_encoder encoders
choice-known MinS = refl
choice-known MaxS = refl
choice-known MinU = refl
choice-known MaxU = refl

ne_known : (u : Bool) → pick u 1 0 < 15
ne_known true = omega arith
ne_known false = omega arith

-- ---- groups
moves-known : (u : Bool) (i k : ℕ) (rs : List ℕ) → AllKnown (move_words u i k rs)
unfolding move_words
moves-known u i k [] = tt
moves-known true i k (r ∷ rs) = (tt, (tt, (tt, moves-known true i (suc k) rs)))
moves-known false i k (r ∷ rs) = (tt, (tt, (tt, moves-known false i (suc k) rs)))

behind-known : (post down : Bool) (n r : ℕ) → AllKnown (move_base post down n r)
behind-known false down n r = tt
behind-known true true n r = (tt, (tt, tt))
behind-known true false n r = (tt, (tt, tt))

pushes-known : (i : ℕ) (rs : List ℕ) → AllKnown (push_all i rs)
unfolding push_all has_encoder encoders
pushes-known i [] = tt
pushes-known i (r ∷ rs) = (tt, (refl, (tt, (tt, (tt, pushes-known i rs)))))

pops-known : (i : ℕ) (rs : List ℕ) → AllKnown (pop_all i rs)
unfolding pop_all has_encoder encoders
pops-known i [] = tt
pops-known i (r ∷ rs) = (tt, (tt, (tt, (tt, (refl, (tt, pops-known i rs))))))

-- ---- the kinds
kind-known : (f : Fast) (i next : ℕ) → AllKnown (lowered f i next)
unfolding lowered has_encoder encoders
kind-known Nop i next = tt
kind-known (MovI d v) i next = (tt, (tt, tt))
kind-known (Mov d s) i next = (tt, (tt, tt))
kind-known (AddRI d s v) i next = (tt, (tt, (tt, tt)))
kind-known (ShlI d s n) i next = (tt, (lsl-known (n % 32) (mod-lt n (omega arith)), (tt, tt)))
kind-known (SarI d s n) i next = (tt, ((shift-known (n % 32) (mod-lt n (omega arith))).1, (tt, tt)))
kind-known (Alu3 d a y op) i next = (tt, (tt, (alu-known op, (tt, tt))))
kind-known (Alu3I d a v op) i next = (tt, (tt, (alu-known op, (tt, tt))))
kind-known (Alu2 d y op) i next = (tt, (tt, (alu-known op, (tt, tt))))
kind-known (Alu2I d v op) i next = (tt, (tt, (alu-known op, (tt, tt))))
kind-known (A4 d s op rk rv) i next = all_append (rhs rk rv) _ (rhs-known rk rv) (tt, (alu-known op, (tt, tt)))
kind-known (Ext d s part signed) i next = (tt, (ext-known part signed, (tt, tt)))
kind-known (MinMax d a y kind) i next = (tt, (tt, (refl, (choice-known kind, (tt, tt)))))
kind-known (Un d s k) i next = (tt, all_append (un k) _ (un-known k) (tt, tt))
kind-known (Div d a y k) i next = (tt, (tt, all_append (div k) _ (div_known k) (tt, tt)))
kind-known (Mov2 dh dl sh sl) i next = (tt, (tt, (tt, (tt, tt))))
kind-known (Mov2I dh dl v) i next = (tt, (tt, (tt, (tt, tt))))
kind-known (BitExt d s p l signed) i next = (tt, ((shift-known (p % 32) (mod-lt p (omega arith))).0, all_append (low (l % 32) signed) _ (low-known (l % 32) signed) (tt, tt)))
kind-known (BitIns d s p l) i next = (tt, (tt, (tt, (refl, (lsl-known (p % 32) (mod-lt p (omega arith)), (tt, (refl, (refl, (tt, tt)))))))))
kind-known (SpAdd v) i next = (tt, (tt, (tt, tt)))
kind-known (RFromSp d v) i next = (tt, (tt, (tt, tt)))
kind-known (Ld d y off w signed) i next = (base-known y, (tt, (tt, (tt, tt))))
kind-known (St s y off w) i next = (base-known y, (tt, (tt, (tt, tt))))
kind-known (LdIdx d y x sh w signed) i next = (tt, (tt, (refl, (tt, (tt, tt)))))
kind-known (StIdx s y x sh w) i next = (tt, (tt, (refl, (tt, (tt, tt)))))
kind-known (LdPost d y w signed inc) i next = (tt, (tt, (tt, (tt, (tt, (tt, tt))))))
kind-known (StPost s y w inc) i next = (tt, (tt, (tt, (tt, (tt, (tt, tt))))))
kind-known (Rmw y w op off v) i next = (tt, (tt, all_append (rmw_value op w v i) _ (rmw-known op w v i) (refl, (tt, tt))))
kind-known PushRet i next = (tt, (refl, (tt, (tt, (tt, tt)))))
kind-known PopRets i next = (tt, (tt, (tt, (tt, (refl, (tt, tt))))))
kind-known (BrI a v cond target) i next = (tt, (tt, (refl, (cond-known cond, tt))))
kind-known (BrR a y cond target) i next = (tt, (tt, (refl, (cond-known cond, tt))))
kind-known (DecBr r cond v target) i next = (tt, (refl, (tt, (tt, (refl, (cond-known cond, tt))))))
kind-known (BitBr r mk ne mv target) i next = all_append (rhs mk mv) _ (rhs-known mk mv) (tt, (refl, (ne_known ne, tt)))
kind-known (Goto target) i next = (tt, tt)
kind-known (Call target) i next = (tt, (tt, (tt, tt)))
kind-known Rts i next = (tt, (tt, tt))
kind-known (GotoR r) i next = (tt, (tt, tt))
kind-known (CallR r) i next = (tt, (tt, (tt, (tt, tt))))
kind-known PopRet i next = (tt, (tt, (refl, (tt, (refl, (tt, (tt, tt)))))))
kind-known (BlockMove r mask u post down) i next =
    let moves = moves-known u i 0 (members mask) in
    (tt, (tt, all_append (move_words u i 0 (members mask)) _ moves (behind-known post down (span mask) r)))
kind-known (PushRets n) i next = (tt, (refl, (tt, (tt, (tt, pushes-known i (reverse (saved n)))))))
kind-known (PopPc n) i next =
    all_append (pop_all i (saved n)) _ (pops-known i (saved n)) (tt, (tt, (refl, (tt, (refl, (tt, (tt, tt)))))))
kind-known (LdPair p y off) i next = (base-known y, (tt, moves-known false i 0 (pair_of p)))
kind-known (StPair p y off) i next = (base-known y, (tt, moves-known true i 0 (pair_of p)))
kind-known (LdPre d y x w signed) i next = (tt, all_append (advance x) _ (advance-known x) (tt, (tt, (tt, tt))))
kind-known (StPre s y x w) i next = (tt, all_append (advance x) _ (advance-known x) (tt, (tt, (tt, tt))))
kind-known (LdPostR d y x w signed) i next = (tt, (tt, (tt, (tt, (tt, (refl, (tt, tt)))))))
kind-known (MemA4 y off op rk rv) i next =
    all_append (rhs rk rv) _ (rhs-known rk rv) (refl, (tt, (tt, (refl, (tt, (refl, (alu-known op, (refl, (refl, (tt, tt))))))))))
kind-known (Tb r half) i next = (tt, (tt, (tt, (refl, (tt, (tt, tt))))))

pub op-known : (o : BOp) (i next : ℕ) → AllKnown (op_steps o i next)
unfolding op_steps
op-known o i next = all_append (lowered o.fast i next) _ (kind-known o.fast i next) (check (uses_bus o.fast))
  where
    check : (u : Bool) → AllKnown (pick u (Step.check_brk o.glue next (i + 1) ∷ []) [])
    check true = (tt, tt)
    check false = tt

ops-known : (i pc : ℕ) (os : List BOp) → AllKnown (ops_steps i pc os)
unfolding ops_steps
ops-known i pc [] = (tt, tt)
ops-known i pc (o ∷ os) = all_append (op_steps o i (behind pc o)) _ (op-known o i (behind pc o)) (rest (may_jump o.fast) (ops-known (i + 1) (behind pc o) os))
  where
    rest : (u : Bool) → AllKnown (ops_steps (i + 1) (behind pc o) os) → AllKnown (pick u [] (ops_steps (i + 1) (behind pc o) os))
    rest true h = tt
    rest false h = h

pub opening-known : Known opening
unfolding opening has_encoder encoders
opening-known = (refl, (refl, (refl, (refl, (refl, (refl, (refl, (refl, (refl, (refl, (refl, (refl, (refl, tt)))))))))))))

pub closing-known : Known closing
unfolding closing has_encoder encoders
closing-known = (refl, (refl, (refl, (refl, (refl, (refl, (refl, tt)))))))

pub block_encodable : (blk : Block) → AddressesFit blk.addresses → GuardFits blk.guard → Encodable (block_code blk)
unfolding block_code Encodable block_steps steps_code step_code step_cache
block_encodable blk z g = (opening-known, (limit-known blk empty_cache z top blk.pc0 blk.n, by (in_flash blk.pc0)))
  where
    ops : Encodable (steps_code blk empty_cache (ops_steps 0 blk.pc0 (ops_of blk)))
    ops = steps-known blk empty_cache z (ops_steps 0 blk.pc0 (ops_of blk)) (ops-known 0 blk.pc0 (ops_of blk))

    guard_step : Step
    guard_step = Step.guard blk.guard.at blk.guard.h_ram_ok blk.pc0

    by : (u : Bool) → Encodable (steps_code blk empty_cache (pick u [] (guard_step ∷ []) ++ ops_steps 0 blk.pc0 (ops_of blk)))
    by true = ops
    by false = (guard-known blk empty_cache z top blk.pc0 blk.guard g, ops)
