-- The steps of a checked operation have numbers that their instructions carry.
use mathlib.Core.Path.{◌≡◌, refl}
use mathlib.Core.Bool.{Bool, true, false}
use mathlib.Core.List.{List, [], ◌∷◌, ◌++◌, reverse}
use Prim.Native.Nat.{ℕ, suc, ◌+◌, ◌-◌, ◌%◌, ◌^◌, ◌<◌, ◌≤◌}
use native.Mathlib.Nat.{mod-lt, pow-le-pow_right}
use native.Mathlib.Omega.{arith}
use lib.Dec.{T, eqb, ltb}
use lib.ListN.{length}
use Rattle.block.specs.declared.Op.{Op}
use Rattle.block.specs.declared.Op.TheVariants.{Add, Sub, RSub, And, AndNot, Or, Xor, Mul, Shl, Shr, Sar}
use Rattle.block.specs.declared.RmwOp.{RmwOp}
use Rattle.block.specs.declared.RmwOp.TheVariants.{Or as RmwOr, And as RmwAnd, Xor as RmwXor, Add as RmwAdd, Sub as RmwSub, Mov as RmwMov}
use Rattle.block.specs.declared.Base.{Base}
use Rattle.block.specs.declared.Base.TheVariants.{Reg, Sp}
use Rattle.block.specs.declared.Amount.{Amount}
use Rattle.block.specs.declared.Amount.TheVariants.{Reg as ByReg, Inc as ByInc}
use Rattle.block.specs.declared.Width.{Width}
use Rattle.block.specs.declared.Rk.{Rk}
use Rattle.block.specs.declared.Rk.TheVariants.{Reg as RkReg, Imm as RkImm, Bit as RkBit}
use Rattle.block.specs.declared.Part.{Part}
use Rattle.block.specs.declared.Part.TheVariants.{Byte as PartByte, Half as PartHalf, Upper as PartUpper}
use Rattle.block.specs.declared.Choice.{Choice}
use Rattle.block.specs.declared.Choice.TheVariants.{MinS, MaxS, MinU, MaxU}
use Rattle.block.specs.declared.Cond.{Cond}
use Rattle.block.specs.declared.Cond.TheVariants.{Eq, Ne, LtU, GtU, LeU, GeU, LtS, GtS, LeS, GeS}
use Rattle.block.specs.declared.UnKind.{UnKind}
use Rattle.block.specs.declared.UnKind.TheVariants.{Not, Neg, Abs, Rev, Clz, SatS, SatU}
use Rattle.block.specs.declared.DivKind.{DivKind}
use Rattle.block.specs.declared.DivKind.TheVariants.{QuoS, QuoU, RemS, RemU}
use Rattle.block.specs.declared.Fast.{Fast}
use Rattle.block.specs.declared.Fast.TheVariants.{Nop, MovI, Mov, AddRI, ShlI, SarI, Alu3, Alu3I, Alu2, Alu2I, A4, Ext, MinMax, Un, Div}
use Rattle.block.specs.declared.Fast.TheVariants.{Mov2, Mov2I, BitExt, BitIns, SpAdd, RFromSp, Ld, St, LdIdx, StIdx, LdPost, StPost, Rmw}
use Rattle.block.specs.declared.Fast.TheVariants.{PushRet, PopRets, BrI, BrR, DecBr, BitBr, Goto, Call, Rts, GotoR, CallR, PopRet}
use Rattle.block.specs.declared.Fast.TheVariants.{BlockMove, PushRets, PopPc, LdPair, StPair, LdPre, StPre, LdPostR, MemA4, Tb}
use Rattle.block.specs.declared.BOp.{BOp}
use Rattle.block.specs.Block.{uses_bus, members, span, saved, pair_of}
use Rattle.block.proofs.Groups.{Registers, members_in, members-few, saved_in, pair_in, reverse_in}
use Rattle.block.specs.Checked.{FastFits, BOpFits, BaseFits, AmountFits}
use Rattle.code.specs.Items.{pick}
use Rattle.lowering.specs.Instrs.{NE, EQ, sbfx, ubfx, lsl_i, lsr_i, asr_i, add_lsl, csel}
use Rattle.lowering.specs.Steps.{Step, lowered, op_steps, alu, acond, choice, ext, rhs, base, un, div, low, ones, hole, sign, rmw_value}
use Rattle.lowering.specs.Steps.{advance, move_word, move_words, move_base, push_all, pop_all}
use Rattle.lowering.proofs.Groups.{offset_lt}
use Rattle.arm.specs.Decode.{carried}
use Rattle.arm.proofs.RoundTrip.{carried_true}
use Rattle.bounds.specs.Sound.{StepFits, AllFit}

pub fit_append : (ss ts : List Step) → AllFit ss → AllFit ts → AllFit (ss ++ ts)
fit_append [] ts h k = k
fit_append (s ∷ ss) ts h k = (h.0, fit_append ss ts h.1 k)

-- ---- instructions with a number to choose
lsl-fits : (n : ℕ) → T (carried (lsl_i 0 0 (n % 32)))
lsl-fits n = carried_true (lsl_i 0 0 (n % 32)) (omega (arith, mod-lt n {m = 32} (omega arith)))

lsr_fits : (n : ℕ) → T (carried (lsr_i 0 0 (n % 32)))
lsr_fits n = carried_true (lsr_i 0 0 (n % 32)) (omega (arith, mod-lt n {m = 32} (omega arith)))

asr_fits : (n : ℕ) → T (carried (asr_i 0 0 (n % 32)))
asr_fits n = carried_true (asr_i 0 0 (n % 32)) (omega (arith, mod-lt n {m = 32} (omega arith)))

add_lsl-fits : (n : ℕ) → T (carried (add_lsl 0 0 1 (n % 32)))
add_lsl-fits n = carried_true (add_lsl 0 0 1 (n % 32)) (omega (arith, mod-lt n {m = 32} (omega arith)))

choice-fits : (k : Choice) → T (carried (csel 0 0 1 (choice k)))
choice-fits MinS = tt
choice-fits MaxS = tt
choice-fits MinU = tt
choice-fits MaxU = tt

acond_lt : (q : Cond) → acond q < 16
acond_lt Eq = omega arith
acond_lt Ne = omega arith
acond_lt LtU = omega arith
acond_lt GtU = omega arith
acond_lt LeU = omega arith
acond_lt GeU = omega arith
acond_lt LtS = omega arith
acond_lt GtS = omega arith
acond_lt LeS = omega arith
acond_lt GeS = omega arith

test_lt : (u : Bool) → pick u NE EQ < 16
test_lt true = omega arith
test_lt false = omega arith

-- ---- the choices inside an operation
alu-fits : (op : Op) → T (carried (alu op))
alu-fits Add = tt
alu-fits Sub = tt
alu-fits RSub = tt
alu-fits And = tt
alu-fits AndNot = tt
alu-fits Or = tt
alu-fits Xor = tt
alu-fits Mul = tt
alu-fits Shl = tt
alu-fits Shr = tt
alu-fits Sar = tt

ext-fits : (part : Part) (signed : Bool) → T (carried (ext part signed))
ext-fits PartByte false = tt
ext-fits PartByte true = tt
ext-fits PartHalf false = tt
ext-fits PartHalf true = tt
ext-fits PartUpper false = tt
ext-fits PartUpper true = tt

rhs-fits : (rk : Rk) (v : ℕ) → v < 4294967296 → AllFit (rhs rk v)
rhs-fits RkReg v h = ((tt, mod-lt v (omega arith)), tt)
rhs-fits RkImm v h = ((tt, h), tt)
rhs-fits RkBit v h = ((tt, mod-lt v (omega arith)), (tt, (tt, tt)))

base-fits : (x : Base) → BaseFits x → StepFits (base x)
base-fits (Reg r) h = (tt, h)
base-fits Sp h = tt

advance-fits : (x : Amount) → AmountFits x → AllFit (advance x)
advance-fits (ByReg r) h = ((tt, h), (tt, tt))
advance-fits (ByInc v) h = ((tt, tt, h), tt)

un_fits : (k : UnKind) → AllFit (un k)
un_fits Not = (tt, tt)
un_fits Neg = (tt, tt)
un_fits Abs = (tt, (tt, tt))
un_fits Rev = (tt, tt)
un_fits Clz = (tt, tt)
un_fits SatS = ((tt, omega arith), (tt, (tt, ((tt, omega arith), (tt, (tt, tt))))))
un_fits SatU = (tt, (tt, ((tt, omega arith), (tt, (tt, tt)))))

div-fits : (k : DivKind) → AllFit (div k)
div-fits QuoS = (tt, tt)
div-fits QuoU = (tt, tt)
div-fits RemS = (tt, (tt, (tt, (tt, tt))))
div-fits RemU = (tt, (tt, (tt, (tt, tt))))

low_fits : (l : ℕ) (signed : Bool) → l < 32 → AllFit (low l signed)
low_fits l signed h = by (eqb l 0) signed refl
  where
    by : (u v : Bool) → eqb l 0 ≡ u → AllFit (pick u [] (Step.ins (pick v (sbfx 0 0 0 l) (ubfx 0 0 0 l)) ∷ []))
    by true v e = tt
    by false true e = (carried_true (sbfx 0 0 0 l) (omega arith), tt)
    by false false e = (carried_true (ubfx 0 0 0 l) (omega arith), tt)

rmw-fits : (op : RmwOp) (w : Width) (v i : ℕ) → v < 4294967296 → i < 4096 → AllFit (rmw_value op w v i)
rmw-fits RmwOr w v i h k = (tt, (k, ((tt, h), (tt, tt))))
rmw-fits RmwAnd w v i h k = (tt, (k, ((tt, h), (tt, tt))))
rmw-fits RmwXor w v i h k = (tt, (k, ((tt, h), (tt, tt))))
rmw-fits RmwAdd w v i h k = (tt, (k, ((tt, h), (tt, tt))))
rmw-fits RmwSub w v i h k = (tt, (k, ((tt, h), (tt, tt))))
rmw-fits RmwMov w v i h k = ((tt, h), tt)

sign_lt : (v : ℕ) → sign v < 4294967296
sign_lt v = by (ltb v (2 ^ 31))
  where
    by : (u : Bool) → pick u 0 (2 ^ 32 - 1) < 4294967296
    by true = omega arith
    by false = omega arith

ones_lt : (l : ℕ) → ones (l % 32) < 4294967296
ones_lt l = by (eqb (l % 32) 0)
  where
    top : 2 ^ (l % 32) ≤ 2 ^ 32
    top = let h : l % 32 ≤ 32 = omega (arith, mod-lt l {m = 32} (omega arith)) in pow-le-pow_right (omega arith) h

    by : (u : Bool) → pick u (2 ^ 32 - 1) (2 ^ (l % 32) - 1) < 4294967296
    by true = omega arith
    by false = omega (arith, top)

hole_lt : (p l : ℕ) → hole (p % 32) (l % 32) < 4294967296
hole_lt p l = omega arith

-- ---- groups
base-behind : (post down : Bool) (n r : ℕ) → n ≤ 64 → r < 16 → AllFit (move_base post down n r)
base-behind false down n r h l = tt
base-behind true true n r h l = ((tt, tt, omega arith), ((tt, l), tt))
base-behind true false n r h l = ((tt, tt, omega arith), ((tt, l), tt))

module _ (i : ℕ) (hi : i < 4096) where
  word_fits : (u : Bool) (k r : ℕ) → k ≤ 16 → r < 16 → AllFit (move_word u i k r)
  word_fits true k r h l = ((tt, tt, omega arith), ((tt, l), (hi, tt)))
  word_fits false k r h l = ((tt, tt, omega arith), (hi, ((tt, l), tt)))

  moves-fit : (u : Bool) (k : ℕ) (rs : List ℕ) → k + length rs ≤ 16 → Registers rs → AllFit (move_words u i k rs)
  unfolding move_words
  moves-fit u k [] h l = tt
  moves-fit u k (r ∷ rs) h l =
      fit_append (move_word u i k r) _ (word_fits u k r (omega arith) l.0) (moves-fit u (suc k) rs (omega arith) l.1)

  pushes-fit : (rs : List ℕ) → Registers rs → AllFit (push_all i rs)
  unfolding push_all
  pushes-fit [] h = tt
  pushes-fit (r ∷ rs) h = (tt, (tt, (tt, ((tt, h.0), (hi, pushes-fit rs h.1)))))

  pops-fit : (rs : List ℕ) → Registers rs → AllFit (pop_all i rs)
  unfolding pop_all
  pops-fit [] h = tt
  pops-fit (r ∷ rs) h = (tt, (hi, ((tt, h.0), (tt, (tt, (tt, pops-fit rs h.1))))))

-- ---- the kinds
module _ (i next : ℕ) (hi : i < 32) (hn : next < 4294967296) where
  pos_lt : i < 4096
  pos_lt = omega arith

  count_lt : i + 1 < 4096
  count_lt = omega arith

  pub kind_fits : (f : Fast) → FastFits f → AllFit (lowered f i next)
  unfolding lowered
  kind_fits Nop h = tt
  kind_fits (MovI d v) h = ((tt, h.1), ((tt, h.0), tt))
  kind_fits (Mov d s) h = ((tt, h.1), ((tt, h.0), tt))
  kind_fits (AddRI d s v) h = ((tt, h.1), ((tt, tt, h.2), ((tt, h.0), tt)))
  kind_fits (ShlI d s n) h = ((tt, h.1), (lsl-fits n, ((tt, h.0), tt)))
  kind_fits (SarI d s n) h = ((tt, h.1), (asr_fits n, ((tt, h.0), tt)))
  kind_fits (Alu3 d x y op) h = ((tt, h.1), ((tt, h.2), (alu-fits op, ((tt, h.0), tt))))
  kind_fits (Alu3I d x v op) h = ((tt, h.1), ((tt, h.2), (alu-fits op, ((tt, h.0), tt))))
  kind_fits (Alu2 d y op) h = ((tt, h.0), ((tt, h.1), (alu-fits op, ((tt, h.0), tt))))
  kind_fits (Alu2I d v op) h = ((tt, h.0), ((tt, h.1), (alu-fits op, ((tt, h.0), tt))))
  kind_fits (A4 d s op rk rv) h = fit_append (rhs rk rv) _ (rhs-fits rk rv h.2) ((tt, h.1), (alu-fits op, ((tt, h.0), tt)))
  kind_fits (Ext d s part signed) h = ((tt, h.1), (ext-fits part signed, ((tt, h.0), tt)))
  kind_fits (MinMax d x y kind) h = ((tt, h.1), ((tt, h.2), (tt, (choice-fits kind, ((tt, h.0), tt)))))
  kind_fits (Un d s k) h = ((tt, h.1), fit_append (un k) _ (un_fits k) ((tt, h.0), tt))
  kind_fits (Div d x y k) h = ((tt, h.1), ((tt, h.2), fit_append (div k) _ (div-fits k) ((tt, h.0), tt)))
  kind_fits (Mov2 dh dl sh sl) h = ((tt, h.2), ((tt, h.3), ((tt, h.0), ((tt, h.1), tt))))
  kind_fits (Mov2I dh dl v) h = ((tt, h.2), ((tt, h.1), ((tt, sign_lt v), ((tt, h.0), tt))))
  kind_fits (BitExt d s p l signed) h =
      let bits = low_fits (l % 32) signed (mod-lt l (omega arith)) in
      ((tt, h.1), (lsr_fits p, fit_append (low (l % 32) signed) _ bits ((tt, h.0), tt)))
  kind_fits (BitIns d s p l) h =
      ((tt, h.1), ((tt, h.0), ((tt, ones_lt l), (tt, (lsl-fits p, ((tt, hole_lt p l), (tt, (tt, ((tt, h.0), tt)))))))))
  kind_fits (SpAdd v) h = (tt, ((tt, tt, h), (tt, tt)))
  kind_fits (RFromSp d v) h = (tt, ((tt, tt, h.1), ((tt, h.0), tt)))
  kind_fits (Ld d r o w signed) h = (base-fits r h.1, ((tt, tt, h.2), (pos_lt, ((tt, h.0), tt))))
  kind_fits (St s r o w) h = (base-fits r h.1, ((tt, tt, h.2), ((tt, h.0), (pos_lt, tt))))
  kind_fits (LdIdx d r x sh w signed) h = ((tt, h.1), ((tt, h.2), (add_lsl-fits sh, (pos_lt, ((tt, h.0), tt)))))
  kind_fits (StIdx s r x sh w) h = ((tt, h.1), ((tt, h.2), (add_lsl-fits sh, ((tt, h.0), (pos_lt, tt)))))
  kind_fits (LdPost d r w signed inc) h = ((tt, h.1), (pos_lt, ((tt, h.0), ((tt, h.1), ((tt, tt, h.2), ((tt, h.1), tt))))))
  kind_fits (StPost s r w inc) h = ((tt, h.1), ((tt, h.0), (pos_lt, ((tt, h.1), ((tt, tt, h.2), ((tt, h.1), tt))))))
  kind_fits (Rmw r w op o v) h =
      ((tt, h.0), ((tt, tt, h.1), fit_append (rmw_value op w v i) _ (rmw-fits op w v i h.2 pos_lt) (tt, (pos_lt, tt))))
  kind_fits PushRet h = (tt, (tt, (tt, (tt, (pos_lt, tt)))))
  kind_fits PopRets h = (tt, (pos_lt, (tt, (tt, (tt, (tt, tt))))))
  kind_fits (BrI r v q target) h = ((tt, h.0), ((tt, h.1), (tt, ((acond_lt q, hn, h.2, count_lt), tt))))
  kind_fits (BrR r s q target) h = ((tt, h.0), ((tt, h.1), (tt, ((acond_lt q, hn, h.2, count_lt), tt))))
  kind_fits (DecBr r q v target) h = ((tt, h.0), (tt, ((tt, h.0), ((tt, h.1), (tt, ((acond_lt q, hn, h.2, count_lt), tt))))))
  kind_fits (BitBr r mk ne mv target) h =
      fit_append (rhs mk mv) _ (rhs-fits mk mv h.1) ((tt, h.0), (tt, ((test_lt ne, hn, h.2, count_lt), tt)))
  kind_fits (Goto target) h = ((h, count_lt), tt)
  kind_fits (Call target) h = ((tt, hn), (tt, ((h, count_lt), tt)))
  kind_fits Rts h = (tt, ((tt, count_lt), tt))
  kind_fits (GotoR r) h = ((tt, h), ((tt, count_lt), tt))
  kind_fits (CallR r) h = ((tt, hn), (tt, ((tt, h), ((tt, count_lt), tt))))
  kind_fits PopRet h = (tt, (pos_lt, (tt, (tt, (tt, (tt, ((tt, count_lt), tt)))))))
  kind_fits (BlockMove r mask u post down) h =
      let n : length (members mask) ≤ 16 = members-few mask in
      let moves = moves-fit i pos_lt u 0 (members mask) (omega arith) (members_in mask) in
      let behind = base-behind post down (span mask) r (omega arith) h.0 in
      ((tt, h.0), ((tt, tt, offset_lt down (span mask)), fit_append (move_words u i 0 (members mask)) _ moves behind))
  kind_fits (PushRets n) h =
      (tt, (tt, (tt, (tt, (pos_lt, pushes-fit i pos_lt (reverse (saved n)) (reverse_in (saved n) (saved_in n h)))))))
  kind_fits (PopPc n) h =
      fit_append (pop_all i (saved n)) _ (pops-fit i pos_lt (saved n) (saved_in n h))
      (tt, (pos_lt, (tt, (tt, (tt, (tt, ((tt, count_lt), tt)))))))
  kind_fits (LdPair p r o) h = (base-fits r h.1, ((tt, tt, h.2), moves-fit i pos_lt false 0 (pair_of p) (omega arith) (pair_in p)))
  kind_fits (StPair p r o) h = (base-fits r h.1, ((tt, tt, h.2), moves-fit i pos_lt true 0 (pair_of p) (omega arith) (pair_in p)))
  kind_fits (LdPre d r x w signed) h =
      ((tt, h.1), fit_append (advance x) _ (advance-fits x h.2) ((tt, h.1), (pos_lt, ((tt, h.0), tt))))
  kind_fits (StPre s r x w) h = ((tt, h.1), fit_append (advance x) _ (advance-fits x h.2) ((tt, h.1), ((tt, h.0), (pos_lt, tt))))
  kind_fits (LdPostR d r x w signed) h = ((tt, h.2), ((tt, h.1), (pos_lt, ((tt, h.0), ((tt, h.1), (tt, ((tt, h.1), tt)))))))
  kind_fits (MemA4 r o op rk rv) h =
      fit_append (rhs rk rv) _ (rhs-fits rk rv h.2)
      (tt, ((tt, h.0), ((tt, tt, h.1), (tt, (pos_lt, (tt, (alu-fits op, (tt, (tt, (pos_lt, tt))))))))))
  kind_fits (Tb r half) h = ((tt, h), ((tt, tt, hn), (pos_lt, (tt, ((tt, tt, hn), ((tt, count_lt), tt))))))

  check-fits : (glue : Bool) → StepFits (Step.check_brk glue next (i + 1))
  check-fits glue = (hn, count_lt)

  pub op_fits : (o : BOp) → BOpFits o → AllFit (op_steps o i next)
  unfolding op_steps
  op_fits o h = fit_append (lowered o.fast i next) _ (kind_fits o.fast h.fast) (by (uses_bus o.fast))
    where
      by : (u : Bool) → AllFit (pick u (Step.check_brk o.glue next (i + 1) ∷ []) [])
      by true = (check-fits o.glue, tt)
      by false = tt
