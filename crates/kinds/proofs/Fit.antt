-- The steps of a checked operation have numbers that their code can take.
use mathlib.Core.Path.{refl}
use mathlib.Core.Bool.{Bool, true, false}
use mathlib.Core.List.{List, [], ◌∷◌, ◌++◌, reverse}
use Prim.Native.Nat.{ℕ, suc, ◌+◌, ◌-◌, ◌%◌, ◌^◌, ◌<◌, ◌≤◌}
use native.Mathlib.Nat.{mod-lt}
use native.Mathlib.Omega.{arith}
use lib.Dec.{T, eqb, ltb}
use lib.ListN.{length}
use Rattle.block.specs.declared.Op.{Op}
use Rattle.block.specs.declared.Op.TheVariants.{Add, Sub, RSub, And, AndNot, Or, Xor, Mul, Shl, Shr, Sar}
use Rattle.block.specs.declared.RmwOp.{RmwOp}
use Rattle.block.specs.declared.RmwOp.TheVariants.{Or as RmwOr, And as RmwAnd, Xor as RmwXor, Add as RmwAdd, Sub as RmwSub, Mov as RmwMov}
use Rattle.block.specs.declared.Base.{Base}
use Rattle.block.specs.declared.Base.TheVariants.{Reg, Sp}
use Rattle.block.specs.declared.Amount.{Amount}
use Rattle.block.specs.declared.Amount.TheVariants.{Reg as ByReg, Inc as ByInc}
use Rattle.block.specs.declared.Width.{Width}
use Rattle.block.specs.declared.Rk.{Rk}
use Rattle.block.specs.declared.Rk.TheVariants.{Reg as RkReg, Imm as RkImm, Bit as RkBit}
use Rattle.block.specs.declared.Part.{Part}
use Rattle.block.specs.declared.Part.TheVariants.{Byte as PartByte, Half as PartHalf, Upper as PartUpper}
use Rattle.block.specs.declared.UnKind.{UnKind}
use Rattle.block.specs.declared.UnKind.TheVariants.{Not, Neg, Abs, Rev, Clz, SatS, SatU}
use Rattle.block.specs.declared.DivKind.{DivKind}
use Rattle.block.specs.declared.DivKind.TheVariants.{QuoS, QuoU, RemS, RemU}
use Rattle.block.specs.declared.Fast.{Fast}
use Rattle.block.specs.declared.Fast.TheVariants.{Nop, MovI, Mov, AddRI, ShlI, SarI, Alu3, Alu3I, Alu2, Alu2I, A4, Ext, MinMax, Un, Div}
use Rattle.block.specs.declared.Fast.TheVariants.{Mov2, Mov2I, BitExt, BitIns, SpAdd, RFromSp, Ld, St, LdIdx, StIdx, LdPost, StPost, Rmw}
use Rattle.block.specs.declared.Fast.TheVariants.{PushRet, PopRets, BrI, BrR, DecBr, BitBr, Goto, Call, Rts, GotoR, CallR, PopRet}
use Rattle.block.specs.declared.Fast.TheVariants.{BlockMove, PushRets, PopPc, LdPair, StPair, LdPre, StPre, LdPostR, MemA4, Tb}
use Rattle.block.specs.declared.BOp.{BOp}
use Rattle.block.specs.Block.{uses_bus, members, span, saved, pair_of}
use Rattle.block.proofs.Groups.{Registers, members_in, members-few, saved_in, pair_in, reverse_in}
use Rattle.block.specs.Checked.{FastFits, BOpFits, BaseFits, AmountFits}
use Rattle.code.specs.Items.{pick}
use Rattle.lowering.specs.Instrs.{KEEP, mov, sbfx, ubfx}
use Rattle.lowering.specs.Steps.{Step, lowered, op_steps, alu, ext, rhs, base, un, div, low, ones, hole, sign, rmw_value, combined, rets}
use Rattle.lowering.specs.Steps.{advance, move_word, move_words, move_base, push, pop, push_all, pop_all}
use Rattle.lowering.proofs.Groups.{offset_lt}
use Rattle.relation.specs.Relation.{cls}
use Rattle.relation.specs.Fits.{temp, temp_or_zero, on_temps, StepFits, AllFit}
use Rattle.card.specs.Word.{mask}
use Rattle.kinds.proofs.Values.{ones-mask, mask_lt}

pub fit_append : (ss ts : List Step) → AllFit ss → AllFit ts → AllFit (ss ++ ts)
fit_append [] ts h k = k
fit_append (s ∷ ss) ts h k = (h.0, fit_append ss ts h.1 k)

-- ---- the choices inside an operation
alu-fits : (op : Op) → T (on_temps (alu op))
unfolding on_temps temp_or_zero temp cls
alu-fits Add = tt
alu-fits Sub = tt
alu-fits RSub = tt
alu-fits And = tt
alu-fits AndNot = tt
alu-fits Or = tt
alu-fits Xor = tt
alu-fits Mul = tt
alu-fits Shl = tt
alu-fits Shr = tt
alu-fits Sar = tt

ext-fits : (part : Part) (signed : Bool) → T (on_temps (ext part signed))
unfolding on_temps temp_or_zero temp cls
ext-fits PartByte false = tt
ext-fits PartByte true = tt
ext-fits PartHalf false = tt
ext-fits PartHalf true = tt
ext-fits PartUpper false = tt
ext-fits PartUpper true = tt

rhs-fits : (rk : Rk) (v : ℕ) → v < 2 ^ 32 → AllFit (rhs rk v)
unfolding StepFits on_temps temp_or_zero temp cls
rhs-fits RkReg v h = ((refl, mod-lt v (omega arith)), tt)
rhs-fits RkImm v h = ((refl, h), tt)
rhs-fits RkBit v h = ((refl, mod-lt v (omega arith)), (tt, (tt, tt)))

base-fits : (x : Base) → BaseFits x → StepFits (base x)
unfolding StepFits cls
base-fits (Reg r) h = (refl, h)
base-fits Sp h = refl

advance-fits : (x : Amount) → AmountFits x → AllFit (advance x)
unfolding StepFits on_temps temp_or_zero temp cls
advance-fits (ByReg r) h = ((refl, h), (tt, tt))
advance-fits (ByInc v) h = ((refl, refl, (λ e. omega arith), h), tt)

un_fits : (k : UnKind) → AllFit (un k)
unfolding StepFits on_temps temp_or_zero temp cls
un_fits Not = (tt, tt)
un_fits Neg = (tt, tt)
un_fits Abs = (tt, (tt, tt))
un_fits Rev = (tt, tt)
un_fits Clz = (tt, tt)
un_fits SatS = ((refl, omega arith), (tt, (tt, ((refl, omega arith), (tt, (tt, tt))))))
un_fits SatU = (tt, (tt, ((refl, omega arith), (tt, (tt, tt)))))

div-fits : (k : DivKind) → AllFit (div k)
unfolding StepFits on_temps temp_or_zero temp cls
div-fits QuoS = (tt, tt)
div-fits QuoU = (tt, tt)
div-fits RemS = (tt, (tt, (tt, (tt, tt))))
div-fits RemU = (tt, (tt, (tt, (tt, tt))))

low_fits : (l : ℕ) (signed : Bool) → AllFit (low l signed)
unfolding StepFits on_temps temp_or_zero temp cls
low_fits l signed = by (eqb l 0) signed
  where
    by : (u v : Bool) → AllFit (pick u [] (Step.ins (pick v (sbfx 0 0 0 l) (ubfx 0 0 0 l)) ∷ []))
    by true v = tt
    by false true = (tt, tt)
    by false false = (tt, tt)

rmw-fits : (op : RmwOp) (w : Width) (v i : ℕ) → v < 2 ^ 32 → i < 32 → AllFit (rmw_value op w v i)
unfolding StepFits on_temps temp_or_zero temp cls
rmw-fits RmwOr w v i h k = (tt, (k, ((refl, h), (tt, tt))))
rmw-fits RmwAnd w v i h k = (tt, (k, ((refl, h), (tt, tt))))
rmw-fits RmwXor w v i h k = (tt, (k, ((refl, h), (tt, tt))))
rmw-fits RmwAdd w v i h k = (tt, (k, ((refl, h), (tt, tt))))
rmw-fits RmwSub w v i h k = (tt, (k, ((refl, h), (tt, tt))))
rmw-fits RmwMov w v i h k = ((refl, h), tt)

sign_lt : (v : ℕ) → sign v < 2 ^ 32
sign_lt v = by (ltb v (2 ^ 31))
  where
    by : (u : Bool) → pick u 0 (2 ^ 32 - 1) < 2 ^ 32
    by true = omega arith
    by false = omega arith

ones_lt : (l : ℕ) → ones (l % 32) < 2 ^ 32
ones_lt l = rw (ones-mask l) (mask_lt l)

hole_lt : (p l : ℕ) → hole (p % 32) (l % 32) < 2 ^ 32
hole_lt p l = omega arith

-- ---- groups
moved-base-fits : (post down : Bool) (n r : ℕ) → n ≤ 64 → r < 16 → AllFit (move_base post down n r)
unfolding StepFits cls
moved-base-fits false down n r h l = tt
moved-base-fits true true n r h l = ((refl, refl, (λ e. omega arith), omega arith), ((refl, l), tt))
moved-base-fits true false n r h l = ((refl, refl, (λ e. omega arith), omega arith), ((refl, l), tt))

module _ (i : ℕ) (hi : i < 32) where
  word_fits : (u : Bool) (k r : ℕ) → k ≤ 16 → r < 16 → AllFit (move_word u i k r)
  unfolding StepFits cls
  word_fits true k r h l = ((refl, refl, (λ e. omega arith), omega arith), ((refl, l), (hi, tt)))
  word_fits false k r h l = ((refl, refl, (λ e. omega arith), omega arith), (hi, ((refl, l), tt)))

  words-fit : (u : Bool) (k : ℕ) (rs : List ℕ) → k + length rs ≤ 16 → Registers rs → AllFit (move_words u i k rs)
  unfolding move_words
  words-fit u k [] h l = tt
  words-fit u k (r ∷ rs) h l =
      fit_append (move_word u i k r) _ (word_fits u k r (omega arith) l.0) (words-fit u (suc k) rs (omega arith) l.1)

  push-fits : (alone : Bool) (s : Step) → StepFits s → AllFit (push alone i s)
  unfolding StepFits on_temps temp_or_zero temp cls
  push-fits alone s h = (refl, (tt, (refl, (h, (hi, tt)))))

  pop-fits : (s : Step) → StepFits s → AllFit (pop i s)
  unfolding StepFits on_temps temp_or_zero temp cls
  pop-fits s h = (refl, (hi, (h, (refl, (tt, (refl, tt))))))

  pushes-fit : (rs : List ℕ) → Registers rs → AllFit (push_all i rs)
  unfolding push_all StepFits cls
  pushes-fit [] h = tt
  pushes-fit (r ∷ rs) h =
      fit_append (push false i (Step.ld_reg 1 r)) (push_all i rs) (push-fits false (Step.ld_reg 1 r) (refl, h.0)) (pushes-fit rs h.1)

  pops-fit : (rs : List ℕ) → Registers rs → AllFit (pop_all i rs)
  unfolding pop_all StepFits cls
  pops-fit [] h = tt
  pops-fit (r ∷ rs) h =
      fit_append (pop i (Step.st_reg 0 r)) (pop_all i rs) (pop-fits (Step.st_reg 0 r) (refl, h.0)) (pops-fit rs h.1)

  -- the word that is popped to pc
  pc-fits : AllFit (pop i (Step.ins (mov KEEP 0)) ++ (Step.ind KEEP (i + 1) true ∷ []))
  unfolding StepFits on_temps temp_or_zero temp cls
  pc-fits =
      fit_append (pop i (Step.ins (mov KEEP 0))) (Step.ind KEEP (i + 1) true ∷ []) (pop-fits (Step.ins (mov KEEP 0)) tt)
      ((refl, omega arith), tt)

-- ---- the kinds
module _ (i next : ℕ) (hi : i < 32) (hn : next < 2 ^ 32) where
  count_lt : i + 1 < 4096
  count_lt = omega arith

  pub kind_fits : (f : Fast) → FastFits f → AllFit (lowered f i next)
  unfolding lowered StepFits on_temps temp_or_zero temp cls
  kind_fits Nop h = tt
  kind_fits (MovI d v) h = ((refl, h.1), ((refl, h.0), tt))
  kind_fits (Mov d s) h = ((refl, h.1), ((refl, h.0), tt))
  kind_fits (AddRI d s v) h = ((refl, h.1), ((refl, refl, (λ e. omega arith), h.2), ((refl, h.0), tt)))
  kind_fits (ShlI d s n) h = ((refl, h.1), (tt, ((refl, h.0), tt)))
  kind_fits (SarI d s n) h = ((refl, h.1), (tt, ((refl, h.0), tt)))
  kind_fits (Alu3 d x y op) h = ((refl, h.1), ((refl, h.2), (alu-fits op, ((refl, h.0), tt))))
  kind_fits (Alu3I d x v op) h = ((refl, h.1), ((refl, h.2), (alu-fits op, ((refl, h.0), tt))))
  kind_fits (Alu2 d y op) h = ((refl, h.0), ((refl, h.1), (alu-fits op, ((refl, h.0), tt))))
  kind_fits (Alu2I d v op) h = ((refl, h.0), ((refl, h.1), (alu-fits op, ((refl, h.0), tt))))
  kind_fits (A4 d s op rk rv) h = fit_append (rhs rk rv) _ (rhs-fits rk rv h.2) ((refl, h.1), (alu-fits op, ((refl, h.0), tt)))
  kind_fits (Ext d s part signed) h = ((refl, h.1), (ext-fits part signed, ((refl, h.0), tt)))
  kind_fits (MinMax d x y kind) h = ((refl, h.1), ((refl, h.2), (tt, (tt, ((refl, h.0), tt)))))
  kind_fits (Un d s k) h = ((refl, h.1), fit_append (un k) _ (un_fits k) ((refl, h.0), tt))
  kind_fits (Div d x y k) h = ((refl, h.1), ((refl, h.2), fit_append (div k) _ (div-fits k) ((refl, h.0), tt)))
  kind_fits (Mov2 dh dl sh sl) h = ((refl, h.2), ((refl, h.3), ((refl, h.0), ((refl, h.1), tt))))
  kind_fits (Mov2I dh dl v) h = ((refl, h.2), ((refl, h.1), ((refl, sign_lt v), ((refl, h.0), tt))))
  kind_fits (BitExt d s p l signed) h =
      ((refl, h.1), (tt, fit_append (low (l % 32) signed) _ (low_fits (l % 32) signed) ((refl, h.0), tt)))
  kind_fits (BitIns d s p l) h =
      ((refl, h.1), ((refl, h.0), ((refl, ones_lt l), (tt, (tt, ((refl, hole_lt p l), (tt, (tt, ((refl, h.0), tt)))))))))
  kind_fits (SpAdd v) h = (refl, ((refl, refl, (λ e. omega arith), h), (refl, tt)))
  kind_fits (RFromSp d v) h = (refl, ((refl, refl, (λ e. omega arith), h.1), ((refl, h.0), tt)))
  kind_fits (Ld d r o w signed) h = (base-fits r h.1, ((refl, refl, (λ e. omega arith), h.2), (hi, ((refl, h.0), tt))))
  kind_fits (St s r o w) h = (base-fits r h.1, ((refl, refl, (λ e. omega arith), h.2), ((refl, h.0), (hi, tt))))
  kind_fits (LdIdx d r x sh w signed) h = ((refl, h.1), ((refl, h.2), (tt, (hi, ((refl, h.0), tt)))))
  kind_fits (StIdx s r x sh w) h = ((refl, h.1), ((refl, h.2), (tt, ((refl, h.0), (hi, tt)))))
  kind_fits (LdPost d r w signed inc) h =
      ((refl, h.1), (hi, ((refl, h.0), ((refl, h.1), ((refl, refl, (λ e. omega arith), h.2), ((refl, h.1), tt))))))
  kind_fits (StPost s r w inc) h =
      ((refl, h.1), ((refl, h.0), (hi, ((refl, h.1), ((refl, refl, (λ e. omega arith), h.2), ((refl, h.1), tt))))))
  kind_fits (Rmw r w op o v) h =
      let store : AllFit (Step.ins (mov 0 KEEP) ∷ Step.store w true i ∷ []) = (tt, (hi, tt)) in
      ((refl, h.0), ((refl, refl, (λ e. omega arith), h.1), fit_append (rmw_value op w v i) _ (rmw-fits op w v i h.2 hi) store))
  kind_fits PushRet h = push-fits i hi true (Step.ld_field rets 1) refl
  kind_fits PopRets h = pop-fits i hi (Step.st_field rets 0) refl
  kind_fits (BrI r v q target) h = ((refl, h.0), ((refl, h.1), (tt, ((hn, h.2, count_lt), tt))))
  kind_fits (BrR r s q target) h = ((refl, h.0), ((refl, h.1), (tt, ((hn, h.2, count_lt), tt))))
  kind_fits (DecBr r q v target) h = ((refl, h.0), (tt, ((refl, h.0), ((refl, h.1), (tt, ((hn, h.2, count_lt), tt))))))
  kind_fits (BitBr r mk ne mv target) h = fit_append (rhs mk mv) _ (rhs-fits mk mv h.1) ((refl, h.0), (tt, ((hn, h.2, count_lt), tt)))
  kind_fits (Goto target) h = ((h, count_lt), tt)
  kind_fits (Call target) h = ((refl, hn), (refl, ((h, count_lt), tt)))
  kind_fits Rts h = (refl, ((refl, count_lt), tt))
  kind_fits (GotoR r) h = ((refl, h), ((refl, count_lt), tt))
  kind_fits (CallR r) h = ((refl, hn), (refl, ((refl, h), ((refl, count_lt), tt))))
  kind_fits PopRet h = pc-fits i hi
  kind_fits (BlockMove r mask u post down) h = ((refl, h.0), ((refl, refl, (λ e. omega arith), offset_lt down (span mask)), words))
    where
      words : AllFit (move_words u i 0 (members mask) ++ move_base post down (span mask) r)
      words =
          fit_append (move_words u i 0 (members mask)) _
          (words-fit i hi u 0 (members mask) (omega (arith, members-few mask)) (members_in mask))
          (moved-base-fits post down (span mask) r (omega (arith, members-few mask)) h.0)
  kind_fits (PushRets n) h =
      fit_append (push false i (Step.ld_field rets 1)) (push_all i (reverse (saved n))) (push-fits i hi false (Step.ld_field rets 1) refl)
      (pushes-fit i hi (reverse (saved n)) (reverse_in (saved n) (saved_in n h)))
  kind_fits (PopPc n) h = fit_append (pop_all i (saved n)) _ (pops-fit i hi (saved n) (saved_in n h)) (pc-fits i hi)
  kind_fits (LdPair p r o) h =
      (base-fits r h.1, ((refl, refl, (λ e. omega arith), h.2), words-fit i hi false 0 (pair_of p) (omega arith) (pair_in p)))
  kind_fits (StPair p r o) h =
      (base-fits r h.1, ((refl, refl, (λ e. omega arith), h.2), words-fit i hi true 0 (pair_of p) (omega arith) (pair_in p)))
  kind_fits (LdPre d r x w signed) h =
      ((refl, h.1), fit_append (advance x) _ (advance-fits x h.2) ((refl, h.1), (hi, ((refl, h.0), tt))))
  kind_fits (StPre s r x w) h = ((refl, h.1), fit_append (advance x) _ (advance-fits x h.2) ((refl, h.1), ((refl, h.0), (hi, tt))))
  kind_fits (LdPostR d r x w signed) h = ((refl, h.2), ((refl, h.1), (hi, ((refl, h.0), ((refl, h.1), (tt, ((refl, h.1), tt)))))))
  kind_fits (MemA4 r o op rk rv) h =
      let combines : AllFit (combined op i) = (tt, (hi, (tt, (alu-fits op, (tt, (tt, (hi, tt))))))) in
      fit_append (rhs rk rv) _ (rhs-fits rk rv h.2) (tt, ((refl, h.0), ((refl, refl, (λ e. omega arith), h.1), combines)))
  kind_fits (Tb r half) h =
      let next-added : StepFits (Step.add_imm 0 0 next) = (refl, refl, (λ e. omega arith), hn) in
      ((refl, h), (next-added, (hi, (tt, (next-added, ((refl, count_lt), tt))))))

  check-fits : (glue : Bool) → StepFits (Step.check_brk glue next (i + 1))
  unfolding StepFits
  check-fits glue = (hn, count_lt)

  pub op_fits : (o : BOp) → BOpFits o → AllFit (op_steps o i next)
  unfolding op_steps
  op_fits o h = fit_append (lowered o.fast i next) _ (kind_fits o.fast h.fast) (by (uses_bus o.fast))
    where
      by : (u : Bool) → AllFit (pick u (Step.check_brk o.glue next (i + 1) ∷ []) [])
      by true = (check-fits o.glue, tt)
      by false = tt
