-- The kinds without memory: their steps on the machine between do what the card's step does.
use mathlib.Core.Path.{◌≡◌, refl, ap, ap₂, ◌∙◌}
use mathlib.Core.Bool.{Bool, true, false, cond}
use mathlib.Core.Option.{some}
use mathlib.Core.List.{List}
use Prim.Native.Nat.{ℕ, ◌+◌, ◌-◌, ◌*◌, ◌%◌, ◌^◌, ◌<◌, ◌≤◌}
use native.Mathlib.Omega.{arith}
use native.Mathlib.Nat.{mod-lt}
use lib.Bits.{bit_and, bit_or, and_lt}
use lib.Dec.{eqb}
use lib.IntN.{pos, ◌-ℤ◌}
use mathlib.Core.Logic.{◌≢◌}
use borrow.Author.Tests.{eqb-false}
use Rattle.arm.specs.declared.Size.TheVariants.{W}
use Rattle.arm.specs.declared.AddSub.TheVariants.{Sub}
use Rattle.arm.specs.declared.Shift.TheVariants.{Lsl}
use Rattle.arm.specs.declared.Extract.TheVariants.{Sbfm, Ubfm}
use Rattle.arm.specs.declared.Two.TheVariants.{Lslv}
use Rattle.arm.specs.declared.Three.TheVariants.{Msub}
use Rattle.block.specs.declared.Op.{Op}
use Rattle.block.specs.declared.Op.TheVariants.{Add, Sub as SubOp, RSub, And, AndNot, Or, Xor, Mul, Shl, Shr, Sar}
use Rattle.block.specs.declared.Cond.{Cond}
use Rattle.block.specs.declared.Cond.TheVariants.{LtU, GtU, LtS, GtS}
use Rattle.block.specs.declared.Rk.{Rk}
use Rattle.block.specs.declared.Rk.TheVariants.{Reg as RkReg, Imm as RkImm, Bit as RkBit}
use Rattle.block.specs.declared.Part.{Part}
use Rattle.block.specs.declared.Part.TheVariants.{Byte as PartByte, Half as PartHalf, Upper as PartUpper}
use Rattle.block.specs.declared.Choice.{Choice}
use Rattle.block.specs.declared.Choice.TheVariants.{MinS, MaxS, MinU, MaxU}
use Rattle.block.specs.declared.UnKind.{UnKind}
use Rattle.block.specs.declared.UnKind.TheVariants.{Not, Neg, Abs as AbsKind, Rev, Clz, SatS, SatU}
use Rattle.block.specs.declared.DivKind.{DivKind}
use Rattle.block.specs.declared.DivKind.TheVariants.{QuoS, QuoU, RemS, RemU}
use Rattle.block.specs.declared.Fast.{Fast}
use Rattle.block.specs.declared.Fast.TheVariants.{Nop, MovI, Mov, AddRI, ShlI, SarI, Alu3, Alu3I, Alu2, Alu2I, A4, Ext, MinMax, Un, Div, Mov2, Mov2I, BitExt, BitIns, SpAdd, RFromSp}
use Rattle.block.specs.declared.Block.{Block}
use Rattle.machine.specs.Bits.{Nzcv, ConditionHolds}
use Rattle.machine.specs.Execute.{add_sub, shifted, two, three, extracted}
use Rattle.machine.proofs.Flags.{compared}
use Rattle.card.specs.Word.{minus, complement, shl, shr, alu, holds, choose, at_most, at_least, remainder, quot_s, quot_u, bits_of, mask}
use Rattle.card.specs.Card.{reg, set_reg}
use Rattle.card.specs.Step.{op_step}
use Rattle.lowering.specs.Steps.{lowered}
use Rattle.lowering.specs.Steps.{acond}
use Rattle.lowering.specs.Steps.{alu as alu_ins}
use Rattle.relation.specs.Relation.{Small}
use Rattle.relation.specs.Abs.{Abs, go, upd, seen, mstep, mrun, mdata, mins}
use Rattle.relation.specs.Data.{data_of}
use Rattle.kinds.specs.Agrees.{Agrees}
use Rattle.kinds.proofs.Values.{second_is, add-value, sub-value, and_value, bic-value, or_value, xor_value, mul-value, shl-value, shr-value, sar-value, lsl-value, asr_value, lsr_value, ubfx-value, sbfx-value, mvn-value, negated, rev-value, clz-value, quot_s-value, quot_u-value, rem_value, bits_lt, sign-is, shr-small, ones-mask, mask_lt, hole_is}
use Rattle.kinds.proofs.Conditions.{test, chosen, unless-zero, select_most, select_least, cond_lt, below-zero}

-- the machine between with w0 set
abbrev pub with0 : ℕ → Abs → Abs
with0 v a = record { c = a.c; t = upd a.t 0 (some v); f = a.f }

-- w0 = op(w0, w1)
pub alu-step : (op : Op) (x y : ℕ) → x < 2 ^ 32 → y < 2 ^ 32 → (a : Abs) → a.t 0 ≡ some x → a.t 1 ≡ some y → mins (data_of (alu_ins op)) a ≡ go (with0 (alu op x y) a)
unfolding data_of mdata seen
alu-step Add x y hx hy a p q = rw (p, q) (ap (λ v. go (with0 v a)) (add-value x y hx hy))
alu-step SubOp x y hx hy a p q = rw (p, q) (ap (λ v. go (with0 v a)) (sub-value x y hx hy))
alu-step RSub x y hx hy a p q = rw (p, q) (ap (λ v. go (with0 v a)) (sub-value y x hy hx))
alu-step And x y hx hy a p q = rw (p, q) (ap (λ v. go (with0 v a)) (and_value x y hx hy))
alu-step AndNot x y hx hy a p q = rw (p, q) (ap (λ v. go (with0 v a)) (bic-value x y hx hy))
alu-step Or x y hx hy a p q = rw (p, q) (ap (λ v. go (with0 v a)) (or_value x y hx hy))
alu-step Xor x y hx hy a p q = rw (p, q) (ap (λ v. go (with0 v a)) (xor_value x y hx hy))
alu-step Mul x y hx hy a p q = rw (p, q) (ap (λ v. go (with0 v a)) (mul-value x y hx hy))
alu-step Shl x y hx hy a p q = rw (p, q) (ap (λ v. go (with0 v a)) (shl-value x y hx))
alu-step Shr x y hx hy a p q = rw (p, q) (ap (λ v. go (with0 v a)) (shr-value x y hx))
alu-step Sar x y hx hy a p q = rw (p, q) (ap (λ v. go (with0 v a)) (sar-value x y hx))

-- the flags of cmp w0, w1
pub compared_is : (x y : ℕ) → y < 2 ^ 32 → x < 2 ^ 32 → (add_sub W Sub x (shifted W Lsl y 0)).nzcv ≡ compared W x y
compared_is x y hy hx = ap (λ k. (add_sub W Sub x k).nzcv) (second_is x y hx hy)

-- cmp, and a select by a condition on the flags
select_value : (g : Nzcv → ℕ) (x y : ℕ) (hx : x < 2 ^ 32) (hy : y < 2 ^ 32) {v : ℕ} → g (compared W x y) ≡ v → g (add_sub W Sub x (shifted W Lsl y 0)).nzcv ≡ v
select_value g x y hx hy e = ap g (compared_is x y hy hx) ∙ e

module _ (b : Block) (flash : List ℕ) (limit i next : ℕ) (a : Abs) (small : Small a.c) where
  unfoldable pub kind : Fast → Type 0
  kind f = Agrees (op_step b.memory flash i next f a.c) (mrun b flash limit (lowered f i next) a)

  reg_lt : (r : ℕ) → reg a.c r < 2 ^ 32
  reg_lt r = small.regs_lt r

  pub nop : kind Nop
  unfolding kind op_step mrun lowered
  nop = refl

  pub mov_i : (d v : ℕ) → kind (MovI d v)
  unfolding kind op_step mrun lowered mstep upd
  mov_i d v = refl

  pub mov : (d s : ℕ) → kind (Mov d s)
  unfolding kind op_step mrun lowered mstep upd
  mov d s = refl

  pub add_ri : (d s v : ℕ) → kind (AddRI d s v)
  unfolding kind op_step mrun lowered mstep upd
  add_ri d s v = refl

  pub shl_i : (d s n : ℕ) → kind (ShlI d s n)
  unfolding kind op_step mrun lowered mstep upd mdata data_of seen
  shl_i d s n = ap (λ v. set_reg d v a.c) (lsl-value (reg a.c s) (reg_lt s) (n % 32) (mod-lt n (omega arith)))

  pub sar_i : (d s n : ℕ) → kind (SarI d s n)
  unfolding kind op_step mrun lowered mstep upd mdata data_of seen
  sar_i d s n = ap (λ v. set_reg d v a.c) (asr_value (reg a.c s) (reg_lt s) (n % 32) (mod-lt n (omega arith)))

  pub alu3 : (d x y : ℕ) (op : Op) → kind (Alu3 d x y op)
  unfolding kind op_step mrun lowered mstep upd
  alu3 d x y op = rw (alu-step op (reg a.c x) (reg a.c y) (reg_lt x) (reg_lt y)) refl

  pub alu3_i : (d x v : ℕ) (op : Op) → v < 2 ^ 32 → kind (Alu3I d x v op)
  unfolding kind op_step mrun lowered mstep upd
  alu3_i d x v op h = rw (alu-step op (reg a.c x) v (reg_lt x) h) refl

  pub alu2 : (d y : ℕ) (op : Op) → kind (Alu2 d y op)
  unfolding kind op_step mrun lowered mstep upd
  alu2 d y op = rw (alu-step op (reg a.c d) (reg a.c y) (reg_lt d) (reg_lt y)) refl

  pub alu2_i : (d v : ℕ) (op : Op) → v < 2 ^ 32 → kind (Alu2I d v op)
  unfolding kind op_step mrun lowered mstep upd
  alu2_i d v op h = rw (alu-step op (reg a.c d) v (reg_lt d) h) refl

  pub ext-kind : (d s : ℕ) (part : Part) (signed : Bool) → kind (Ext d s part signed)
  unfolding kind op_step mrun lowered mstep upd mdata data_of seen
  ext-kind d s PartByte false = ap (λ v. set_reg d v a.c) (ubfx-value (reg a.c s) (reg_lt s) 0 8 (omega arith) (omega arith))
  ext-kind d s PartByte true = ap (λ v. set_reg d v a.c) (sbfx-value (reg a.c s) (reg_lt s) 0 8 (omega arith) (omega arith))
  ext-kind d s PartHalf false = ap (λ v. set_reg d v a.c) (ubfx-value (reg a.c s) (reg_lt s) 0 16 (omega arith) (omega arith))
  ext-kind d s PartHalf true = ap (λ v. set_reg d v a.c) (sbfx-value (reg a.c s) (reg_lt s) 0 16 (omega arith) (omega arith))
  ext-kind d s PartUpper false = ap (λ v. set_reg d v a.c) (ubfx-value (reg a.c s) (reg_lt s) 16 16 (omega arith) (omega arith))
  ext-kind d s PartUpper true = ap (λ v. set_reg d v a.c) (sbfx-value (reg a.c s) (reg_lt s) 16 16 (omega arith) (omega arith))

  pub mov2 : (dh dl sh sl : ℕ) → kind (Mov2 dh dl sh sl)
  unfolding kind op_step mrun lowered mstep upd
  mov2 dh dl sh sl = refl

  pub sp_add : (v : ℕ) → kind (SpAdd v)
  unfolding kind op_step mrun lowered mstep upd
  sp_add v = refl

  pub r_from_sp : (d v : ℕ) → kind (RFromSp d v)
  unfolding kind op_step mrun lowered mstep upd
  r_from_sp d v = refl

  -- cmp and csel of the registers x and y
  picked : (q : Cond) (x y : ℕ) → cond (ConditionHolds (acond q) (add_sub W Sub (reg a.c x) (shifted W Lsl (reg a.c y) 0)).nzcv) (reg a.c x) (reg a.c y) % 2 ^ 32 ≡ choose q (reg a.c x) (reg a.c y)
  picked q x y =
      let u : ℕ = reg a.c x in
      let v : ℕ = reg a.c y in
      select_value (λ g. cond (ConditionHolds (acond q) g) u v % 2 ^ 32) u v (reg_lt x) (reg_lt y) (chosen q u v (reg_lt x) (reg_lt y))

  pub min_max-kind : (d x y : ℕ) (k : Choice) → kind (MinMax d x y k)
  unfolding kind op_step mrun lowered mstep upd mdata data_of seen
  min_max-kind d x y MinS = ap (λ v. set_reg d v a.c) (picked LtS x y)
  min_max-kind d x y MaxS = ap (λ v. set_reg d v a.c) (picked GtS x y)
  min_max-kind d x y MinU = ap (λ v. set_reg d v a.c) (picked LtU x y)
  min_max-kind d x y MaxU = ap (λ v. set_reg d v a.c) (picked GtU x y)

  pub un-kind : (d s : ℕ) (k : UnKind) → kind (Un d s k)
  unfolding kind op_step mrun lowered mstep upd mdata data_of seen
  un-kind d s Not = ap (λ v. set_reg d v a.c) (mvn-value (reg a.c s) (reg_lt s))
  un-kind d s Neg = ap (λ v. set_reg d v a.c) (sub-value 0 (reg a.c s) (omega arith) (reg_lt s))
  un-kind d s AbsKind =
      let x : ℕ = reg a.c s in
      ap (λ v. set_reg d v a.c) (ap (λ n. cond (ConditionHolds 10 (compared W x 0)) x n % 2 ^ 32) (negated x (reg_lt s)) ∙ below-zero x (minus 0 x) (reg_lt s) (mod-lt (0 + (2 ^ 32 - x)) (omega arith)))
  un-kind d s Rev = ap (λ v. set_reg d v a.c) (rev-value (reg a.c s))
  un-kind d s Clz = ap (λ v. set_reg d v a.c) (clz-value (reg a.c s))
  un-kind d s SatS =
      let x : ℕ = reg a.c s in
      let y : ℕ = at_most 0x7fff x in
      let hy : y < 2 ^ 32 = cond_lt (holds GtS x 0x7fff) 0x7fff x (omega arith) (reg_lt s) in
      ap (λ v. set_reg d v a.c)
      (ap (λ v. cond (ConditionHolds 11 (add_sub W Sub v (shifted W Lsl 0xffff8000 0)).nzcv) 0xffff8000 v % 2 ^ 32)
      (select_value (λ g. cond (ConditionHolds 12 g) 0x7fff x % 2 ^ 32) x 0x7fff (reg_lt s) (omega arith) (select_most 0x7fff x (omega arith) (reg_lt s)))
      ∙ select_value (λ g. cond (ConditionHolds 11 g) 0xffff8000 y % 2 ^ 32) y 0xffff8000 hy (omega arith) (select_least 0xffff8000 y (omega arith) hy))
  un-kind d s SatU =
      let x : ℕ = reg a.c s in
      let y : ℕ = at_least 0 x in
      let hy : y < 2 ^ 32 = cond_lt (holds LtS x 0) 0 x (omega arith) (reg_lt s) in
      ap (λ v. set_reg d v a.c)
      (ap (λ v. cond (ConditionHolds 12 (add_sub W Sub v (shifted W Lsl 0xffff 0)).nzcv) 0xffff v % 2 ^ 32) (select_least 0 x (omega arith) (reg_lt s))
      ∙ select_value (λ g. cond (ConditionHolds 12 g) 0xffff y % 2 ^ 32) y 0xffff hy (omega arith) (select_most 0xffff y (omega arith) hy))

  pub mov2_i : (dh dl v : ℕ) → v < 2 ^ 32 → kind (Mov2I dh dl v)
  unfolding kind op_step mrun lowered mstep upd
  mov2_i dh dl v h = ap (λ k. set_reg dh k (set_reg dl v a.c)) (sign-is v h)

  -- the three instructions behind a quotient q
  remains : (q x y : ℕ) → y < 2 ^ 32 → cond (ConditionHolds 0 (compared W y 0)) 0 (three Msub x q y % 2 ^ 32) % 2 ^ 32 ≡ remainder q x y
  remains q x y hy =
      ap (λ v. cond (ConditionHolds 0 (compared W y 0)) 0 v % 2 ^ 32) (rem_value q x y) ∙ unless-zero y (bits_of (pos x -ℤ pos (q * y))) hy (bits_lt (pos x -ℤ pos (q * y)))

  pub div-kind : (d x y : ℕ) (k : DivKind) → kind (Div d x y k)
  unfolding kind op_step mrun lowered mstep upd mdata data_of seen
  div-kind d x y QuoS = ap (λ v. set_reg d v a.c) (quot_s-value (reg a.c x) (reg a.c y))
  div-kind d x y QuoU = ap (λ v. set_reg d v a.c) (quot_u-value (reg a.c x) (reg a.c y) (reg_lt x))
  div-kind d x y RemS =
      let u : ℕ = reg a.c x in
      let v : ℕ = reg a.c y in
      ap (λ k. set_reg d k a.c) (ap (λ q. cond (ConditionHolds 0 (compared W v 0)) 0 (three Msub u q v % 2 ^ 32) % 2 ^ 32) (quot_s-value u v) ∙ remains (quot_s u v) u v (reg_lt y))
  div-kind d x y RemU =
      let u : ℕ = reg a.c x in
      let v : ℕ = reg a.c y in
      ap (λ k. set_reg d k a.c) (ap (λ q. cond (ConditionHolds 0 (compared W v 0)) 0 (three Msub u q v % 2 ^ 32) % 2 ^ 32) (quot_u-value u v (reg_lt x)) ∙ remains (quot_u u v) u v (reg_lt y))

  shr_lt32 : (s p : ℕ) → shr (reg a.c s) p < 2 ^ 32
  shr_lt32 s p = shr-small (reg a.c s) (p % 32) (reg_lt s)

  pub bit_ext-kind : (d s p l : ℕ) (signed : Bool) → kind (BitExt d s p l signed)
  unfolding kind op_step mrun lowered mstep upd mdata data_of seen
  bit_ext-kind d s p l signed = test (eqb (l % 32) 0) zero-length (some_length signed)
    where
      positive : eqb (l % 32) 0 ≡ false → 0 < l % 32
      positive e = let n : l % 32 ≢ 0 = eqb-false (l % 32) 0 e in omega arith

      below : eqb (l % 32) 0 ≡ false → l % 32 ≤ 32
      below e = omega (arith, mod-lt l {m = 32} (omega arith))

      shifted_is : extracted W Ubfm (p % 32) 31 0 (reg a.c s) % 2 ^ 32 ≡ shr (reg a.c s) p
      shifted_is = lsr_value (reg a.c s) (reg_lt s) (p % 32) (mod-lt p (omega arith))

      zero-length : eqb (l % 32) 0 ≡ true → kind (BitExt d s p l signed)
      zero-length e = rw e (ap (λ v. set_reg d v a.c) shifted_is)

      some_length : (u : Bool) → eqb (l % 32) 0 ≡ false → kind (BitExt d s p l u)
      some_length false e =
          rw e (ap (λ v. set_reg d v a.c) (ap (λ x. extracted W Ubfm 0 (0 + l % 32 - 1) 0 x % 2 ^ 32) shifted_is
          ∙ ubfx-value (shr (reg a.c s) p) (shr_lt32 s p) 0 (l % 32) (positive e) (below e)))
      some_length true e =
          rw e (ap (λ v. set_reg d v a.c) (ap (λ x. extracted W Sbfm 0 (0 + l % 32 - 1) 0 x % 2 ^ 32) shifted_is
          ∙ sbfx-value (shr (reg a.c s) p) (shr_lt32 s p) 0 (l % 32) (positive e) (below e)))

  pub bit_ins-kind : (d s p l : ℕ) → kind (BitIns d s p l)
  unfolding kind op_step mrun lowered mstep upd mdata data_of seen
  bit_ins-kind d s p l =
      let x : ℕ = reg a.c s in
      let y : ℕ = reg a.c d in
      let m : ℕ = mask l in
      let h : ℕ = complement (shl m p) in
      ap (λ v. set_reg d v a.c)
      (ap₂ (λ u v. bit_or (extracted W Ubfm ((32 - p % 32) % 32) (31 - p % 32) 0 (bit_and x (shifted W Lsl u 0) % 2 ^ 32) % 2 ^ 32) (shifted W Lsl (bit_and y (shifted W Lsl v 0) % 2 ^ 32) 0) % 2 ^ 32) (ones-mask l) (hole_is p l)
      ∙ ap₂ (λ u v. bit_or (extracted W Ubfm ((32 - p % 32) % 32) (31 - p % 32) 0 u % 2 ^ 32) (shifted W Lsl v 0) % 2 ^ 32) (and_value x m (reg_lt s) (mask_lt l)) (and_value y h (reg_lt d) (hole_lt m))
      ∙ ap (λ u. bit_or u (shifted W Lsl (bit_and y h) 0) % 2 ^ 32) (lsl-value (bit_and x m) (and_lt 32 x m (reg_lt s) (mask_lt l)) (p % 32) (mod-lt p (omega arith)))
      ∙ or_value (shl (bit_and x m) p) (bit_and y h) (mod-lt (bit_and x m * 2 ^ (p % 32)) (omega arith)) (and_lt 32 y h (reg_lt d) (hole_lt m)))
    where
      hole_lt : (m : ℕ) → complement (shl m p) < 2 ^ 32
      hole_lt m = omega arith

  -- the bit that a register names
  a4-bit : (d s : ℕ) (op : Op) (rv : ℕ) → kind (A4 d s op RkBit rv)
  unfolding kind op_step mrun lowered mstep upd mdata data_of seen
  a4-bit d s op rv =
      let n : ℕ = reg a.c (rv % 16) in
      rw (alu-step op (reg a.c s) (two W Lslv 1 n % 2 ^ 32) (reg_lt s) (mod-lt (two W Lslv 1 n) (omega arith)))
      (ap (λ v. set_reg d (alu op (reg a.c s) v) a.c) (shl-value 1 n (omega arith)))

  pub a4 : (d s : ℕ) (op : Op) (rk : Rk) (rv : ℕ) → rv < 2 ^ 32 → kind (A4 d s op rk rv)
  unfolding kind op_step mrun lowered mstep upd
  a4 d s op RkReg rv h = rw (alu-step op (reg a.c s) (reg a.c (rv % 16)) (reg_lt s) (reg_lt (rv % 16))) refl
  a4 d s op RkImm rv h = rw (alu-step op (reg a.c s) rv (reg_lt s) h) refl
  a4 d s op RkBit rv h = a4-bit d s op rv
