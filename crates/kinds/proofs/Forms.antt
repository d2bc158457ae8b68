-- The addressing forms of 2026-09: their steps on the machine between do what the card's step does.
--     place_agrees    Tb behind its load
--     combines        MemA4: what is read at KEEP, combined with KEEP2 and stored there again
-- Assumes nothing.
use mathlib.Core.Path.{◌≡◌, refl, subst, ap, ◌∙◌}
use mathlib.Core.Bool.{Bool, true, false}
use mathlib.Core.Option.{Option, some}
use mathlib.Core.List.{List, [], ◌∷◌}
use Prim.Native.Nat.{ℕ, ◌+◌, ◌-◌, ◌*◌, ◌%◌, ◌^◌, ◌<◌}
use native.Mathlib.Nat.{mod-lt}
use native.Mathlib.Omega.{arith}
use lib.Bits.{and_lt, or_lt, xor_lt}
use Rattle.arm.specs.declared.Size.TheVariants.{W}
use Rattle.arm.specs.declared.AddSub.TheVariants.{Add}
use Rattle.arm.specs.declared.Shift.TheVariants.{Lsl}
use Rattle.arm.specs.declared.Two.TheVariants.{Asrv}
use Rattle.block.specs.declared.Op.{Op}
use Rattle.block.specs.declared.Op.TheVariants.{Add as AddOp, Sub as SubOp, RSub, And, AndNot, Or, Xor, Mul, Shl, Shr, Sar}
use Rattle.block.specs.declared.Rk.{Rk}
use Rattle.block.specs.declared.Rk.TheVariants.{Reg as RkReg, Imm as RkImm, Bit as RkBit}
use Rattle.block.specs.declared.Amount.{Amount}
use Rattle.block.specs.declared.Amount.TheVariants.{Reg as ByReg, Inc as ByInc}
use Rattle.block.specs.declared.Width.{Width}
use Rattle.block.specs.declared.Width.TheVariants.{Byte as B8, Half as B16, Word as B32}
use Rattle.block.specs.declared.Fast.{Fast}
use Rattle.block.specs.declared.Fast.TheVariants.{LdPre, StPre, LdPostR, MemA4, Tb}
use Rattle.block.specs.declared.Block.{Block}
use Rattle.machine.specs.Execute.{add_sub, shifted, two}
use Rattle.card.specs.Word.{plus, shl, alu, complement}
use Rattle.card.specs.Card.{Card, reg, set_reg}
use Rattle.card.specs.Memory.{load}
use Rattle.card.specs.Step.{modify, ind_brk, op_step}
use Rattle.lowering.specs.Instrs.{KEEP, KEEP2, mov, add, lsl_i}
use Rattle.lowering.specs.Steps.{Step, lowered}
use Rattle.lowering.specs.Steps.{alu as alu_ins}
use Rattle.relation.specs.Relation.{Small}
use Rattle.relation.specs.Abs.{Abs, go, upd, kill, seen, mstep, mrun, mdata, and_then, if_got}
use Rattle.relation.specs.Data.{data_of}
use Rattle.kinds.specs.Agrees.{Agrees}
use Rattle.kinds.proofs.Values.{second_is, add-value, add_imm-value, mov-value, lsl-value, shl-value, sar-value, shr-small}
use Rattle.kinds.proofs.Kind.{kind, alu-step}
use Rattle.kinds.proofs.Bus.{loaded, after-load, after_store}
use Rattle.kinds.proofs.Jumps.{looks-brk}

-- a result of 32 bits
alu_lt : (op : Op) (x y : ℕ) → x < 2 ^ 32 → y < 2 ^ 32 → alu op x y < 2 ^ 32
alu_lt AddOp x y hx hy = mod-lt (x + y) (omega arith)
alu_lt SubOp x y hx hy = mod-lt (x + (2 ^ 32 - y)) (omega arith)
alu_lt RSub x y hx hy = mod-lt (y + (2 ^ 32 - x)) (omega arith)
alu_lt And x y hx hy = and_lt 32 x y hx hy
alu_lt AndNot x y hx hy = and_lt 32 x (complement y) hx (omega arith)
alu_lt Or x y hx hy = or_lt 32 x y hx hy
alu_lt Xor x y hx hy = xor_lt 32 x y hx hy
alu_lt Mul x y hx hy = mod-lt (x * y) (omega arith)
alu_lt Shl x y hx hy = mod-lt (x * 2 ^ (y % 32)) (omega arith)
alu_lt Shr x y hx hy = shr-small x (y % 32) hx
alu_lt Sar x y hx hy = subst (λ v. v < 2 ^ 32) (sar-value x y hx) (mod-lt (two W Asrv x y) (omega arith))

module _ (b : Block) (flash : List ℕ) (limit i next : ℕ) (a : Abs) (small : Small a.c) where
  abbrev k : Fast → Type 0
  k f = kind b flash limit i next a small f

  reg_lt : (r : ℕ) → reg a.c r < 2 ^ 32
  reg_lt r = small.regs_lt r

  -- ---- LdPre, StPre: the base goes up first
  pub ld_pre : (d r : ℕ) (x : Amount) (w : Width) (signed : Bool) → k (LdPre d r x w signed)
  unfolding kind op_step mrun lowered mstep upd mdata data_of seen
  ld_pre d r (ByReg s) w signed =
      rw (add-value (reg a.c r) (reg a.c s) (reg_lt r) (reg_lt s))
      (after-load b flash limit i w signed _ _ _ _ (Step.st_reg 0 d ∷ []) (λ v c h. refl))
  ld_pre d r (ByInc v) w signed = after-load b flash limit i w signed _ _ _ _ (Step.st_reg 0 d ∷ []) (λ x c h. refl)

  pub st_pre : (s r : ℕ) (x : Amount) (w : Width) → k (StPre s r x w)
  unfolding kind op_step mrun lowered mstep upd mdata data_of seen
  st_pre s r (ByReg y) w =
      rw (add-value (reg a.c r) (reg a.c y) (reg_lt r) (reg_lt y)) (after_store b flash limit i w true _ _ _ _ _ [] (λ c. refl))
  st_pre s r (ByInc v) w = after_store b flash limit i w true _ _ _ _ _ [] (λ c. refl)

  -- ---- LdPostR: the index stays in KEEP over the load
  -- w0 + KEEP
  index-value : (x y : ℕ) → y < 2 ^ 32 → (add_sub W Add x (shifted W Lsl y 0)).result % 2 ^ 32 ≡ plus x y
  index-value x y h = ap (λ n. (add_sub W Add x n).result % 2 ^ 32) (second_is y y h h) ∙ add_imm-value x y

  pub ld_post_r : (d r x : ℕ) (w : Width) (signed : Bool) → k (LdPostR d r x w signed)
  unfolding kind op_step mrun lowered mstep upd kill mdata data_of seen
  ld_post_r d r x w signed =
      after-load b flash limit i w signed _ _ _ _ (Step.st_reg 0 d ∷ Step.ld_reg 0 r ∷ Step.ins (add 0 0 KEEP) ∷ Step.st_reg 0 r ∷ [])
      (λ v c h. ap (λ n. set_reg r n (set_reg d v c)) (index-value (reg (set_reg d v c) r) (reg a.c x) (reg_lt x)))

  -- ---- Tb: twice what is read, and the address behind
  abbrev looking : List Step
  looking = Step.ins (lsl_i 0 0 1) ∷ Step.add_imm 0 0 next ∷ Step.ind 0 (i + 1) true ∷ []

  place_agrees : (t : ℕ → Option ℕ) (v : ℕ) (c : Card) → v < 2 ^ 32
      → Agrees (ind_brk i (plus (shl v 1) next) c) (mrun b flash limit looking (loaded t v c))
  unfolding mrun mstep upd mdata data_of seen
  place_agrees t v c h = rw (lsl-value v h 1 (omega arith)) (looks-brk i (plus (shl v 1) next) c)

  pub tb : (r : ℕ) (half : Bool) → k (Tb r half)
  unfolding kind op_step mrun lowered mstep upd
  tb r true = after-load b flash limit i B16 false _ _ _ _ looking (λ v c h. place_agrees _ v c h)
  tb r false = after-load b flash limit i B8 false _ _ _ _ looking (λ v c h. place_agrees _ v c h)

  -- ---- MemA4: the address in KEEP, the right-hand side in KEEP2
  abbrev combining : Op → List Step
  combining op = Step.ins (mov 1 KEEP2) ∷ Step.ins (alu_ins op) ∷ Step.ins (mov 1 0) ∷ Step.ins (mov 0 KEEP) ∷ Step.store B32 true i ∷ []

  combines : (op : Op) (p z : ℕ) → p < 2 ^ 32 → z < 2 ^ 32 → (t : ℕ → Option ℕ) → t KEEP ≡ some p → t KEEP2 ≡ some z → (c : Card)
      → Agrees (modify b.memory flash i B32 p (λ v. alu op v z) c)
      (and_then (if_got (load b.memory flash i B32 false p c) (λ v d. go (loaded t v d))) (λ a₁. mrun b flash limit (combining op) a₁))
  unfolding mrun mstep upd kill mdata data_of seen
  combines op p z hp hz t q s c =
      after-load b flash limit i B32 false _ _ _ _ (combining op)
      (λ v d h. rw (s, mov-value z hz, alu-step op v z h hz, mov-value (alu op v z) (alu_lt op v z h hz), q, mov-value p hp)
      (after_store b flash limit i B32 true _ _ _ _ _ [] (λ e. refl)))

  pub mem_a4 : (r off : ℕ) (op : Op) (rk : Rk) (rv : ℕ) → rv < 2 ^ 32 → k (MemA4 r off op rk rv)
  unfolding kind op_step mrun lowered mstep upd mdata data_of seen
  mem_a4 r off op RkReg rv h =
      let z : ℕ = reg a.c (rv % 16) in
      let p : ℕ = plus (reg a.c r) off in
      let hp : p < 2 ^ 32 = mod-lt (reg a.c r + off) (omega arith) in
      rw (mov-value z (reg_lt (rv % 16)), mov-value p hp) (combines op p z hp (reg_lt (rv % 16)) _ refl refl a.c)
  mem_a4 r off op RkImm rv h =
      let p : ℕ = plus (reg a.c r) off in
      let hp : p < 2 ^ 32 = mod-lt (reg a.c r + off) (omega arith) in
      rw (mov-value rv h, mov-value p hp) (combines op p rv hp h _ refl refl a.c)
  mem_a4 r off op RkBit rv h =
      let z : ℕ = shl 1 (reg a.c (rv % 16)) in
      let hz : z < 2 ^ 32 = mod-lt (1 * 2 ^ (reg a.c (rv % 16) % 32)) (omega arith) in
      let p : ℕ = plus (reg a.c r) off in
      let hp : p < 2 ^ 32 = mod-lt (reg a.c r + off) (omega arith) in
      rw (shl-value 1 (reg a.c (rv % 16)) (omega arith), mov-value z hz, mov-value p hp) (combines op p z hp hz _ refl refl a.c)
