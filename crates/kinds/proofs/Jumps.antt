-- The kinds that jump: their steps on the machine between leave as the card's step does.
use mathlib.Core.Path.{◌≡◌, refl, ap, ◌∙◌}
use mathlib.Core.Bool.{Bool, true, false, cond, not}
use mathlib.Core.List.{List, [], ◌∷◌, ◌++◌}
use Prim.Native.Nat.{ℕ, suc, ◌+◌, ◌-◌, ◌*◌, ◌%◌, ◌^◌, ◌<◌}
use native.Mathlib.Numerals.{add-one}
use native.Mathlib.Omega.{arith}
use native.Mathlib.Nat.{mod-lt}
use lib.Bits.{bit_and}
use lib.Dec.{eqb}
use Rattle.arm.specs.declared.Size.TheVariants.{W}
use Rattle.arm.specs.declared.AddSub.TheVariants.{Sub}
use Rattle.arm.specs.declared.Shift.TheVariants.{Lsl}
use Rattle.block.specs.declared.Cond.{Cond}
use Rattle.block.specs.declared.Cond.TheVariants.{Eq, Ne}
use Rattle.block.specs.declared.Width.TheVariants.{Word as B32}
use Rattle.block.specs.declared.Rk.{Rk}
use Rattle.block.specs.declared.Rk.TheVariants.{Reg as RkReg, Imm as RkImm, Bit as RkBit}
use Rattle.block.specs.declared.Fast.{Fast}
use Rattle.block.specs.declared.Fast.TheVariants.{BrI, BrR, DecBr, BitBr, Goto, Call, Rts, GotoR, CallR, PopRet}
use Rattle.block.specs.declared.Block.{Block}
use Rattle.machine.specs.Bits.{ConditionHolds}
use Rattle.machine.specs.Execute.{add_sub, shifted, test_flags}
use Rattle.machine.proofs.Flags.{tst_eq, tst_ne}
use Rattle.card.specs.Word.{minus, shl, holds}
use Rattle.card.specs.Card.{Card, reg, set_reg, set_rets, add_sp, arrive}
use Rattle.card.specs.Step.{exits, chains, looks_up, out, fork, ind, pop, ind_brk, op_step}
use Rattle.code.specs.Items.{pick}
use Rattle.lowering.specs.Instrs.{KEEP, mov, add_i}
use Rattle.lowering.specs.Steps.{Step, sp, lowered, acond}
use Rattle.lowering.specs.Steps.{pop as pop_steps}
use Rattle.relation.specs.Relation.{Small}
use Rattle.relation.specs.Abs.{Abs, Then, go, off, upd, seen, mstep, mrun, mdata, and_then}
use Rattle.relation.specs.Data.{data_of}
use Rattle.kinds.specs.Agrees.{Agrees}
use Rattle.kinds.proofs.Values.{second_is, mov-value, add_imm-value, sub_imm_value, shl-value}
use Rattle.kinds.proofs.Conditions.{cond_means}
use Rattle.kinds.proofs.Kind.{kind, compared_is}
use Rattle.kinds.proofs.Bus.{Always, after-load}

-- two ways out by one test
forks : (u v : Bool) (i next target : ℕ) (c : Card) → v ≡ u
    → Agrees (fork u i next target c)
    (and_then (cond v (off (chains 1) (arrive target (i + 1) c)) (off (chains 0) (arrive next (i + 1) c))) (λ a. go a))
forks true v i next target c e = rw e (refl, ap (λ n. arrive target n c) (add-one i))
forks false v i next target c e = rw e (refl, ap (λ n. arrive next n c) (add-one i))

-- a lookup, with or without the break word asked first
looks : (i target : ℕ) (c : Card) → Agrees (ind i target c) (off looks_up (arrive target (i + 1) c))
looks i target c = (refl, ap (λ n. arrive target n c) (add-one i))

abbrev found : (brk : Bool) → (target count : ℕ) → Card → Then
found u target n c = and_then (cond u (off exits (arrive target n c)) (off looks_up (arrive target n c))) (λ a. go a)

pub looks-brk : (i target : ℕ) (c : Card) → Agrees (ind_brk i target c) (found (not (eqb c.brk 0)) target (i + 1) c)
looks-brk i target c = by (eqb c.brk 0)
  where
    by : (u : Bool) → Agrees (cond u (ind i target c) (out exits (arrive target (suc i) c))) (found (not u) target (i + 1) c)
    by true = (refl, ap (λ n. arrive target n c) (add-one i))
    by false = (refl, ap (λ n. arrive target n c) (add-one i))

module _ (b : Block) (flash : List ℕ) (limit i : ℕ) where
  -- the word that is popped to pc, in KEEP over the stack pointer's change; PopRet is this alone, and a group may end with it
  pub pc_agrees : Always b flash limit i (λ c. pop b.memory flash i c (λ v c₁. ind_brk i v (add_sp 4 c₁)))
      (pop_steps i (Step.ins (mov KEEP 0)) ++ (Step.ind KEEP (i + 1) true ∷ []))
  unfolding mrun mstep mdata data_of seen upd
  pc_agrees a =
      after-load b flash limit i B32 false _ _ _ _
      (Step.ins (mov KEEP 0) ∷ Step.ld_field sp 0 ∷ Step.ins (add_i 0 0 4) ∷ Step.st_field sp 0 ∷ Step.ind KEEP (i + 1) true ∷ [])
      (λ v c h. rw (mov-value v h, add_imm-value c.sp 4) (looks-brk i v (add_sp 4 c)))

module _ (b : Block) (flash : List ℕ) (limit i next : ℕ) (a : Abs) (small : Small a.c) where
  abbrev k : Fast → Type 0
  k f = kind b flash limit i next a small f

  reg_lt : (r : ℕ) → reg a.c r < 2 ^ 32
  reg_lt r = small.regs_lt r

  -- the condition after cmp w0, w1
  compare-holds : (q : Cond) (x y : ℕ) → x < 2 ^ 32 → y < 2 ^ 32
      → ConditionHolds (acond q) (add_sub W Sub x (shifted W Lsl y 0)).nzcv ≡ holds q x y
  compare-holds q x y hx hy = ap (ConditionHolds (acond q)) (compared_is x y hy hx) ∙ cond_means q x y hx hy

  pub br_i : (r v : ℕ) (q : Cond) (target : ℕ) → v < 2 ^ 32 → k (BrI r v q target)
  unfolding kind op_step mrun lowered mstep upd mdata data_of seen
  br_i r v q target h = forks (holds q (reg a.c r) v) _ i next target a.c (compare-holds q (reg a.c r) v (reg_lt r) h)

  pub br_r : (r s : ℕ) (q : Cond) (target : ℕ) → k (BrR r s q target)
  unfolding kind op_step mrun lowered mstep upd mdata data_of seen
  br_r r s q target =
      forks (holds q (reg a.c r) (reg a.c s)) _ i next target a.c
      (compare-holds q (reg a.c r) (reg a.c s) (reg_lt r) (reg_lt s))

  pub dec_br : (r : ℕ) (q : Cond) (v target : ℕ) → v < 2 ^ 32 → k (DecBr r q v target)
  unfolding kind op_step mrun lowered mstep upd mdata data_of seen
  dec_br r q v target h =
      let x : ℕ = minus (reg a.c r) 1 in
      rw (sub_imm_value (reg a.c r) 1 (omega arith))
      (forks (holds q x v) _ i next target (set_reg r x a.c) (compare-holds q x v (mod-lt (reg a.c r + (2 ^ 32 - 1)) (omega arith)) h))

  pub goto-kind : (target : ℕ) → k (Goto target)
  unfolding kind op_step mrun lowered mstep
  goto-kind target = (refl, ap (λ n. arrive target n a.c) (add-one i))

  pub call-kind : (target : ℕ) → k (Call target)
  unfolding kind op_step mrun lowered mstep upd
  call-kind target = (refl, ap (λ n. arrive target n (set_rets next a.c)) (add-one i))

  pub rts : k Rts
  unfolding kind op_step mrun lowered mstep upd
  rts = looks i a.c.rets a.c

  pub goto_r : (r : ℕ) → k (GotoR r)
  unfolding kind op_step mrun lowered mstep upd
  goto_r r = looks i (reg a.c r) a.c

  pub call_r : (r : ℕ) → k (CallR r)
  unfolding kind op_step mrun lowered mstep upd
  call_r r = looks i (reg a.c r) (set_rets next a.c)

  -- ---- BitBr: the flags of tst w0, w1
  bit_test : (x y : ℕ) → x < 2 ^ 32 → y < 2 ^ 32 → bit_and x (shifted W Lsl y 0) ≡ bit_and x y
  bit_test x y hx hy = ap (bit_and x) (second_is x y hx hy)

  bits-fork : (ne : Bool) (r y target : ℕ) → y < 2 ^ 32 → (v : ℕ) → v ≡ bit_and (reg a.c r) y
      → Agrees (fork (holds (cond ne Ne Eq) (bit_and (reg a.c r) y) 0) i next target a.c)
      (and_then (cond (ConditionHolds (pick ne 1 0) (test_flags W v))
      (off (chains 1) (arrive target (i + 1) a.c)) (off (chains 0) (arrive next (i + 1) a.c))) (λ a. go a))
  bits-fork true r y target hy v e =
      forks (not (eqb (bit_and (reg a.c r) y) 0)) _ i next target a.c (tst_ne W v ∙ ap (λ n. not (eqb n 0)) e)
  bits-fork false r y target hy v e = forks (eqb (bit_and (reg a.c r) y) 0) _ i next target a.c (tst_eq W v ∙ ap (λ n. eqb n 0) e)

  pub bit_br : (r : ℕ) (mk : Rk) (ne : Bool) (mv target : ℕ) → mv < 2 ^ 32 → k (BitBr r mk ne mv target)
  unfolding kind op_step mrun lowered mstep upd mdata data_of seen
  bit_br r RkReg ne mv target h =
      bits-fork ne r (reg a.c (mv % 16)) target (reg_lt (mv % 16)) _
      (bit_test (reg a.c r) (reg a.c (mv % 16)) (reg_lt r) (reg_lt (mv % 16)))
  bit_br r RkImm ne mv target h = bits-fork ne r mv target h _ (bit_test (reg a.c r) mv (reg_lt r) h)
  bit_br r RkBit ne mv target h =
      let y : ℕ = shl 1 (reg a.c (mv % 16)) in
      let hy : y < 2 ^ 32 = mod-lt (1 * 2 ^ (reg a.c (mv % 16) % 32)) (omega arith) in
      bits-fork ne r y target hy _
      (ap (λ v. bit_and (reg a.c r) (shifted W Lsl v 0)) (shl-value 1 (reg a.c (mv % 16)) (omega arith))
      ∙ bit_test (reg a.c r) y (reg_lt r) hy)

  pub pop_ret : k PopRet
  unfolding kind op_step lowered
  pop_ret = pc_agrees b flash limit i a
