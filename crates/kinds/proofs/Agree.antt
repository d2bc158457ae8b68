-- Every kind agrees, and an operation with its break check.
--     kind_agrees     one line a kind
--     op_agrees       an operation of a block
-- Assumes nothing.
use mathlib.Core.Path.{◌≡◌, refl, ap}
use mathlib.Core.Bool.{Bool, true, false, cond, not, ◌&&◌}
use mathlib.Core.List.{List, [], ◌∷◌, ◌++◌}
use mathlib.Core.Option.{none}
use Prim.Native.Nat.{ℕ, suc, ◌+◌}
use native.Mathlib.Numerals.{add-one}
use lib.Dec.{eqb}
use Rattle.block.specs.declared.Fast.{Fast}
use Rattle.block.specs.declared.Fast.TheVariants.{Nop, MovI, Mov, AddRI, ShlI, SarI, Alu3, Alu3I, Alu2, Alu2I, A4, Ext, MinMax, Un, Div}
use Rattle.block.specs.declared.Fast.TheVariants.{Mov2, Mov2I, BitExt, BitIns, SpAdd, RFromSp, Ld, St, LdIdx, StIdx, LdPost, StPost, Rmw}
use Rattle.block.specs.declared.Fast.TheVariants.{PushRet, PopRets, BrI, BrR, DecBr, BitBr, Goto, Call, Rts, GotoR, CallR, PopRet}
use Rattle.block.specs.declared.Fast.TheVariants.{BlockMove, PushRets, PopPc, LdPair, StPair, LdPre, StPre, LdPostR, MemA4, Tb}
use Rattle.block.specs.declared.BOp.{BOp}
use Rattle.block.specs.declared.Block.{Block}
use Rattle.block.specs.Block.{uses_bus}
use Rattle.block.specs.Checked.{FastFits, BOpFits}
use Rattle.card.specs.Card.{Card, set_hold, arrive}
use Rattle.card.specs.Step.{exits, After, on, out, starved, op_step}
use Rattle.card.specs.Run.{checked}
use Rattle.code.specs.Items.{pick}
use Rattle.lowering.specs.Steps.{Step, lowered, op_steps}
use Rattle.relation.specs.Relation.{Small}
use Rattle.relation.specs.Abs.{Abs, Then, go, off, void, with_temp, mstep, mrun, and_then}
use Rattle.kinds.specs.Agrees.{Agrees}
use Rattle.kinds.proofs.Kind.{kind}
use Rattle.kinds.proofs.Kind.{nop, mov_i, mov, add_ri, shl_i, sar_i, alu3, alu3_i, alu2, alu2_i, a4, ext-kind, min_max-kind, un-kind}
use Rattle.kinds.proofs.Kind.{div-kind, mov2, mov2_i, bit_ext-kind, bit_ins-kind, sp_add, r_from_sp}
use Rattle.kinds.proofs.Bus.{ld, st, ld_idx, st_idx, ld_post, st_post, rmw-kind, push_ret}
use Rattle.kinds.proofs.Groups.{block_move, pop_rets, push_rets, pop_pc, ld_pair, st_pair}
use Rattle.kinds.proofs.Forms.{ld_pre, st_pre, ld_post_r, mem_a4, tb}
use Rattle.kinds.proofs.Jumps.{br_i, br_r, dec_br, bit_br, goto-kind, call-kind, rts, goto_r, call_r, pop_ret}

-- steps in two parts
pub mrun-append : (b : Block) (flash : List ℕ) (limit : ℕ) (ss ts : List Step) (a : Abs)
    → mrun b flash limit (ss ++ ts) a ≡ and_then (mrun b flash limit ss a) (λ a₁. mrun b flash limit ts a₁)
unfolding mrun
mrun-append b flash limit [] ts a = refl
mrun-append b flash limit (s ∷ ss) ts a = step (mstep b flash limit s a) (λ a₁. mrun-append b flash limit ss ts a₁)
  where
    runs : List Step → Abs → Then
    runs l a₁ = mrun b flash limit l a₁

    step : (r : Then) → ((a₁ : Abs) → runs (ss ++ ts) a₁ ≡ and_then (runs ss a₁) (runs ts))
        → and_then r (runs (ss ++ ts)) ≡ and_then (and_then r (runs ss)) (runs ts)
    step (go a₁) h = h a₁
    step (off w c) h = refl
    step void h = refl

module _ (b : Block) (flash : List ℕ) (limit i next : ℕ) (a : Abs) (small : Small a.c) where
  pub kind_agrees : (f : Fast) → FastFits f → kind b flash limit i next a small f
  kind_agrees Nop h = nop b flash limit i next a small
  kind_agrees (MovI d v) h = mov_i b flash limit i next a small d v
  kind_agrees (Mov d s) h = mov b flash limit i next a small d s
  kind_agrees (AddRI d s v) h = add_ri b flash limit i next a small d s v
  kind_agrees (ShlI d s n) h = shl_i b flash limit i next a small d s n
  kind_agrees (SarI d s n) h = sar_i b flash limit i next a small d s n
  kind_agrees (Alu3 d u r op) h = alu3 b flash limit i next a small d u r op
  kind_agrees (Alu3I d u v op) h = alu3_i b flash limit i next a small d u v op h.2
  kind_agrees (Alu2 d r op) h = alu2 b flash limit i next a small d r op
  kind_agrees (Alu2I d v op) h = alu2_i b flash limit i next a small d v op h.1
  kind_agrees (A4 d s op rk rv) h = a4 b flash limit i next a small d s op rk rv h.2
  kind_agrees (Ext d s part signed) h = ext-kind b flash limit i next a small d s part signed
  kind_agrees (MinMax d u r kind) h = min_max-kind b flash limit i next a small d u r kind
  kind_agrees (Un d s k) h = un-kind b flash limit i next a small d s k
  kind_agrees (Div d u r k) h = div-kind b flash limit i next a small d u r k
  kind_agrees (Mov2 dh dl sh sl) h = mov2 b flash limit i next a small dh dl sh sl
  kind_agrees (Mov2I dh dl v) h = mov2_i b flash limit i next a small dh dl v h.2
  kind_agrees (BitExt d s p l signed) h = bit_ext-kind b flash limit i next a small d s p l signed
  kind_agrees (BitIns d s p l) h = bit_ins-kind b flash limit i next a small d s p l
  kind_agrees (SpAdd v) h = sp_add b flash limit i next a small v
  kind_agrees (RFromSp d v) h = r_from_sp b flash limit i next a small d v
  kind_agrees (Ld d r o w signed) h = ld b flash limit i next a small d r o w signed
  kind_agrees (St s r o w) h = st b flash limit i next a small s r o w
  kind_agrees (LdIdx d r x sh w signed) h = ld_idx b flash limit i next a small d r x sh w signed
  kind_agrees (StIdx s r x sh w) h = st_idx b flash limit i next a small s r x sh w
  kind_agrees (LdPost d r w signed inc) h = ld_post b flash limit i next a small d r w signed inc
  kind_agrees (StPost s r w inc) h = st_post b flash limit i next a small s r w inc
  kind_agrees (Rmw r w op o v) h = rmw-kind b flash limit i next a small r w op o v h.2
  kind_agrees PushRet h = push_ret b flash limit i next a small
  kind_agrees PopRets h = pop_rets b flash limit i next a small
  kind_agrees (BrI u v q target) h = br_i b flash limit i next a small u v q target h.1
  kind_agrees (BrR u r q target) h = br_r b flash limit i next a small u r q target
  kind_agrees (DecBr r q v target) h = dec_br b flash limit i next a small r q v target h.1
  kind_agrees (BitBr r mk ne mv target) h = bit_br b flash limit i next a small r mk ne mv target h.1
  kind_agrees (Goto target) h = goto-kind b flash limit i next a small target
  kind_agrees (Call target) h = call-kind b flash limit i next a small target
  kind_agrees Rts h = rts b flash limit i next a small
  kind_agrees (GotoR r) h = goto_r b flash limit i next a small r
  kind_agrees (CallR r) h = call_r b flash limit i next a small r
  kind_agrees PopRet h = pop_ret b flash limit i next a small
  kind_agrees (BlockMove r mask u post down) h = block_move b flash limit i next a small r mask u post down
  kind_agrees (PushRets n) h = push_rets b flash limit i next a small n
  kind_agrees (PopPc n) h = pop_pc b flash limit i next a small n
  kind_agrees (LdPair p r o) h = ld_pair b flash limit i next a small p r o
  kind_agrees (StPair p r o) h = st_pair b flash limit i next a small p r o
  kind_agrees (LdPre d r x w signed) h = ld_pre b flash limit i next a small d r x w signed
  kind_agrees (StPre s r x w) h = st_pre b flash limit i next a small s r x w
  kind_agrees (LdPostR d r x w signed) h = ld_post_r b flash limit i next a small d r x w signed
  kind_agrees (MemA4 r o op rk rv) h = mem_a4 b flash limit i next a small r o op rk rv h.2
  kind_agrees (Tb r half) h = tb b flash limit i next a small r half

  -- the break check behind kinds that use the bus
  check_agrees : (glue bus : Bool) (a₁ : Abs) (c : Card) → a₁.c ≡ c
      → Agrees (cond (bus && not (eqb c.brk 0)) (out exits (arrive next (suc i) (set_hold (cond glue 1 c.hold) c))) (on c))
      (mrun b flash limit (pick bus (Step.check_brk glue next (i + 1) ∷ []) []) a₁)
  unfolding mrun mstep
  check_agrees glue false a₁ c e = e
  check_agrees glue true a₁ c e = rw (← e) (by (eqb a₁.c.brk 0))
    where
      held : Card
      held = set_hold (cond glue 1 a₁.c.hold) a₁.c

      by : (u : Bool) → Agrees (cond (not u) (out exits (arrive next (suc i) held)) (on a₁.c))
          (and_then (cond u (go (with_temp 9 none a₁)) (off exits (arrive next (i + 1) held))) (λ a₂. go a₂))
      by true = refl
      by false = (refl, ap (λ n. arrive next n held) (add-one i))

  pub op_agrees : (o : BOp) → BOpFits o
      → Agrees (checked o i next (op_step b.memory flash i next o.fast a.c)) (mrun b flash limit (op_steps o i next) a)
  unfolding op_steps kind
  op_agrees o h =
      rw (mrun-append b flash limit (lowered o.fast i next) check a)
      (by (op_step b.memory flash i next o.fast a.c) (mrun b flash limit (lowered o.fast i next) a)
      (kind_agrees o.fast h.fast))
    where
      check : List Step
      check = pick (uses_bus o.fast) (Step.check_brk o.glue next (i + 1) ∷ []) []

      by : (r : After) (t : Then) → Agrees r t → Agrees (checked o i next r) (and_then t (λ a₁. mrun b flash limit check a₁))
      by (on c) (go a₁) e = check_agrees o.glue (uses_bus o.fast) a₁ c e
      by (on c) (off w d) e = absurd e
      by (on c) void e = absurd e
      by (out w c) (go a₁) e = absurd e
      by (out w c) (off v d) e = e
      by (out w c) void e = absurd e
      by starved t e = tt
