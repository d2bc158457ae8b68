-- WHAT THE STEPS OF A CHECKED BLOCK COST: at most 877 words, 49 labels and 82 fix-ups an operation, and those of limit, guard and chain.
-- Labels and fix-ups are those of 32 BlockMoves of 16 loads each in RAM. Only a jump has chain sites, at most two. No operation has a
-- guard. The numbers of the steps fit.
use mathlib.Core.Path.{◌≡◌}
use mathlib.Core.Bool.{Bool, true, false}
use mathlib.Core.List.{List, [], ◌∷◌, ◌++◌, reverse}
use Prim.Native.Nat.{ℕ, suc, ◌+◌, ◌%◌, ◌<◌, ◌≤◌}
use native.Mathlib.Nat.{mod-lt}
use native.Mathlib.Omega.{arith}
use lib.Dec.{T, eqb, leb, leb→le}
use lib.ListN.{length, length-take}
use Rattle.arm.specs.Decode.{both}
use Rattle.arm.proofs.Pieces.{both_left, both_right}
use Rattle.block.specs.declared.Base.TheVariants.{Reg, Sp}
use Rattle.block.specs.declared.Amount.TheVariants.{Reg as ByReg, Inc as ByInc}
use Rattle.block.specs.declared.RmwOp.TheVariants.{Or as RmwOr, And as RmwAnd, Xor as RmwXor, Add as RmwAdd, Sub as RmwSub, Mov as RmwMov}
use Rattle.block.specs.declared.Rk.TheVariants.{Reg as RkReg, Imm as RkImm, Bit as RkBit}
use Rattle.block.specs.declared.UnKind.TheVariants.{Not, Neg, Abs, Rev, Clz, SatS, SatU}
use Rattle.block.specs.declared.DivKind.TheVariants.{QuoS, QuoU, RemS, RemU}
use Rattle.block.specs.declared.Fast.{Fast}
use Rattle.block.specs.declared.Fast.TheVariants.{Nop, MovI, Mov, AddRI, ShlI, SarI, Alu3, Alu3I, Alu2, Alu2I, A4, Ext, MinMax, Un, Div}
use Rattle.block.specs.declared.Fast.TheVariants.{Mov2, Mov2I, BitExt, BitIns, SpAdd, RFromSp, Ld, St, LdIdx, StIdx, LdPost, StPost, Rmw}
use Rattle.block.specs.declared.Fast.TheVariants.{PushRet, PopRets, BrI, BrR, DecBr, BitBr, Goto, Call, Rts, GotoR, CallR, PopRet}
use Rattle.block.specs.declared.Fast.TheVariants.{BlockMove, PushRets, PopPc, LdPair, StPair, LdPre, StPre, LdPostR, MemA4, Tb}
use Rattle.block.specs.declared.BOp.{BOp}
use Rattle.block.specs.declared.Block.{Block}
use Rattle.block.specs.Block.{ops_of, may_jump, uses_bus, in_flash, members, span, saved}
use Rattle.block.proofs.Groups.{members-few, saved-few, reverse-count}
use Rattle.block.specs.Checked.{Checked, FastFits, OpsFit}
use Rattle.code.specs.Items.{pick}
use Rattle.lowering.specs.Instrs.{KEEP, mov, lsr_i}
use Rattle.lowering.specs.Steps.{Field, Step, lowered, move_word, move_words, move_base, move_offset, push, push_all, pop, pop_all, behind}
use Rattle.lowering.specs.Steps.{op_steps, ops_steps, guard_steps, block_steps}
use Rattle.bounds.specs.Sound.{AllFit}
use Rattle.bounds.proofs.Fit.{fit_append, op_fits}
use Rattle.bounds.proofs.Cost.{Measure, Cost, cost, cost_of, total, total-append, ◌⊕◌, times, times_le, no_sites, below, Within, own}
use Rattle.bounds.proofs.Cost.{raised, wider, sure, joined, either, up-to}

-- ---- groups
word-few : (u : Bool) (i k r : ℕ) → Within (cost 53 3 5 0) (move_word u i k r)
word-few true i k r = sure tt
word-few false i k r = sure tt

moves-few : (u : Bool) (i k : ℕ) (rs : List ℕ) → Within (times (length rs) (cost 53 3 5 0)) (move_words u i k rs)
unfolding move_words
moves-few u i k [] = sure tt
moves-few u i k (r ∷ rs) = joined (word-few u i k r) (moves-few u i (suc k) rs)

base-few : (post down : Bool) (n r : ℕ) → Within (cost 5 0 0 0) (move_base post down n r)
base-few false down n r = sure tt
base-few true true n r = sure tt
base-few true false n r = sure tt

pushes-few : (i : ℕ) (rs : List ℕ) → Within (times (length rs) (cost 43 2 5 0)) (push_all i rs)
unfolding push_all
pushes-few i [] = sure tt
pushes-few i (r ∷ rs) = joined {xs = push false i (Step.ld_reg 1 r)} (sure tt) (pushes-few i rs)

pops-few : (i : ℕ) (rs : List ℕ) → Within (times (length rs) (cost 54 3 5 0)) (pop_all i rs)
unfolding pop_all
pops-few i [] = sure tt
pops-few i (r ∷ rs) = joined {xs = pop i (Step.st_reg 0 r)} (sure tt) (pops-few i rs)

-- ---- the kinds
abbrev fast_cost : Cost
fast_cost = cost 859 48 80 2

abbrev pub sites_of : (jump : Bool) → ℕ
sites_of true = 2
sites_of false = 0

-- with operands that fit no more than c; with any operands no sites but a jump's
pub record Few (c : Cost) (f : Fast) (ss : List Step) : Type 0 where
  pub most : FastFits f → Within c ss
  pub sites : total ss Measure.sites ≤ sites_of (may_jump f)

abbrev is_few : Cost → Fast → Bool
is_few c f = both (below c fast_cost) (leb (c Measure.sites) (sites_of (may_jump f)))

few_of : {c : Cost} {f : Fast} {ss : List Step} → Within c ss → T (is_few c f) → Few fast_cost f ss
few_of {c = c} {f = f} h t =
    let sited : c Measure.sites ≤ sites_of (may_jump f) = leb→le _ _ (both_right (below c fast_cost) _ t) in
    record { most = λ k. wider (both_left (below c fast_cost) _ t) h; sites = omega (arith, sited, h.le Measure.sites) }

-- by computing
counted : {f : Fast} {ss : List Step} → T (is_few (total ss) f) → Few fast_cost f ss
counted t = few_of own t

few : (f : Fast) (i next : ℕ) → Few fast_cost f (lowered f i next)
unfolding lowered move_words
few Nop i next = counted tt
few (MovI d v) i next = counted tt
few (Mov d s) i next = counted tt
few (AddRI d s v) i next = counted tt
few (ShlI d s n) i next = counted tt
few (SarI d s n) i next = counted tt
few (Alu3 d x y op) i next = counted tt
few (Alu3I d x v op) i next = counted tt
few (Alu2 d y op) i next = counted tt
few (Alu2I d v op) i next = counted tt
few (A4 d s op RkReg rv) i next = counted tt
few (A4 d s op RkImm rv) i next = counted tt
few (A4 d s op RkBit rv) i next = counted tt
few (Ext d s part signed) i next = counted tt
few (MinMax d x y kind) i next = counted tt
few (Un d s Not) i next = counted tt
few (Un d s Neg) i next = counted tt
few (Un d s Abs) i next = counted tt
few (Un d s Rev) i next = counted tt
few (Un d s Clz) i next = counted tt
few (Un d s SatS) i next = counted tt
few (Un d s SatU) i next = counted tt
few (Div d x y QuoS) i next = counted tt
few (Div d x y QuoU) i next = counted tt
few (Div d x y RemS) i next = counted tt
few (Div d x y RemU) i next = counted tt
few (Mov2 dh dl sh sl) i next = counted tt
few (Mov2I dh dl v) i next = counted tt
few (BitExt d s p l signed) i next =
    few_of (joined {xs = Step.ld_reg 0 s ∷ Step.ins (lsr_i 0 0 (p % 32)) ∷ []} own
    (joined {a = cost 1 0 0 0} (either (eqb (l % 32) 0) (sure tt) (sure tt)) own)) tt
few (BitIns d s p l) i next = counted tt
few (SpAdd v) i next = counted tt
few (RFromSp d v) i next = counted tt
few (Ld d (Reg r) o w signed) i next = counted tt
few (Ld d Sp o w signed) i next = counted tt
few (St s (Reg r) o w) i next = counted tt
few (St s Sp o w) i next = counted tt
few (LdIdx d r x sh w signed) i next = counted tt
few (StIdx s r x sh w) i next = counted tt
few (LdPost d r w signed inc) i next = counted tt
few (StPost s r w inc) i next = counted tt
few (Rmw r w RmwOr o v) i next = counted tt
few (Rmw r w RmwAnd o v) i next = counted tt
few (Rmw r w RmwXor o v) i next = counted tt
few (Rmw r w RmwAdd o v) i next = counted tt
few (Rmw r w RmwSub o v) i next = counted tt
few (Rmw r w RmwMov o v) i next = counted tt
few PushRet i next = counted tt
few PopRets i next = counted tt
few (BrI r v q target) i next = counted tt
few (BrR r s q target) i next = counted tt
few (DecBr r q v target) i next = counted tt
few (BitBr r RkReg ne mv target) i next = counted tt
few (BitBr r RkImm ne mv target) i next = counted tt
few (BitBr r RkBit ne mv target) i next = counted tt
few (Goto target) i next = counted tt
few (Call target) i next = counted tt
few Rts i next = counted tt
few (GotoR r) i next = counted tt
few (CallR r) i next = counted tt
few PopRet i next = counted tt
few (BlockMove r mask u post down) i next =
    few_of (joined {xs = Step.ld_reg 0 r ∷ Step.add_imm KEEP 0 (move_offset down (span mask)) ∷ []} own
    (joined (up-to _ _ 16 (members-few mask) (moves-few u i 0 (members mask))) (base-few post down (span mask) r))) tt
few (PushRets n) i next =
    let all = pushes-few i (reverse (saved n)) in
    let twelve : FastFits (PushRets n) → length (reverse (saved n)) ≤ 12 = λ h. omega (arith, reverse-count (saved n), saved-few n h) in
    record {
      most = λ h. wider tt (joined {xs = push false i (Step.ld_field Field.rets 1)} own (up-to _ _ 12 (twelve h) all));
      sites = omega (arith, all.le Measure.sites, no_sites 43 2 5 (length (reverse (saved n))));
    }
few (PopPc n) i next =
    let all = pops-few i (saved n) in
    let jump = joined all (own {ss = pop i (Step.ins (mov KEEP 0)) ++ (Step.ind KEEP (i + 1) true ∷ [])}) in
    record {
      most = λ h. wider tt (joined (up-to _ _ 12 (saved-few n h) all) own);
      sites = omega (arith, jump.le Measure.sites, no_sites 54 3 5 (length (saved n)));
    }
few (LdPair p (Reg r) o) i next = counted tt
few (LdPair p Sp o) i next = counted tt
few (StPair p (Reg r) o) i next = counted tt
few (StPair p Sp o) i next = counted tt
few (LdPre d r (ByReg x) w signed) i next = counted tt
few (LdPre d r (ByInc v) w signed) i next = counted tt
few (StPre s r (ByReg x) w) i next = counted tt
few (StPre s r (ByInc v) w) i next = counted tt
few (LdPostR d r x w signed) i next = counted tt
few (MemA4 r o op RkReg rv) i next = counted tt
few (MemA4 r o op RkImm rv) i next = counted tt
few (MemA4 r o op RkBit rv) i next = counted tt
few (Tb r half) i next = counted tt

-- ---- the operations of a block
abbrev op_cost : Cost
op_cost = cost 877 49 82 2

pub op-few : (o : BOp) (i next : ℕ) → Few op_cost o.fast (op_steps o i next)
unfolding op_steps
op-few o i next =
    let kind = few o.fast i next in
    let check : List Step = pick (uses_bus o.fast) (Step.check_brk o.glue next (i + 1) ∷ []) [] in
    let one : Within (cost_of (Step.check_brk true 0 0)) check = either (uses_bus o.fast) (sure tt) (sure tt) in
    record {
      most = λ h. wider tt (joined (kind.most h) one);
      sites = omega (arith, total-append (lowered o.fast i next) check Measure.sites, kind.sites, one.le Measure.sites);
    }

-- behind the last operation a chain
abbrev end_cost : Cost
end_cost = cost_of (Step.chain 0 0)

ops-few : (i pc : ℕ) (os : List BOp) → OpsFit os → Within (times (length os) op_cost ⊕ end_cost) (ops_steps i pc os)
unfolding ops_steps
ops-few i pc [] h = sure tt
ops-few i pc (o ∷ os) h =
    let none : Within (times (length os) op_cost ⊕ end_cost) [] = raised (λ m. omega arith) own in
    let rest = either (may_jump o.fast) none (ops-few (i + 1) (behind pc o) os h.1) in
    raised (λ m. omega arith) (joined ((op-few o i (behind pc o)).most h.0.fast) rest)

ops-count : (blk : Block) → Checked blk → length (ops_of blk) ≤ 32
ops-count blk ck = simp length-take (omega (arith, ck.count))

all_ops-few : (blk : Block) → Checked blk → Within (times 32 op_cost ⊕ end_cost) (ops_steps 0 blk.pc0 (ops_of blk))
all_ops-few blk ck =
    let more : (m : Measure) → times (length (ops_of blk)) op_cost m ≤ times 32 op_cost m
    = λ m. times_le op_cost m (length (ops_of blk)) 32 (ops-count blk ck) in
    raised (λ m. omega (arith, more m)) (ops-few 0 blk.pc0 (ops_of blk) ck.ops)

pub unguarded : (blk : Block) → Checked blk → total (ops_steps 0 blk.pc0 (ops_of blk)) Measure.guards ≡ 0
unguarded blk ck = omega (arith, (all_ops-few blk ck).le Measure.guards)

-- its chain sites are fewer: Sites has them
pub block-few : (blk : Block) → Checked blk → Within (cost 28097 1571 2629 65 ⊕ cost_of (Step.guard 0 0 0)) (block_steps blk)
unfolding block_steps
block-few blk ck =
    let guarded : Within (cost_of (Step.guard 0 0 0)) (guard_steps blk) = either (in_flash blk.pc0) (sure tt) (sure tt) in
    wider tt (joined {xs = Step.limit blk.pc0 blk.n ∷ []} own (joined guarded (all_ops-few blk ck)))

-- ---- and their numbers fit
pick-fits : (u : Bool) (xs ys : List Step) → AllFit xs → AllFit ys → AllFit (pick u xs ys)
pick-fits true xs ys h k = h
pick-fits false xs ys h k = k

ops-fit : (i pc : ℕ) (os : List BOp) → i + length os ≤ 32 → pc < 4294967296 → OpsFit os → AllFit (ops_steps i pc os)
unfolding ops_steps
ops-fit i pc [] n h k = ((h, omega arith), tt)
ops-fit i pc (o ∷ os) n h k =
    let next : behind pc o < 4294967296 = mod-lt (pc + o.len) (omega arith) in
    fit_append (op_steps o i (behind pc o)) _ (op_fits i (behind pc o) (omega arith) next o k.0)
    (pick-fits (may_jump o.fast) [] _ tt (ops-fit (i + 1) (behind pc o) os (omega arith) next k.1))

pub block-fits : (blk : Block) → Checked blk → AllFit (block_steps blk)
unfolding block_steps
block-fits blk ck =
    let pc0 : blk.pc0 < 4294967296 = ck.pc0 in
    let ops = ops-fit 0 blk.pc0 (ops_of blk) (omega (arith, ops-count blk ck)) pc0 ck.ops in
    ((pc0, omega (arith, ck.count)), fit_append (guard_steps blk) _ (pick-fits (in_flash blk.pc0) [] _ tt (pc0, tt)) ops)
