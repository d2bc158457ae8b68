-- Groups of registers: by induction on the list of registers, their steps do what the card does with each, and go on as it goes on.
--     loads-agree, stores-agree                       the words from KEEP on
--     pushes-agree, pops-agree                        the words of the stack
--     block_move, pop_rets, push_rets, pop_pc, ld_pair, st_pair      the kinds
-- Assumes nothing.
use mathlib.Core.Path.{◌≡◌, refl, ap, subst}
use mathlib.Core.Bool.{Bool, true, false}
use mathlib.Core.Option.{none, some}
use mathlib.Core.List.{List, [], ◌∷◌, ◌++◌, append-nil, reverse}
use Prim.Native.Nat.{ℕ, suc, ◌+◌, ◌^◌, ◌<◌, ◌≤◌}
use native.Mathlib.Omega.{arith}
use Rattle.block.specs.declared.Base.{Base}
use Rattle.block.specs.declared.Base.TheVariants.{Reg, Sp}
use Rattle.block.specs.declared.Fast.{Fast}
use Rattle.block.specs.declared.Fast.TheVariants.{BlockMove, PopRets, PushRets, PopPc, LdPair, StPair}
use Rattle.block.specs.declared.Block.{Block}
use Rattle.block.specs.Block.{members, span, saved, pair_of}
use Rattle.block.proofs.Groups.{members-few}
use Rattle.card.specs.Word.{plus}
use Rattle.card.specs.Card.{Card, reg, set_reg, set_rets, add_sp}
use Rattle.card.specs.Step.{After, on, load_all, store_all, move_all, move_start}
use Rattle.card.specs.Step.{pop, push_all, pop_all, ind_brk, op_step}
use Rattle.lowering.specs.Instrs.{KEEP, mov}
use Rattle.lowering.specs.Steps.{Step, rets, move_words, move_base, lowered}
use Rattle.lowering.specs.Steps.{move_offset, pop as pop_steps, push_all as push_all_steps, pop_all as pop_all_steps}
use Rattle.relation.specs.Abs.{Abs, upd, mstep, mrun, with_temp}
use Rattle.relation.specs.Relation.{Small}
use Rattle.kinds.specs.Agrees.{Agrees}
use Rattle.kinds.proofs.Kind.{kind, with0}
use Rattle.kinds.proofs.Bus.{Always, on_agrees, push_agrees, pop_agrees}
use Rattle.kinds.proofs.Words.{Keeping as KeepingAt, load_agrees, store_agrees, base_agrees}
use Rattle.kinds.proofs.Jumps.{pc_agrees}

-- ---- where the words of BlockMove start: as many bytes below the base as they take, or at it
start_is : (down : Bool) (x n : ℕ) → x < 2 ^ 32 → n ≤ 64 → plus x (move_offset down n) ≡ move_start down x n
start_is true x n h l = omega arith
start_is false x n h l = omega arith

start_word : (down : Bool) (x n : ℕ) → x < 2 ^ 32 → move_start down x n < 2 ^ 32
start_word true x n h = omega arith
start_word false x n h = h

module _ (b : Block) (flash : List ℕ) (limit i : ℕ) where
  abbrev Keeping : ℕ → (Card → After) → List Step → Type 0
  Keeping = KeepingAt b flash limit i

  -- ---- by induction on the registers
  module _ (f : Card → After) (ts : List Step) where
    loads-agree : (x : ℕ) → Keeping x f ts → (rs : List ℕ) (k : ℕ)
        → Keeping x (λ c. load_all b.memory flash i x k rs c f) (move_words false i k rs ++ ts)
    unfolding load_all move_words
    loads-agree x h [] k = h
    loads-agree x h (r ∷ rs) k =
        load_agrees b flash limit i x r k (λ c. load_all b.memory flash i x (suc k) rs c f) _ (loads-agree x h rs (suc k))

    stores-agree : (x : ℕ) → Keeping x f ts → (rs : List ℕ) (k : ℕ)
        → Keeping x (λ c. store_all b.memory i x k rs c f) (move_words true i k rs ++ ts)
    unfolding store_all move_words
    stores-agree x h [] k = h
    stores-agree x h (r ∷ rs) k =
        store_agrees b flash limit i x r k (λ c. store_all b.memory i x (suc k) rs c f) _ (stores-agree x h rs (suc k))

    pushes-agree : Always b flash limit i f ts → (rs : List ℕ)
        → Always b flash limit i (λ c. push_all b.memory i rs c f) (push_all_steps i rs ++ ts)
    unfolding push_all push_all_steps mstep
    pushes-agree h [] = h
    pushes-agree h (r ∷ rs) =
        push_agrees b flash limit i false (Step.ld_reg 1 r) (λ c. reg c r) (λ a. refl) (λ c. push_all b.memory i rs c f) _
        (pushes-agree h rs)

    pops-agree : Always b flash limit i f ts → (rs : List ℕ)
        → Always b flash limit i (λ c. pop_all b.memory flash i rs c f) (pop_all_steps i rs ++ ts)
    unfolding pop_all pop_all_steps mstep upd
    pops-agree h [] = h
    pops-agree h (r ∷ rs) =
        pop_agrees b flash limit i (Step.st_reg 0 r) (set_reg r) (λ t v c. refl) (λ c. pop_all b.memory flash i rs c f) _ (pops-agree h rs)

  -- loaded or stored
  moves-agree : (u : Bool) (x : ℕ) (f : Card → After) (ts : List Step) → Keeping x f ts → (rs : List ℕ)
      → Keeping x (λ c. move_all b.memory flash i u x rs c f) (move_words u i 0 rs ++ ts)
  moves-agree true x f ts h rs = stores-agree f ts x h rs 0
  moves-agree false x f ts h rs = loads-agree f ts x h rs 0

  -- ---- the kinds
  module _ (next : ℕ) (a : Abs) (small : Small a.c) where
    abbrev k : Fast → Type 0
    k f = kind b flash limit i next a small f

    pub block_move : (r mask : ℕ) (u post down : Bool) → k (BlockMove r mask u post down)
    unfolding kind op_step lowered mrun mstep upd
    block_move r mask u post down =
        let n : ℕ = span mask in
        let l : n ≤ 64 = omega (arith, members-few mask) in
        let x : ℕ = reg a.c r in
        let h : x < 2 ^ 32 = small.regs_lt r in
        let y : ℕ = move_start down x n in
        moves-agree u y _ (move_base post down n r) (base_agrees b flash limit i r y n (start_word down x n h) post down) (members mask)
        (with_temp KEEP (some (plus x (move_offset down n))) (with_temp 9 none (with0 x a))) (ap some (start_is down x n h l))

    -- a pair is a group of two, from a base and an offset
    pair_agrees : (u : Bool) (p x off : ℕ) → Agrees (move_all b.memory flash i u (plus x off) (pair_of p) a.c (λ c. on c))
        (mrun b flash limit (move_words u i 0 (pair_of p)) (with_temp KEEP (some (plus x off)) (with_temp 9 none (with0 x a))))
    unfolding move_words mrun upd
    pair_agrees true p x off = moves-agree true (plus x off) _ [] (λ a₁ q. refl) (pair_of p) _ refl
    pair_agrees false p x off = moves-agree false (plus x off) _ [] (λ a₁ q. refl) (pair_of p) _ refl

    pub ld_pair : (p : ℕ) (base : Base) (off : ℕ) → k (LdPair p base off)
    unfolding kind op_step lowered mrun mstep upd
    ld_pair p (Reg r) off = pair_agrees false p (reg a.c r) off
    ld_pair p Sp off = pair_agrees false p a.c.sp off

    pub st_pair : (p : ℕ) (base : Base) (off : ℕ) → k (StPair p base off)
    unfolding kind op_step lowered mrun mstep upd
    st_pair p (Reg r) off = pair_agrees true p (reg a.c r) off
    st_pair p Sp off = pair_agrees true p a.c.sp off

    pub pop_rets : k PopRets
    unfolding kind op_step lowered mstep upd
    pop_rets = pop_agrees b flash limit i (Step.st_field rets 0) set_rets (λ t v c. refl) (λ c. on c) [] (on_agrees b flash limit i) a

    -- the registers behind rets, and nothing behind them
    registers-pushed : (rs : List ℕ) → Always b flash limit i (λ c. push_all b.memory i rs c (λ d. on d)) (push_all_steps i rs)
    registers-pushed rs =
        subst (Always b flash limit i (λ c. push_all b.memory i rs c (λ d. on d))) (append-nil (push_all_steps i rs))
        (pushes-agree (λ c. on c) [] (on_agrees b flash limit i) rs)

    pub push_rets : (n : ℕ) → k (PushRets n)
    unfolding kind op_step lowered mstep
    push_rets n =
        push_agrees b flash limit i false (Step.ld_field rets 1) (λ c. c.rets) (λ a₁. refl) _ (push_all_steps i (reverse (saved n)))
        (registers-pushed (reverse (saved n))) a

    pub pop_pc : (n : ℕ) → k (PopPc n)
    unfolding kind op_step lowered
    pop_pc n =
        pops-agree (λ c. pop b.memory flash i c (λ v c₁. ind_brk i v (add_sp 4 c₁)))
        (pop_steps i (Step.ins (mov KEEP 0)) ++ (Step.ind KEEP (i + 1) true ∷ [])) (pc_agrees b flash limit i) (saved n) a
