-- The kinds that use the bus: their steps on the machine between do what the card's step does. Both ask the same load or store, and go by
-- what it gives.
--     after-load, after_store        an access, and what follows it
--     push_agrees, pop_agrees        a word of the stack, and what follows it
-- Assumes nothing.
use mathlib.Core.Path.{◌≡◌, refl}
use mathlib.Core.Bool.{Bool, true, false, cond}
use mathlib.Core.Option.{Option, none, some}
use mathlib.Core.List.{List, [], ◌∷◌, ◌++◌}
use Prim.Native.Nat.{ℕ, ◌+◌, ◌/◌, ◌%◌, ◌^◌, ◌<◌}
use native.Mathlib.Omega.{arith}
use native.Mathlib.Nat.{mod-lt}
use lib.Bits.{bit_and, bit_or, bit_xor}
use Rattle.arm.specs.declared.Size.TheVariants.{W}
use Rattle.arm.specs.declared.AddSub.TheVariants.{Add}
use Rattle.arm.specs.declared.Shift.TheVariants.{Lsl}
use Rattle.arm.specs.declared.Instr.{Instr}
use Rattle.block.specs.declared.RmwOp.{RmwOp}
use Rattle.block.specs.declared.RmwOp.TheVariants.{Or as RmwOr, And as RmwAnd, Xor as RmwXor, Add as RmwAdd, Sub as RmwSub, Mov as RmwMov}
use Rattle.block.specs.declared.Base.{Base}
use Rattle.block.specs.declared.Base.TheVariants.{Reg, Sp}
use Rattle.block.specs.declared.Width.{Width}
use Rattle.block.specs.declared.Width.TheVariants.{Byte as B8, Half as B16, Word as B32}
use Rattle.block.specs.declared.Fast.{Fast}
use Rattle.block.specs.declared.Fast.TheVariants.{Ld, St, LdIdx, StIdx, LdPost, StPost, Rmw, PushRet}
use Rattle.block.specs.declared.Memory.{Memory}
use Rattle.block.specs.declared.Block.{Block}
use Rattle.block.specs.Block.{bytes}
use Rattle.machine.specs.Execute.{add_sub, shifted}
use Rattle.card.specs.Word.{plus, minus, shl}
use Rattle.card.specs.Card.{Card, reg, set_sp, add_sp, Outcome, Request, read}
use Rattle.card.specs.Memory.{Access, got, unmet, load, store, read_le, extend, extended, ask, inside, load_offset}
use Rattle.card.specs.Step.{After, on, with_loaded, with_stored, modify, push, pop, op_step}
use Rattle.lowering.specs.Instrs.{KEEP, add_i, mov, orr, and, eor, add, sub}
use Rattle.lowering.specs.Steps.{Step, lowered, sp, rets}
use Rattle.lowering.specs.Steps.{push as push_steps, pop as pop_steps}
use Rattle.relation.specs.Relation.{Small}
use Rattle.relation.specs.Abs.{Abs, go, upd, kill, seen, mstep, mrun, mdata, and_then, if_got, with_temp, with_card}
use Rattle.relation.specs.Data.{data_of}
use Rattle.kinds.specs.Agrees.{Agrees}
use Rattle.kinds.proofs.Values.{sign_lt, add-value, sub-value, and_value, or_value, xor_value, mov-value, add_imm-value}
use Rattle.kinds.proofs.Values.{sub_imm_value}
use Rattle.kinds.proofs.Kind.{kind, with0}

-- ---- what a load gives is 32 bits
word_lt : (w : Width) (l : List ℕ) (o : ℕ) → read_le l o (bytes w) < 2 ^ 32
unfolding read_le
word_lt B8 l o = omega arith
word_lt B16 l o = omega arith
word_lt B32 l o = omega arith

unfoldable Word : Access → Type 0
Word (got v c) = v < 2 ^ 32
Word unmet = Unit {0}

ask_lt : (q : Request) (os : List Outcome) (c : Card) → Word (ask q os c)
unfolding Word
ask_lt q [] c = tt
ask_lt q (o ∷ os) c = mod-lt o.answer (omega arith)

extend_lt : (signed : Bool) (w : Width) (v : ℕ) → v < 2 ^ 32 → extend signed w v < 2 ^ 32
extend_lt false w v h = h
extend_lt true B8 v h = sign_lt 8 (v / 2 ^ 0 % 2 ^ 8) (omega arith) (mod-lt (v / 2 ^ 0) (omega arith))
extend_lt true B16 v h = sign_lt 16 (v / 2 ^ 0 % 2 ^ 16) (omega arith) (mod-lt (v / 2 ^ 0) (omega arith))
extend_lt true B32 v h = h

extended_lt : (signed : Bool) (w : Width) (r : Access) → Word r → Word (extended signed w r)
unfolding Word
extended_lt signed w (got v c) h = extend_lt signed w v h
extended_lt signed w unmet h = tt

load_lt : (m : Memory) (flash : List ℕ) (i : ℕ) (w : Width) (signed : Bool) (p : ℕ) (c : Card) → Word (load m flash i w signed p c)
unfolding load Word
load_lt m flash i w signed p c =
    let u : Bool = inside w (load_offset w p m.ram_base) m.ram_len in
    let v : Bool = inside w (load_offset w p m.xip_base) m.xip_len in
    extended_lt signed w (found u v) (found_lt u v)
  where
    q : Request
    q = read p (bytes w) (plus c.done i)

    from : List ℕ → (base : ℕ) → Access
    from l base = got (read_le l (load_offset w p base) (bytes w)) c

    found : (u v : Bool) → Access
    found u v = cond u (from c.ram m.ram_base) (cond v (from flash m.xip_base) (ask q c.outcomes c))

    found_lt : (u v : Bool) → Word (found u v)
    found_lt true v = word_lt w c.ram (load_offset w p m.ram_base)
    found_lt false true = word_lt w flash (load_offset w p m.xip_base)
    found_lt false false = ask_lt q c.outcomes c

-- ---- an access, and what follows it
-- the machine between behind it: what a call keeps is known, and a load's number in w0
abbrev pub loaded : (ℕ → Option ℕ) → ℕ → Card → Abs
loaded t v c = record { c = c; t = upd (kill t) 0 (some v); f = none }

abbrev pub stored : (ℕ → Option ℕ) → Card → Abs
stored t c = record { c = c; t = kill t; f = none }

module _ (b : Block) (flash : List ℕ) (limit i : ℕ) where
  pub after-load : (w : Width) (signed : Bool) (p : ℕ) (c : Card) (t : ℕ → Option ℕ) (g : ℕ → Card → After) (ss : List Step)
      → ((v : ℕ) (c : Card) → v < 2 ^ 32 → Agrees (g v c) (mrun b flash limit ss (loaded t v c)))
      → Agrees (with_loaded (load b.memory flash i w signed p c) g)
      (and_then (if_got (load b.memory flash i w signed p c) (λ v d. go (loaded t v d))) (λ a. mrun b flash limit ss a))
  unfolding Word
  after-load w signed p c t g ss h = by (load b.memory flash i w signed p c) (load_lt b.memory flash i w signed p c)
    where
      by : (r : Access) → Word r → Agrees (with_loaded r g) (and_then (if_got r (λ v d. go (loaded t v d))) (λ a. mrun b flash limit ss a))
      by (got v d) l = h v d l
      by unmet l = tt

  pub after_store : (w : Width) (alone : Bool) (p v : ℕ) (c : Card) (t : ℕ → Option ℕ) (g : Card → After) (ss : List Step)
      → ((c : Card) → Agrees (g c) (mrun b flash limit ss (stored t c)))
      → Agrees (with_stored (store b.memory i w alone p v c) g)
      (and_then (if_got (store b.memory i w alone p v c) (λ u d. go (stored t d))) (λ a. mrun b flash limit ss a))
  after_store w alone p v c t g ss h = by (store b.memory i w alone p v c)
    where
      by : (r : Access) → Agrees (with_stored r g) (and_then (if_got r (λ u d. go (stored t d))) (λ a. mrun b flash limit ss a))
      by (got u d) = h d
      by unmet = tt

  -- ---- the words of the stack, and what follows them
  -- from any state of the machine between, the steps do what g does with its card
  abbrev pub Always : (Card → After) → List Step → Type 0
  Always g ss = (a : Abs) → Agrees (g a.c) (mrun b flash limit ss a)

  pub on_agrees : Always (λ c. on c) []
  unfolding mrun
  on_agrees a = refl

  -- what a step puts into w1 is pushed
  pub push_agrees : (alone : Bool) (s : Step) (value : Card → ℕ)
      → ((a : Abs) → mstep b flash limit s a ≡ go (with_temp 1 (some (value a.c)) a))
      → (g : Card → After) (ss : List Step) → Always g ss
      → Always (λ c. push b.memory alone i (value (set_sp (minus c.sp 4) c)) c g) (push_steps alone i s ++ ss)
  unfolding mrun mstep mdata data_of seen upd
  push_agrees alone s value e g ss h a =
      let x : ℕ = minus a.c.sp 4 in
      rw (sub_imm_value a.c.sp 4 (omega arith), e (with_card (set_sp x a.c) (with0 x (with0 a.c.sp a))))
      (after_store B32 alone _ _ _ _ _ ss (λ c. h _))

  -- what is popped goes where a step puts w0
  pub pop_agrees : (s : Step) (put : ℕ → Card → Card)
      → ((t : ℕ → Option ℕ) (v : ℕ) (c : Card) → mstep b flash limit s (loaded t v c) ≡ go (with_card (put v c) (loaded t v c)))
      → (g : Card → After) (ss : List Step) → Always g ss
      → Always (λ c. pop b.memory flash i c (λ v c₁. g (add_sp 4 (put v c₁)))) (pop_steps i s ++ ss)
  unfolding mrun mstep mdata data_of seen upd
  pop_agrees s put e g ss h a =
      after-load B32 false _ _ _ _ (s ∷ Step.ld_field sp 0 ∷ Step.ins (add_i 0 0 4) ∷ Step.st_field sp 0 ∷ ss)
      (λ v c l. rw (e (with0 a.c.sp a).t v c, add_imm-value (put v c).sp 4) (h _))

  -- ---- what is read at p, changed by an instruction on w0 and w2, and stored there again
  module _ (w : Width) (v p : ℕ) (hv : v < 2 ^ 32) (hp : p < 2 ^ 32) (t : ℕ → Option ℕ) (q : t KEEP ≡ some p) where
    abbrev changing : Instr → List Step
    changing f = Step.mov32 2 v ∷ Step.ins f ∷ Step.ins (mov 0 KEEP) ∷ Step.store w true i ∷ []

    changes : (ℕ → ℕ) → Instr → Type 0
    changes g f =
        (c : Card) → Agrees (modify b.memory flash i w p g c)
        (and_then (if_got (load b.memory flash i w false p c) (λ x d. go (loaded t x d))) (λ a. mrun b flash limit (changing f) a))

    by_or : changes (λ x. bit_or x v) (orr 1 0 2)
    unfolding changes mrun mstep mdata data_of seen upd kill
    by_or c =
        after-load w false _ _ _ _ (changing (orr 1 0 2))
        (λ x d h. rw (or_value x v h hv, q, mov-value p hp) (after_store w true _ _ _ _ _ [] (λ e. refl)))

    by_and : changes (λ x. bit_and x v) (and 1 0 2)
    unfolding changes mrun mstep mdata data_of seen upd kill
    by_and c =
        after-load w false _ _ _ _ (changing (and 1 0 2))
        (λ x d h. rw (and_value x v h hv, q, mov-value p hp) (after_store w true _ _ _ _ _ [] (λ e. refl)))

    by_xor : changes (λ x. bit_xor x v) (eor 1 0 2)
    unfolding changes mrun mstep mdata data_of seen upd kill
    by_xor c =
        after-load w false _ _ _ _ (changing (eor 1 0 2))
        (λ x d h. rw (xor_value x v h hv, q, mov-value p hp) (after_store w true _ _ _ _ _ [] (λ e. refl)))

    by_add : changes (λ x. plus x v) (add 1 0 2)
    unfolding changes mrun mstep mdata data_of seen upd kill
    by_add c =
        after-load w false _ _ _ _ (changing (add 1 0 2))
        (λ x d h. rw (add-value x v h hv, q, mov-value p hp) (after_store w true _ _ _ _ _ [] (λ e. refl)))

    by_sub : changes (λ x. minus x v) (sub 1 0 2)
    unfolding changes mrun mstep mdata data_of seen upd kill
    by_sub c =
        after-load w false _ _ _ _ (changing (sub 1 0 2))
        (λ x d h. rw (sub-value x v h hv, q, mov-value p hp) (after_store w true _ _ _ _ _ [] (λ e. refl)))

  module _ (next : ℕ) (a : Abs) (small : Small a.c) where
    abbrev k : Fast → Type 0
    k f = kind b flash limit i next a small f

    pub ld : (d : ℕ) (base : Base) (off : ℕ) (w : Width) (signed : Bool) → k (Ld d base off w signed)
    unfolding kind op_step mrun lowered mstep upd
    ld d (Reg r) off w signed = after-load w signed _ _ _ _ (Step.st_reg 0 d ∷ []) (λ v c h. refl)
    ld d Sp off w signed = after-load w signed _ _ _ _ (Step.st_reg 0 d ∷ []) (λ v c h. refl)

    pub st : (s : ℕ) (base : Base) (off : ℕ) (w : Width) → k (St s base off w)
    unfolding kind op_step mrun lowered mstep upd
    st s (Reg r) off w = after_store w true _ _ _ _ _ [] (λ c. refl)
    st s Sp off w = after_store w true _ _ _ _ _ [] (λ c. refl)

    -- w0 + (w1 << sh)
    index-value : (x y sh : ℕ) → (add_sub W Add x (shifted W Lsl y (sh % 32))).result % 2 ^ 32 ≡ plus x (shl y sh)
    index-value x y sh = add_imm-value x (shl y sh)

    pub ld_idx : (d r x sh : ℕ) (w : Width) (signed : Bool) → k (LdIdx d r x sh w signed)
    unfolding kind op_step mrun lowered mstep upd mdata data_of seen
    ld_idx d r x sh w signed =
        rw (index-value (reg a.c r) (reg a.c x) sh) (after-load w signed _ _ _ _ (Step.st_reg 0 d ∷ []) (λ v c h. refl))

    pub st_idx : (s r x sh : ℕ) (w : Width) → k (StIdx s r x sh w)
    unfolding kind op_step mrun lowered mstep upd mdata data_of seen
    st_idx s r x sh w = rw (index-value (reg a.c r) (reg a.c x) sh) (after_store w true _ _ _ _ _ [] (λ c. refl))

    -- the increment to register r, behind the access
    abbrev adding : (r inc : ℕ) → List Step
    adding r inc = Step.ld_reg 0 r ∷ Step.add_imm 0 0 inc ∷ Step.st_reg 0 r ∷ []

    pub ld_post : (d r : ℕ) (w : Width) (signed : Bool) (inc : ℕ) → k (LdPost d r w signed inc)
    unfolding kind op_step mrun lowered mstep upd
    ld_post d r w signed inc = after-load w signed _ _ _ _ (Step.st_reg 0 d ∷ adding r inc) (λ v c h. refl)

    pub st_post : (s r : ℕ) (w : Width) (inc : ℕ) → k (StPost s r w inc)
    unfolding kind op_step mrun lowered mstep upd
    st_post s r w inc = after_store w true _ _ _ _ _ (adding r inc) (λ c. refl)

    pub push_ret : k PushRet
    unfolding kind op_step lowered mstep
    push_ret = push_agrees true (Step.ld_field rets 1) (λ c. c.rets) (λ a₁. refl) (λ c. on c) [] on_agrees a

    address_lt : (r off : ℕ) → plus (reg a.c r) off < 2 ^ 32
    address_lt r off = mod-lt (reg a.c r + off) (omega arith)

    -- the register's address in KEEP, and back in w0
    kept-address : (r off : ℕ) → bit_or 0 (shifted W Lsl (plus (reg a.c r) off) 0) % 2 ^ 32 ≡ plus (reg a.c r) off
    kept-address r off = mov-value (plus (reg a.c r) off) (address_lt r off)

    pub rmw-kind : (r : ℕ) (w : Width) (op : RmwOp) (off v : ℕ) → v < 2 ^ 32 → k (Rmw r w op off v)
    unfolding kind op_step mrun lowered mstep upd mdata data_of seen changes
    rmw-kind r w RmwOr off v h = rw (kept-address r off) (by_or w v _ h (address_lt r off) _ refl a.c)
    rmw-kind r w RmwAnd off v h = rw (kept-address r off) (by_and w v _ h (address_lt r off) _ refl a.c)
    rmw-kind r w RmwXor off v h = rw (kept-address r off) (by_xor w v _ h (address_lt r off) _ refl a.c)
    rmw-kind r w RmwAdd off v h = rw (kept-address r off) (by_add w v _ h (address_lt r off) _ refl a.c)
    rmw-kind r w RmwSub off v h = rw (kept-address r off) (by_sub w v _ h (address_lt r off) _ refl a.c)
    rmw-kind r w RmwMov off v h = rw (kept-address r off) (after_store w true _ _ _ _ _ [] (λ c. refl))
