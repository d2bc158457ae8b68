-- A word of the processor record or the slot of the context is written: what the record, the context and the registers' homes hold then.
--     read-apart, get_or-apart          places that share no byte
--     fields-reg, fields-sp, fields-rets, fields-hold, fields-pc     a word of the processor record
--     kept-processor, kept-context    other bytes in those two regions
--     kept-reg, kept-sp, kept-rets, kept-hold, kept-pc, kept_slot    the relation after a store
--     cached-apart, home-apart        the registers after a store that is apart from them
use mathlib.Core.Path.{◌≡◌, refl, sym, ap, ◌∙◌, subst}
use mathlib.Core.Logic.{◌≢◌, ◌⊎◌, inl, inr}
use mathlib.Core.Bool.{Bool, true, false}
use mathlib.Core.List.{List}
use Prim.Native.Nat.{ℕ, ◌+◌, ◌%◌, ◌^◌, ◌≤◌, ◌<◌}
use native.Mathlib.Omega.{arith}
use borrow.Author.Tests.{ltb-true, ltb-false}
use lib.Dec.{ltb}
use lib.ListN.{length, get_or}
use Rattle.block.specs.declared.Layout.{Layout}
use Rattle.block.specs.declared.Block.{Block}
use Rattle.block.specs.Checked.{LayoutFits, Checked}
use Rattle.block.specs.Checked.{Apart as Separate}
use Rattle.machine.specs.State.{Region, State, with_mem, processor, context, code, stack, ram, xip, map, table, guards}
use Rattle.machine.specs.Memory.{read_le, write_le, bytes_of, size_of, with_bytes}
use Rattle.machine.specs.Execute.{Helpers}
use Rattle.machine.proofs.Bytes.{length-write_le, get_or-write_le-below, get_or-write_le-above, read_below, read_above, read_same}
use Rattle.machine.proofs.Regions.{alike_trans, alike_with, bytes_same, bytes_other, drop_with}
use Rattle.card.specs.Card.{Card, set_sp, set_rets, set_hold}
use Rattle.lowering.specs.Cache.{off_reg}
use Rattle.demand.specs.Premises.{ram_guards}
use Rattle.demand.specs.Outside.{all_arm}
use Rattle.relation.specs.Relation.{Fields, Context, Others, Small, Kept, Cached, Home, Body}
use Rattle.registers.proofs.Access.{wrote, count-now, size-now}

-- ---- places that share no byte
pub read-apart : (l : List ℕ) (o n v p m : ℕ) → Separate o n p m → read_le (write_le l o n v) p m ≡ read_le l p m
read-apart l o n v p m (inl h) = read_above l o n v p m h
read-apart l o n v p m (inr h) = read_below l o n v p m h

pub get_or-apart : (l : List ℕ) (o n v j : ℕ) → (j < o) ⊎ (o + n ≤ j) → get_or (write_le l o n v) j 0 ≡ get_or l j 0
get_or-apart l o n v j (inl h) = get_or-write_le-below l o n v j h
get_or-apart l o n v j (inr h) = get_or-write_le-above l o n v j h

flip : (o n p m : ℕ) → Separate o n p m → Separate p m o n
flip o n p m (inl h) = inr h
flip o n p m (inr h) = inl h

-- a register's home among the 64 bytes
pub home_in : (lay : Layout) (r p m : ℕ) → r < 16 → Separate lay.regs 64 p m → Separate (off_reg lay r) 4 p m
home_in lay r p m l (inl h) = inl (omega arith)
home_in lay r p m l (inr h) = inr (omega arith)

-- two registers' homes
pub homes_apart : (lay : Layout) (r q : ℕ) → r ≢ q → Separate (off_reg lay r) 4 (off_reg lay q) 4
homes_apart lay r q h = test_lt (ltb r q) refl
  where
    test_lt : (b : Bool) → ltb r q ≡ b → Separate (off_reg lay r) 4 (off_reg lay q) 4
    test_lt true e = let z : r < q = ltb-true r q e in inl (omega arith)
    test_lt false e = let z : q ≤ r = ltb-false r q e in inr (omega arith)

-- ---- the processor record
module _ {lay : Layout} (L : LayoutFits lay) {c : Card} {pc : ℕ} {start now : List ℕ} (f : Fields lay c pc start now) where
  pub fields-reg : (r v : ℕ) → r < 16 → Fields lay c pc start (write_le now (off_reg lay r) 4 v)
  fields-reg r v l = record {
    sp_is = read-apart now (off_reg lay r) 4 v lay.sp 4 (home_in lay r lay.sp 4 l L.regs-sp) ∙ f.sp_is;
    rets_is = read-apart now (off_reg lay r) 4 v lay.rets 4 (home_in lay r lay.rets 4 l L.regs-rets) ∙ f.rets_is;
    hold_is = read-apart now (off_reg lay r) 4 v lay.hold 4 (home_in lay r lay.hold 4 l L.regs-hold) ∙ f.hold_is;
    pc_is = read-apart now (off_reg lay r) 4 v lay.pc 4 (home_in lay r lay.pc 4 l L.regs-pc) ∙ f.pc_is;
    outside = λ o h. get_or-apart now (off_reg lay r) 4 v o (inside o h.regs) ∙ f.outside o h;
  }
    where
      inside : (o : ℕ) → (o < lay.regs) ⊎ (lay.regs + 64 ≤ o) → (o < off_reg lay r) ⊎ (off_reg lay r + 4 ≤ o)
      inside o (inl h) = inl (omega arith)
      inside o (inr h) = inr (omega arith)

  pub fields-sp : (v u : ℕ) → v % 2 ^ 32 ≡ u → lay.sp + 4 ≤ length now → Fields lay (set_sp u c) pc start (write_le now lay.sp 4 v)
  fields-sp v u e l = record {
    sp_is = read_same now lay.sp 4 v l ∙ e;
    rets_is = read-apart now lay.sp 4 v lay.rets 4 L.sp-rets ∙ f.rets_is;
    hold_is = read-apart now lay.sp 4 v lay.hold 4 L.sp-hold ∙ f.hold_is;
    pc_is = read-apart now lay.sp 4 v lay.pc 4 L.sp-pc ∙ f.pc_is;
    outside = λ o h. get_or-apart now lay.sp 4 v o h.sp ∙ f.outside o h;
  }

  pub fields-rets : (v u : ℕ) → v % 2 ^ 32 ≡ u → lay.rets + 4 ≤ length now → Fields lay (set_rets u c) pc start (write_le now lay.rets 4 v)
  fields-rets v u e l = record {
    sp_is = read-apart now lay.rets 4 v lay.sp 4 (flip lay.sp 4 lay.rets 4 L.sp-rets) ∙ f.sp_is;
    rets_is = read_same now lay.rets 4 v l ∙ e;
    hold_is = read-apart now lay.rets 4 v lay.hold 4 L.rets-hold ∙ f.hold_is;
    pc_is = read-apart now lay.rets 4 v lay.pc 4 L.rets-pc ∙ f.pc_is;
    outside = λ o h. get_or-apart now lay.rets 4 v o h.rets ∙ f.outside o h;
  }

  pub fields-hold : (v u : ℕ) → v % 2 ^ 32 ≡ u → lay.hold + 4 ≤ length now → Fields lay (set_hold u c) pc start (write_le now lay.hold 4 v)
  fields-hold v u e l = record {
    sp_is = read-apart now lay.hold 4 v lay.sp 4 (flip lay.sp 4 lay.hold 4 L.sp-hold) ∙ f.sp_is;
    rets_is = read-apart now lay.hold 4 v lay.rets 4 (flip lay.rets 4 lay.hold 4 L.rets-hold) ∙ f.rets_is;
    hold_is = read_same now lay.hold 4 v l ∙ e;
    pc_is = read-apart now lay.hold 4 v lay.pc 4 (flip lay.pc 4 lay.hold 4 L.pc-hold) ∙ f.pc_is;
    outside = λ o h. get_or-apart now lay.hold 4 v o h.hold ∙ f.outside o h;
  }

  pub fields-pc : (v u : ℕ) → v % 2 ^ 32 ≡ u → lay.pc + 4 ≤ length now → Fields lay c u start (write_le now lay.pc 4 v)
  fields-pc v u e l = record {
    sp_is = read-apart now lay.pc 4 v lay.sp 4 (flip lay.sp 4 lay.pc 4 L.sp-pc) ∙ f.sp_is;
    rets_is = read-apart now lay.pc 4 v lay.rets 4 (flip lay.rets 4 lay.pc 4 L.rets-pc) ∙ f.rets_is;
    hold_is = read-apart now lay.pc 4 v lay.hold 4 L.pc-hold ∙ f.hold_is;
    pc_is = read_same now lay.pc 4 v l ∙ e;
    outside = λ o h. get_or-apart now lay.pc 4 v o h.pc ∙ f.outside o h;
  }

-- ---- the relation after a store
-- cards alike in what is neither in the processor record nor in a register
pub record Same (c c' : Card) : Type 0 where
  pub ram : c'.ram ≡ c.ram
  pub map : c'.map ≡ c.map
  pub brk : c'.brk ≡ c.brk
  pub version : c'.version ≡ c.version
  pub guards : c'.guards ≡ c.guards
  pub requests : c'.requests ≡ c.requests
  pub outcomes : c'.outcomes ≡ c.outcomes

others_with : {c c' : Card} {m m' : List Region} → Same c c' → Others c m m' → (k : ℕ) (l : List ℕ) → length l ≡ size_of m' k → code ≢ k → stack ≢ k → ram ≢ k → xip ≢ k → map ≢ k → table ≢ k → k < guards → Others c' m (with_bytes k l m')
others_with {m' = m'} a w k l e p q r t u v z = record {
  alike = alike_trans w.alike (alike_with k l m' e);
  code_is = bytes_other k l m' code p ∙ w.code_is;
  stack_is = bytes_other k l m' stack q ∙ w.stack_is;
  ram_is = bytes_other k l m' ram r ∙ w.ram_is ∙ sym a.ram;
  xip_is = bytes_other k l m' xip t ∙ w.xip_is;
  map_is = bytes_other k l m' map u ∙ w.map_is ∙ sym a.map;
  table_is = bytes_other k l m' table v ∙ w.table_is;
  guards_are = ap ram_guards (drop_with guards k l m' z) ∙ w.guards_are ∙ sym a.guards;
  guards_is = λ j o y n. ap (λ b. get_or b o 0) (bytes_other k l m' j (omega arith)) ∙ w.guards_is j o y n;
}

module _ {b : Block} {h : Helpers} {s0 : State} (B : Body b h s0) where
  module _ {c : Card} {pc slot : ℕ} {s : State} (w : Kept b s0 c pc slot s) where
    here_processor : processor < length s.mem
    here_processor = omega (arith, count-now B w)

    here_context : context < length s.mem
    here_context = omega (arith, count-now B w)

    pub kept-processor : (c' : Card) (pc' : ℕ) (l : List ℕ) → length l ≡ size_of s.mem processor → Same c c' → Small c' → Fields b.layout c' pc' (bytes_of s0.mem processor) l
        → Kept b s0 c' pc' slot (with_mem (with_bytes processor l s.mem) s)
    kept-processor c' pc' l e a z f = record {
      fixed = record { registers = w.fixed.registers; keeps = w.fixed.keeps; sp = w.fixed.sp };
      fields = subst (λ y. Fields b.layout c' pc' (bytes_of s0.mem processor) y) (sym (bytes_same processor l s.mem here_processor)) f;
      ctx = subst (λ y. Context c' slot (bytes_of s0.mem context) y) (sym (bytes_other processor l s.mem context (omega arith)))
          (record { brk_is = w.ctx.brk_is ∙ sym a.brk; slot_is = w.ctx.slot_is; version_is = w.ctx.version_is ∙ sym a.version; outside = w.ctx.outside });
      others = others_with a w.others processor l e (omega arith) (omega arith) (omega arith) (omega arith) (omega arith) (omega arith) (omega arith);
      io = record { outcomes_are = a.outcomes ∙ w.io.outcomes_are; requests_are = w.io.requests_are ∙ ap all_arm (sym a.requests); goods = w.io.goods };
      small = z;
    }

    pub kept-context : (slot' : ℕ) (l : List ℕ) → length l ≡ size_of s.mem context → Context c slot' (bytes_of s0.mem context) l → Kept b s0 c pc slot' (with_mem (with_bytes context l s.mem) s)
    kept-context slot' l e f = record {
      fixed = record { registers = w.fixed.registers; keeps = w.fixed.keeps; sp = w.fixed.sp };
      fields = subst (λ y. Fields b.layout c pc (bytes_of s0.mem processor) y) (sym (bytes_other context l s.mem processor (omega arith))) w.fields;
      ctx = subst (λ y. Context c slot' (bytes_of s0.mem context) y) (sym (bytes_same context l s.mem here_context)) f;
      others = others_with (same c) w.others context l e (omega arith) (omega arith) (omega arith) (omega arith) (omega arith) (omega arith) (omega arith);
      io = w.io;
      small = w.small;
    }
      where
        same : (c : Card) → Same c c
        same c = record { ram = refl; map = refl; brk = refl; version = refl; guards = refl; requests = refl; outcomes = refl }

    -- ---- each of the places
    module _ (C : Checked b) where
      pub kept-reg : (r v : ℕ) → r < 16 → Kept b s0 c pc slot (wrote processor (off_reg b.layout r) 4 v s)
      kept-reg r v l =
          kept-processor c pc (write_le (bytes_of s.mem processor) (off_reg b.layout r) 4 v) (length-write_le (bytes_of s.mem processor) (off_reg b.layout r) 4 v)
          (record { ram = refl; map = refl; brk = refl; version = refl; guards = refl; requests = refl; outcomes = refl }) w.small (fields-reg C.layout w.fields r v l)

      pub kept-sp : (v u : ℕ) → v % 2 ^ 32 ≡ u → Kept b s0 (set_sp u c) pc slot (wrote processor b.layout.sp 4 v s)
      kept-sp v u e =
          kept-processor (set_sp u c) pc (write_le (bytes_of s.mem processor) b.layout.sp 4 v) (length-write_le (bytes_of s.mem processor) b.layout.sp 4 v)
          (record { ram = refl; map = refl; brk = refl; version = refl; guards = refl; requests = refl; outcomes = refl })
          (record { count = w.small.count; regs_lt = w.small.regs_lt; sp_lt = omega arith; rets_lt = w.small.rets_lt; hold_lt = w.small.hold_lt; brk_lt = w.small.brk_lt; pc_lt = w.small.pc_lt })
          (fields-sp C.layout w.fields v u e (omega (arith, size-now B w processor, B.sp_in)))

      pub kept-rets : (v u : ℕ) → v % 2 ^ 32 ≡ u → Kept b s0 (set_rets u c) pc slot (wrote processor b.layout.rets 4 v s)
      kept-rets v u e =
          kept-processor (set_rets u c) pc (write_le (bytes_of s.mem processor) b.layout.rets 4 v) (length-write_le (bytes_of s.mem processor) b.layout.rets 4 v)
          (record { ram = refl; map = refl; brk = refl; version = refl; guards = refl; requests = refl; outcomes = refl })
          (record { count = w.small.count; regs_lt = w.small.regs_lt; sp_lt = w.small.sp_lt; rets_lt = omega arith; hold_lt = w.small.hold_lt; brk_lt = w.small.brk_lt; pc_lt = w.small.pc_lt })
          (fields-rets C.layout w.fields v u e (omega (arith, size-now B w processor, B.rets_in)))

      pub kept-hold : (v u : ℕ) → v % 2 ^ 32 ≡ u → Kept b s0 (set_hold u c) pc slot (wrote processor b.layout.hold 4 v s)
      kept-hold v u e =
          kept-processor (set_hold u c) pc (write_le (bytes_of s.mem processor) b.layout.hold 4 v) (length-write_le (bytes_of s.mem processor) b.layout.hold 4 v)
          (record { ram = refl; map = refl; brk = refl; version = refl; guards = refl; requests = refl; outcomes = refl })
          (record { count = w.small.count; regs_lt = w.small.regs_lt; sp_lt = w.small.sp_lt; rets_lt = w.small.rets_lt; hold_lt = omega arith; brk_lt = w.small.brk_lt; pc_lt = w.small.pc_lt })
          (fields-hold C.layout w.fields v u e (omega (arith, size-now B w processor, B.hold_in)))

      -- the card's own pc is another matter
      pub kept-pc : (v u : ℕ) → v % 2 ^ 32 ≡ u → Kept b s0 c u slot (wrote processor b.layout.pc 4 v s)
      kept-pc v u e =
          kept-processor c u (write_le (bytes_of s.mem processor) b.layout.pc 4 v) (length-write_le (bytes_of s.mem processor) b.layout.pc 4 v)
          (record { ram = refl; map = refl; brk = refl; version = refl; guards = refl; requests = refl; outcomes = refl }) w.small
          (fields-pc C.layout w.fields v u e (omega (arith, size-now B w processor, B.pc_in)))

    off_slot : (o : ℕ) → (o < 32) ⊎ (48 ≤ o) → (o < 32) ⊎ (32 + 8 ≤ o)
    off_slot o (inl q) = inl q
    off_slot o (inr q) = inr (omega arith)

    pub kept_slot : (v u : ℕ) → v % 2 ^ 64 ≡ u → Kept b s0 c pc u (wrote context 32 8 v s)
    kept_slot v u e =
        kept-context u (write_le (bytes_of s.mem context) 32 8 v) (length-write_le (bytes_of s.mem context) 32 8 v)
        (record {
          brk_is = read-apart (bytes_of s.mem context) 32 8 v 24 4 (inr (omega arith)) ∙ w.ctx.brk_is;
          slot_is = read_same (bytes_of s.mem context) 32 8 v (omega (arith, size-now B w context, B.context_in)) ∙ e;
          version_is = read-apart (bytes_of s.mem context) 32 8 v 40 8 (inl (omega arith)) ∙ w.ctx.version_is;
          outside = λ o p q. get_or-apart (bytes_of s.mem context) 32 8 v o (off_slot o q) ∙ w.ctx.outside o p q;
        })

-- ---- the registers' homes
pub cached-mem : {lay : Layout} {g : ℕ → ℕ} {d : ℕ → Bool} {c : Card} {s : State} → Cached lay g d c s → (m : List Region) → bytes_of m processor ≡ bytes_of s.mem processor → Cached lay g d c (with_mem m s)
cached-mem {lay} w m e = record { held = w.held; home = λ r l f. ap (λ y. read_le y (off_reg lay r) 4) e ∙ w.home r l f; uniq = w.uniq }

-- a store apart from them
pub cached-apart : {lay : Layout} {g : ℕ → ℕ} {d : ℕ → Bool} {c : Card} {s : State} → Cached lay g d c s → (o v : ℕ) → processor < length s.mem → Separate lay.regs 64 o 4 → Cached lay g d c (wrote processor o 4 v s)
cached-apart {lay} {s = s} w o v n a = record {
  held = w.held;
  home = λ r l f. ap (λ y. read_le y (off_reg lay r) 4) (bytes_same processor (write_le (bytes_of s.mem processor) o 4 v) s.mem n)
      ∙ read-apart (bytes_of s.mem processor) o 4 v (off_reg lay r) 4 (flip (off_reg lay r) 4 o 4 (home_in lay r o 4 l a)) ∙ w.home r l f;
  uniq = w.uniq;
}

pub cached-card : {lay : Layout} {g : ℕ → ℕ} {d : ℕ → Bool} {c : Card} {s : State} → Cached lay g d c s → (c' : Card) → c'.regs ≡ c.regs → Cached lay g d c' s
cached-card {g = g} w c' e = record { held = λ i l k. w.held i l k ∙ ap (λ y. get_or y (g i) 0) (sym e); home = λ r l f. w.home r l f ∙ ap (λ y. get_or y r 0) (sym e); uniq = w.uniq }

pub home-mem : {b : Block} {c : Card} {s : State} → Home b c s → (m : List Region) → bytes_of m processor ≡ bytes_of s.mem processor → Home b c (with_mem m s)
home-mem {b} w m e = record { regs_are = λ r l. ap (λ y. read_le y (off_reg b.layout r) 4) e ∙ w.regs_are r l }

pub home-apart : {b : Block} {c : Card} {s : State} → Home b c s → (o v : ℕ) → processor < length s.mem → Separate b.layout.regs 64 o 4 → Home b c (wrote processor o 4 v s)
home-apart {b} {s = s} w o v n a = record {
  regs_are = λ r l. ap (λ y. read_le y (off_reg b.layout r) 4) (bytes_same processor (write_le (bytes_of s.mem processor) o 4 v) s.mem n)
      ∙ read-apart (bytes_of s.mem processor) o 4 v (off_reg b.layout r) 4 (flip (off_reg b.layout r) 4 o 4 (home_in b.layout r o 4 l a)) ∙ w.regs_are r l;
}

-- homes speak of the memory alone
pub home_to : {b : Block} {c : Card} {s : State} → Home b c s → (s' : State) → s'.mem ≡ s.mem → Home b c s'
home_to {b} w s' e = record { regs_are = λ r l. ap (λ y. read_le (bytes_of y processor) (off_reg b.layout r) 4) e ∙ w.regs_are r l }

pub home-card : {b : Block} {c : Card} {s : State} → Home b c s → (c' : Card) → c'.regs ≡ c.regs → Home b c' s
home-card w c' e = record { regs_are = λ r l. w.regs_are r l ∙ ap (λ y. get_or y r 0) (sym e) }
