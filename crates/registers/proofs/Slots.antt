-- Code that moves guest registers between slots, homes and temporaries.
--     str-slot, ldr-slot          a slot is stored to its register's home; a slot takes a register from its home
--     spill_frag                  the slot to be given up is stored if it is behind
--     kept-set_reg                 the card's registers change
use mathlib.Core.Path.{◌≡◌, refl, sym, ap, ◌∙◌, subst, subst₂}
use mathlib.Core.Logic.{◌≢◌}
use mathlib.Core.Bool.{Bool, true, false}
use mathlib.Core.Option.{some}
use mathlib.Core.List.{[], ◌∷◌}
use Prim.Native.Nat.{ℕ, ◌^◌, ◌≤◌, ◌<◌}
use native.Mathlib.Nat.{mod-eq_of_lt}
use native.Mathlib.Omega.{arith}
use borrow.Author.Tests.{eqb-true, eqb-false}
use lib.Dec.{eqb}
use lib.ListN.{length, get_or, set, length-set}
use lib.Seq.{get_or-set_same, get_or-set_other}
use Rattle.arm.specs.declared.Size.TheVariants.{W, X}
use Rattle.block.specs.declared.Block.{Block}
use Rattle.block.specs.Checked.{Checked}
use Rattle.code.specs.Tree.{Depth, code}
use Rattle.code.specs.Machine.{fall}
use Rattle.machine.specs.State.{State, R, with_x, processor}
use Rattle.machine.specs.Memory.{read_le, bytes_of}
use Rattle.machine.specs.Execute.{Helpers}
use Rattle.machine.proofs.Bytes.{read_lt}
use Rattle.machine.proofs.Data.{exec_mov}
use Rattle.machine.proofs.Registers.{R_lt, R_other, W_of_X}
use Rattle.card.specs.Card.{Card, reg, set_reg}
use Rattle.lowering.specs.declared.RegCache.{RegCache}
use Rattle.lowering.specs.Instrs.{CPU, mov, ldr, str}
use Rattle.lowering.specs.Cache.{host, off_reg, FREE, position, oldest, is_held, chosen, slot_for, spill, seated, stored, ld_reg, st_reg}
use Rattle.lowering.proofs.Lookups.{oldest_lt, chosen_lt}
use Rattle.relation.specs.Lines.{arm, of_effect, bare, exec}
use Rattle.relation.specs.Abs.{Abs, upd, with_temp, with_card}
use Rattle.demand.specs.Claim.{slot_of}
use Rattle.relation.specs.Relation.{pc_of, cls, Body, Kept, Cached, Slots, Sim, Frag, guest_of, dirty_of}
use Rattle.registers.proofs.Basics.{test, absurd_bool, upd_same, upd-upd, upd_id, cls_ne, host-cls, View, view_sim, sim_view}
use Rattle.registers.proofs.Basics.{kept-x, view_at, put_some}
use Rattle.registers.proofs.Frags.{frag_map, frag_pre, frag_with, frag_nil, frag-one, frag_append}
use Rattle.registers.proofs.Access.{wrote, count-now, size-now, ldr-now, str-now}
use Rattle.registers.proofs.Fields.{kept-reg}
use Rattle.registers.proofs.Cache.{held-slot, free-slot, slots-touch, slots-assign, slots-mark, view_set, get_d_default}
use Rattle.registers.proofs.Cache.{cached-clean, cached-spill, cached-put}

-- ---- 32 bits of a register to another
pub exec-move : (h : Helpers) (s : State) (rd rm : ℕ) → length s.x ≡ 31 → exec h (mov rd rm) s ≡ fall (bare (with_x rd (R W s rm) s))
unfolding exec
exec-move h s rd rm e = ap of_effect (exec_mov h s W rm rd e)

-- a slot is written, its register's number given by the card c
pub view_slot : {b : Block} {s0 : State} {g : ℕ → ℕ} {d : ℕ → Bool} {a : Abs} {s : State} → View b s0 g d a s → (c : Card) (i v : ℕ) {g' : ℕ → ℕ} {d' : ℕ → Bool} → i < 8
    → Kept b s0 c (pc_of b s0) (slot_of s0) s → c.done ≡ a.c.done → Cached b.layout g' d' c (with_x (host i) v s) → View b s0 g' d' (with_card c a) (with_x (host i) v s)
unfolding cls
view_slot {a = a} {s = s} w c i v l k e q = record {
  kept = kept-x k (host i) v (λ z. absurd (omega (arith, host-cls i l)));
  cached = q;
  temps = λ j u z p. R_other W (host i) v s j (cls_ne j (host i) z (host-cls i l) (omega arith)) ∙ w.temps j u z p;
  flags = w.flags;
  done_is = R_other W (host i) v s 26 (cls_ne 26 (host i) {a = 4} refl (host-cls i l) (omega arith)) ∙ w.done_is ∙ sym e;
}

module _ {b : Block} {h : Helpers} {s0 : State} (B : Body b h s0) (C : Checked b) (base : ℕ) {n : Depth} where
  -- slot i is stored
  pub str-slot : (g : ℕ → ℕ) (d : ℕ → Bool) (a : Abs) (i : ℕ) → i < 8 → g i < 16 → Frag (arm h base) {n = n} (code (str (host i) CPU (off_reg b.layout (g i)) ∷ [])) (View b s0 g d a) (View b s0 g (upd d i false) a)
  unfolding cls
  str-slot g d a i l m =
      frag-one (str (host i) CPU (off_reg b.layout (g i))) (λ s. bare (wrote processor (off_reg b.layout (g i)) 4 (R X s (host i)) s))
      (λ s w. str-now B w.kept CPU processor (off_reg b.layout (g i)) refl B.x19 (omega arith) (host i) refl (omega (arith, C.layout.regs.aligned)) (omega (arith, B.regs_in)))
      (λ s w. view_at (after s w) 0 0)
    where
      after : (s : State) → View b s0 g d a s → View b s0 g (upd d i false) a (wrote processor (off_reg b.layout (g i)) 4 (R X s (host i)) s)
      after s w = record {
        kept = kept-reg B w.kept C (g i) (R X s (host i)) m;
        cached = cached-spill w.cached i (R X s (host i)) l m (W_of_X s (host i) ∙ w.cached.held i l m) (omega (arith, count-now B w.kept)) (omega (arith, B.regs_in, size-now B w.kept processor));
        temps = w.temps;
        flags = w.flags;
        done_is = w.done_is;
      }

  -- slot i, which is not behind, takes r from its home
  pub ldr-slot : (g : ℕ → ℕ) (d : ℕ → Bool) (a : Abs) (i r : ℕ) → i < 8 → r < 16 → ((j : ℕ) → j < 8 → g j ≢ r) → (g i < 16 → d i ≡ false)
      → Frag (arm h base) {n = n} (code (ldr (host i) CPU (off_reg b.layout r) ∷ [])) (View b s0 g d a) (View b s0 (upd g i r) (upd d i false) a)
  unfolding cls
  ldr-slot g d a i r l m o t =
      frag-one (ldr (host i) CPU (off_reg b.layout r)) (λ s. bare (with_x (host i) (read_le (bytes_of s.mem processor) (off_reg b.layout r) 4) s))
      (λ s w. ldr-now B w.kept CPU processor (off_reg b.layout r) refl B.x19 (omega arith) (host i) (omega (arith, C.layout.regs.aligned)) (omega (arith, B.regs_in)))
      (λ s w. view_at (after s w) 0 0)
    where
      after : (s : State) → View b s0 g d a s → View b s0 (upd g i r) (upd d i false) a (with_x (host i) (read_le (bytes_of s.mem processor) (off_reg b.layout r) 4) s)
      after s w =
          let v : ℕ = read_le (bytes_of s.mem processor) (off_reg b.layout r) 4 in
          let y : read_le (bytes_of s.mem processor) (off_reg b.layout r) 4 ≡ reg a.c r = w.cached.home r m (λ j q p. absurd (o j q p)) in
          let lt : read_le (bytes_of s.mem processor) (off_reg b.layout r) 4 < 2 ^ 32 = read_lt (bytes_of s.mem processor) (off_reg b.layout r) 4 in
          view_slot w a.c i v l w.kept refl
          (cached-put w.cached a.c i r v false l m w.kept.fixed.registers (λ j q p. o j q) (λ p q. t p) (mod-eq_of_lt lt ∙ y) (λ p q. refl) (λ p. y))

  -- what is given up is stored if it is behind
  pub spill_frag : {rc : RegCache} (a : Abs) → Slots rc → Frag (arm h base) {n = n} (code (spill b.layout rc)) (View b s0 (guest_of rc) (dirty_of rc) a) (View b s0 (guest_of rc) (upd (dirty_of rc) (chosen rc) false) a)
  unfolding spill chosen
  spill_frag {rc} a q = test (is_held rc FREE) free (λ e. test (dirty_of rc (oldest rc)) (dirty e) (clean e))
    where
      skip : (i : ℕ) → (guest_of rc i < 16 → dirty_of rc i ≡ false) → (s : State) → View b s0 (guest_of rc) (dirty_of rc) a s → View b s0 (guest_of rc) (upd (dirty_of rc) i false) a s
      skip i f s w = record { kept = w.kept; cached = cached-clean w.cached i f; temps = w.temps; flags = w.flags; done_is = w.done_is }

      free : is_held rc FREE ≡ true → Frag (arm h base) {n = n} (code (spill b.layout rc)) (View b s0 (guest_of rc) (dirty_of rc) a) (View b s0 (guest_of rc) (upd (dirty_of rc) (chosen rc) false) a)
      free e = let z : guest_of rc (position FREE rc.guest) ≡ 16 = (held-slot q FREE e).0 in rw e (frag_map frag_nil (skip (position FREE rc.guest) (λ u. absurd (omega arith))))

      clean : is_held rc FREE ≡ false → dirty_of rc (oldest rc) ≡ false → Frag (arm h base) {n = n} (code (spill b.layout rc)) (View b s0 (guest_of rc) (dirty_of rc) a) (View b s0 (guest_of rc) (upd (dirty_of rc) (chosen rc) false) a)
      clean e f = rw (e, f) (frag_map frag_nil (skip (oldest rc) (λ u. f)))

      dirty : is_held rc FREE ≡ false → dirty_of rc (oldest rc) ≡ true → Frag (arm h base) {n = n} (code (spill b.layout rc)) (View b s0 (guest_of rc) (dirty_of rc) a) (View b s0 (guest_of rc) (upd (dirty_of rc) (chosen rc) false) a)
      dirty e f =
          let l : oldest rc < 8 = oldest_lt rc in
          let z : guest_of rc (oldest rc) ≢ 16 = free-slot q FREE e (oldest rc) l in
          let y : guest_of rc (oldest rc) ≤ 16 = q.guest_le (oldest rc) in
          rw (e, f, get_d_default rc.guest (oldest rc) 0 16 (omega (arith, q.guests))) (str-slot (guest_of rc) (dirty_of rc) a (oldest rc) l (omega arith))

-- ---- w(t) = guest register r
-- the slots as the functions that the moves make of them
pub view_as : {b : Block} {s0 : State} {g g' : ℕ → ℕ} {d d' : ℕ → Bool} {a : Abs} {s : State} → g ≡ g' → d ≡ d' → View b s0 g d a s → View b s0 g' d' a s
view_as {b} {s0} {a = a} {s = s} p q w = subst₂ (λ g d. View b s0 g d a s) p q w

module _ {b : Block} {h : Helpers} {s0 : State} (B : Body b h s0) (C : Checked b) (base : ℕ) {n : Depth} where
  -- a slot's number to a temporary
  slot_to : {g : ℕ → ℕ} {d : ℕ → Bool} (a : Abs) (t i r : ℕ) → cls t ≡ 0 → i < 8 → r < 16 → g i ≡ r
      → Frag (arm h base) {n = n} (code (mov t (host i) ∷ [])) (View b s0 g d a) (View b s0 g d (with_temp t (some (reg a.c r)) a))
  slot_to {g} {d} a t i r q l m e =
      frag-one (mov t (host i)) (λ s. bare (with_x t (R W s (host i)) s)) (λ s w. exec-move h s t (host i) w.kept.fixed.registers)
      (λ s w. view_at (put_some w t (R W s (host i)) (reg a.c r) q (mod-eq_of_lt (R_lt W s (host i)) ∙ w.cached.held i l (omega arith) ∙ ap (reg a.c) e)) 0 0)

  pub ld_reg_frag : (rc : RegCache) (a : Abs) (t r : ℕ) → cls t ≡ 0 → r < 16
      → Frag (arm h base) {n = n} (code (ld_reg b.layout rc t r)) (Sim b s0 rc a) (Sim b s0 (seated rc r) (with_temp t (some (reg a.c r)) a))
  unfolding ld_reg seated slot_for
  ld_reg_frag rc a t r q m = frag_with (λ s w. frag_pre (λ s₁ w₁. view_sim w₁) (test (is_held rc r) (here w.slots) (new w.slots)))
    where
      here : Slots rc → is_held rc r ≡ true → Frag (arm h base) {n = n} (code (ld_reg b.layout rc t r)) (View b s0 (guest_of rc) (dirty_of rc) a) (Sim b s0 (seated rc r) (with_temp t (some (reg a.c r)) a))
      here p e =
          let i : ℕ = position r rc.guest in
          rw e (frag_map (slot_to a t i r q (held-slot p r e).1 m (held-slot p r e).0) (λ s w. sim_view (slots-touch p i) w))

      new : Slots rc → is_held rc r ≡ false → Frag (arm h base) {n = n} (code (ld_reg b.layout rc t r)) (View b s0 (guest_of rc) (dirty_of rc) a) (Sim b s0 (seated rc r) (with_temp t (some (reg a.c r)) a))
      new p e =
          let l : chosen rc < 8 = chosen_lt rc in
          rw e (frag_map
          (frag_append (frag_append (spill_frag B C base a p) (ldr-slot B C base (guest_of rc) (upd (dirty_of rc) (chosen rc) false) a (chosen rc) r l m (free-slot p r e) (λ z. upd_same (dirty_of rc) (chosen rc) false)))
          (slot_to a t (chosen rc) r q l m (upd_same (guest_of rc) (chosen rc) r)))
          (λ s w. sim_view (slots-assign p (chosen rc) r l m)
          (view_as (sym (view_set rc.guest (chosen rc) r 16 (omega (arith, p.guests)))) (upd-upd (dirty_of rc) (chosen rc) false false ∙ sym (view_set rc.dirty (chosen rc) false false (omega (arith, p.dirties)))) w)))

-- ---- guest register r = w(t)
-- a register of the card changes
pub kept-set_reg : {b : Block} {s0 : State} {c : Card} {pc slot : ℕ} {s : State} → Kept b s0 c pc slot s → (r v : ℕ) → r < 16 → v < 2 ^ 32 → Kept b s0 (set_reg r v c) pc slot s
kept-set_reg {c = c} w r v m l = record {
  fixed = w.fixed;
  fields = record { sp_is = w.fields.sp_is; rets_is = w.fields.rets_is; hold_is = w.fields.hold_is; pc_is = w.fields.pc_is; outside = w.fields.outside };
  ctx = record { brk_is = w.ctx.brk_is; slot_is = w.ctx.slot_is; version_is = w.ctx.version_is; outside = w.ctx.outside };
  others = record { alike = w.others.alike; code_is = w.others.code_is; stack_is = w.others.stack_is; ram_is = w.others.ram_is; xip_is = w.others.xip_is; map_is = w.others.map_is; table_is = w.others.table_is; guards_are = w.others.guards_are; guards_is = w.others.guards_is };
  io = record { outcomes_are = w.io.outcomes_are; requests_are = w.io.requests_are; goods = w.io.goods };
  small = record {
    count = length-set c.regs r v ∙ w.small.count;
    regs_lt = λ q. test (eqb q r)
        (λ e. subst (λ u. u < 2 ^ 32) (sym (ap (λ k. get_or (set c.regs r v) k 0) (eqb-true q r e) ∙ get_or-set_same c.regs r v 0 (omega (arith, w.small.count)))) l)
        (λ e. subst (λ u. u < 2 ^ 32) (sym (get_or-set_other c.regs r q v 0 (eqb-false q r e))) (w.small.regs_lt q));
    sp_lt = w.small.sp_lt;
    rets_lt = w.small.rets_lt;
    hold_lt = w.small.hold_lt;
    brk_lt = w.small.brk_lt;
    pc_lt = w.small.pc_lt;
  };
}

module _ {b : Block} {h : Helpers} {s0 : State} (B : Body b h s0) (C : Checked b) (base : ℕ) {n : Depth} where
  -- slot i is given to r, with a temporary's number
  to_slot : (g : ℕ → ℕ) (d : ℕ → Bool) (a : Abs) (t r i v : ℕ) → cls t ≡ 0 → i < 8 → r < 16 → a.t t ≡ some v
      → ((s : State) → View b s0 g d a s → (j : ℕ) → j < 8 → j ≢ i → g j ≢ r) → (g i < 16 → g i ≢ r → d i ≡ false)
      → Frag (arm h base) {n = n} (code (mov (host i) t ∷ [])) (View b s0 g d a) (View b s0 (upd g i r) (upd d i true) (with_card (set_reg r v a.c) a))
  to_slot g d a t r i v q l m e o z =
      frag-one (mov (host i) t) (λ s. bare (with_x (host i) (R W s t) s)) (λ s w. exec-move h s (host i) t w.kept.fixed.registers) (λ s w. view_at (after s w) 0 0)
    where
      after : (s : State) → View b s0 g d a s → View b s0 (upd g i r) (upd d i true) (with_card (set_reg r v a.c) a) (with_x (host i) (R W s t) s)
      after s w =
          let x : R W s t ≡ v = w.temps t v q e in
          let y : R W s t < 2 ^ 32 = R_lt W s t in
          let k : get_or (set a.c.regs r v) r 0 ≡ v = get_or-set_same a.c.regs r v 0 (omega (arith, w.kept.small.count)) in
          view_slot w (set_reg r v a.c) i (R W s t) l (kept-set_reg w.kept r v m (omega arith)) refl
          (cached-put w.cached (set_reg r v a.c) i r (R W s t) true l m w.kept.fixed.registers (o s w) z (mod-eq_of_lt y ∙ x ∙ sym k) (λ p u. get_or-set_other a.c.regs r p v 0 u) (λ f. absurd_bool f))

  pub st_reg_frag : (rc : RegCache) (a : Abs) (t r v : ℕ) → cls t ≡ 0 → r < 16 → a.t t ≡ some v
      → Frag (arm h base) {n = n} (code (st_reg b.layout rc t r)) (Sim b s0 rc a) (Sim b s0 (stored rc r) (with_card (set_reg r v a.c) a))
  unfolding st_reg stored seated slot_for
  st_reg_frag rc a t r v q m k = frag_with (λ s w. frag_pre (λ s₁ w₁. view_sim w₁) (test (is_held rc r) (here w.slots) (new w.slots)))
    where
      here : Slots rc → is_held rc r ≡ true → Frag (arm h base) {n = n} (code (st_reg b.layout rc t r)) (View b s0 (guest_of rc) (dirty_of rc) a) (Sim b s0 (stored rc r) (with_card (set_reg r v a.c) a))
      here p e =
          let l : position r rc.guest < 8 = (held-slot p r e).1 in
          let z : guest_of rc (position r rc.guest) ≡ r = (held-slot p r e).0 in
          rw e (frag_map
          (to_slot (guest_of rc) (dirty_of rc) a t r (position r rc.guest) v q l m k
          (λ s w j u y x. y (sym (w.cached.uniq (position r rc.guest) j l u (omega arith) (z ∙ sym x)))) (λ u y. absurd (y z)))
          (λ s w. sim_view (slots-mark (slots-touch p (position r rc.guest)) (position r rc.guest) (omega arith))
          (view_as (ap (upd (guest_of rc) (position r rc.guest)) (sym z) ∙ upd_id (guest_of rc) (position r rc.guest))
          (sym (view_set rc.dirty (position r rc.guest) true false (omega (arith, p.dirties)))) w)))

      new : Slots rc → is_held rc r ≡ false → Frag (arm h base) {n = n} (code (st_reg b.layout rc t r)) (View b s0 (guest_of rc) (dirty_of rc) a) (Sim b s0 (stored rc r) (with_card (set_reg r v a.c) a))
      new p e =
          let l : chosen rc < 8 = chosen_lt rc in
          let dl : length (set rc.dirty (chosen rc) false) ≡ 8 = length-set rc.dirty (chosen rc) false ∙ p.dirties in
          let z : get_or (set rc.guest (chosen rc) r) (chosen rc) 16 ≡ r = get_or-set_same rc.guest (chosen rc) r 16 (omega (arith, p.guests)) in
          rw e (frag_map
          (frag_append (spill_frag B C base a p)
          (to_slot (guest_of rc) (upd (dirty_of rc) (chosen rc) false) a t r (chosen rc) v q l m k (λ s w j u y. free-slot p r e j u) (λ u y. upd_same (dirty_of rc) (chosen rc) false)))
          (λ s w. sim_view (slots-mark (slots-assign p (chosen rc) r l m) (chosen rc) (omega arith))
          (view_as (sym (view_set rc.guest (chosen rc) r 16 (omega (arith, p.guests))))
          (sym (view_set (set rc.dirty (chosen rc) false) (chosen rc) true false (omega arith) ∙ ap (λ y. upd y (chosen rc) true) (view_set rc.dirty (chosen rc) false false (omega (arith, p.dirties))))) w)))
