-- All slots stored, and all slots loaded again.
--     flush_frag      every guest register is in the processor record, and the relation holds as before
--     Homed           every guest register is in the processor record, whatever the slots hold
--     reload_frag     the slots again, from the processor record
use mathlib.Core.Path.{◌≡◌, refl, sym, ap, ◌∙◌, subst₂, fun_ext}
use mathlib.Core.Logic.{◌≢◌}
use mathlib.Core.Bool.{Bool, true, false, cond, not, ◌&&◌}
use mathlib.Core.Option.{some}
use mathlib.Core.List.{List, [], ◌∷◌}
use Prim.Native.Nat.{ℕ, suc, ◌+◌, ◌≤◌, ◌<◌}
use native.Mathlib.Omega.{arith}
use borrow.Author.Tests.{not-true, eqb-true, eqb-false, ltb-true, ltb-false, lt-ltb, le-ltb, ne_eqb}
use lib.Dec.{eqb, ltb}
use lib.ListN.{length, get_or}
use Rattle.arm.specs.declared.Size.TheVariants.{W}
use Rattle.block.specs.declared.Block.{Block}
use Rattle.block.specs.Checked.{Checked}
use Rattle.code.specs.Items.{pick}
use Rattle.code.specs.Tree.{Depth, code}
use Rattle.machine.specs.Bits.{Nzcv}
use Rattle.machine.specs.State.{State, R}
use Rattle.machine.specs.Execute.{Helpers}
use Rattle.lowering.specs.declared.RegCache.{RegCache}
use Rattle.lowering.specs.Instrs.{CPU, ldr, str}
use Rattle.lowering.specs.Cache.{POOL, host, off_reg, FREE, flush_from, flush, reload_from, reload}
use Rattle.relation.specs.Lines.{arm}
use Rattle.relation.specs.Abs.{Abs, upd}
use Rattle.demand.specs.Claim.{slot_of}
use Rattle.relation.specs.Relation.{pc_of, cls, Body, Kept, Slots, Sim, Frag, Home, guest_of, dirty_of}
use Rattle.registers.proofs.Basics.{test, upd_same, upd_other, upd_id, View, view_sim, sim_view}
use Rattle.registers.proofs.Frags.{frag_map, frag_pre, frag_with, frag_nil, frag_cons}
use Rattle.registers.proofs.Cache.{cached-clean, cached_marks, cached_same}
use Rattle.registers.proofs.Slots.{str-slot, ldr-slot, view_as}

shift : (i j : ℕ) → i + suc j ≡ suc i + j
shift i j = omega arith

front : (j : ℕ) → j ≡ 0 + j
front j = omega arith

-- the marks with those of the slots below i cleared
cleared : ℕ → (ℕ → Bool) → ℕ → Bool
cleared i d j = cond (ltb j i) false (d j)

cleared-below : (i : ℕ) (d : ℕ → Bool) (j : ℕ) → j < i → cleared i d j ≡ false
unfolding cleared
cleared-below i d j h = rw (lt-ltb j i h)

cleared_from : (i : ℕ) (d : ℕ → Bool) (j : ℕ) → i ≤ j → cleared i d j ≡ d j
unfolding cleared
cleared_from i d j h = rw (le-ltb j i h)

-- other marks, of which those that say more are right
view_marks : {b : Block} {s0 : State} {g : ℕ → ℕ} {d : ℕ → Bool} {a : Abs} {s : State} (d' : ℕ → Bool) → ((j : ℕ) → j < 8 → d' j ≡ false → d j ≡ false) → View b s0 g d a s → View b s0 g d' a s
view_marks d' f w = record { kept = w.kept; cached = cached_marks w.cached d' f; temps = w.temps; flags = w.flags; done_is = w.done_is }

next_marks : (i : ℕ) (d : ℕ → Bool) (j : ℕ) → cleared (suc i) d j ≡ false → upd (cleared i d) i false j ≡ false
next_marks i d j h = test (eqb j i)
    (λ e. ap (upd (cleared i d) i false) (eqb-true j i e) ∙ upd_same (cleared i d) i false)
    (λ e. let z : j ≢ i = eqb-false j i e in upd_other (cleared i d) i false j z ∙ test (ltb j i)
    (λ u. cleared-below i d j (ltb-true j i u))
    (λ u. let y : i ≤ j = ltb-false j i u in cleared_from i d j y ∙ sym (cleared_from (suc i) d j (omega arith)) ∙ h))

and-false : (x y : Bool) → (x && y) ≡ false → y ≡ true → x ≡ false
and-false true y h k = sym k ∙ h
and-false false y h k = refl

and_left : (x y : Bool) → (x && y) ≡ true → (x ≡ true) × (y ≡ true)
and_left true y h = (refl, h)
and_left false y h = (cc, cc)

module _ {b : Block} {h : Helpers} {s0 : State} (B : Body b h s0) (C : Checked b) (base : ℕ) {n : Depth} where
  flush-from : (hs gs : List ℕ) (ds : List Bool) (i : ℕ) (g : ℕ → ℕ) (d : ℕ → Bool) (a : Abs) → i + length hs ≡ 8 → length gs ≡ length hs → length ds ≡ length hs
      → ((j : ℕ) → j < length hs → get_or hs j 0 ≡ host (i + j)) → ((j : ℕ) → j < length hs → get_or gs j 16 ≡ g (i + j)) → ((j : ℕ) → j < length hs → get_or ds j false ≡ d (i + j)) → ((j : ℕ) → g j ≤ 16)
      → Frag (arm h base) {n = n} (code (flush_from b.layout hs gs ds)) (View b s0 g (cleared i d) a) (View b s0 g (cleared 8 d) a)
  unfolding flush_from
  flush-from [] gs ds i g d a e eg ed fh fg fd le = let z : i ≡ 8 = omega arith in rw z frag_nil
  flush-from (x ∷ hs) [] ds i g d a e eg ed fh fg fd le = absurd (omega arith)
  flush-from (x ∷ hs) (y ∷ gs) [] i g d a e eg ed fh fg fd le = absurd (omega arith)
  flush-from (x ∷ hs) (y ∷ gs) (u ∷ ds) i g d a e eg ed fh fg fd le =
      by (flush-from hs gs ds (suc i) g d a (omega arith) (omega arith) (omega arith)
      (λ j l. fh (suc j) (omega arith) ∙ ap (λ k. host k) (shift i j)) (λ j l. fg (suc j) (omega arith) ∙ ap g (shift i j)) (λ j l. fd (suc j) (omega arith) ∙ ap d (shift i j)) le)
    where
      z : i + 0 ≡ i
      z = omega arith

      ex : x ≡ host i
      ex = fh 0 (omega arith) ∙ ap (λ k. host k) z

      ey : y ≡ g i
      ey = fg 0 (omega arith) ∙ ap g z

      eu : u ≡ d i
      eu = fd 0 (omega arith) ∙ ap d z

      step : (s : State) → View b s0 g (upd (cleared i d) i false) a s → View b s0 g (cleared (suc i) d) a s
      step s w = view_marks (cleared (suc i) d) (λ j l. next_marks i d j) w

      skip : (g i < 16 → d i ≡ false) → (s : State) → View b s0 g (cleared i d) a s → View b s0 g (cleared (suc i) d) a s
      skip f s w = step s (record { kept = w.kept; cached = cached-clean w.cached i (λ l. cleared_from i d i (omega arith) ∙ f l); temps = w.temps; flags = w.flags; done_is = w.done_is })

      store : g i < 16 → Frag (arm h base) {n = n} (code (str x CPU (off_reg b.layout y) ∷ [])) (View b s0 g (cleared i d) a) (View b s0 g (upd (cleared i d) i false) a)
      store l =
          subst₂ (λ p q. Frag (arm h base) {n = n} (code (str p CPU (off_reg b.layout q) ∷ [])) (View b s0 g (cleared i d) a) (View b s0 g (upd (cleared i d) i false) a))
          (sym ex) (sym ey) (str-slot B C base g (cleared i d) a i (omega arith) l)

      by : Frag (arm h base) {n = n} (code (flush_from b.layout hs gs ds)) (View b s0 g (cleared (suc i) d) a) (View b s0 g (cleared 8 d) a)
          → Frag (arm h base) {n = n} (code (pick (u && not (eqb y FREE)) (str x CPU (off_reg b.layout y) ∷ flush_from b.layout hs gs ds) (flush_from b.layout hs gs ds))) (View b s0 g (cleared i d) a) (View b s0 g (cleared 8 d) a)
      by rec = test (u && not (eqb y FREE))
          (λ t. let k : y ≢ 16 = eqb-false y 16 (not-true (eqb y FREE) (and_left u (not (eqb y FREE)) t).1) in
          let k' : g i ≤ 16 = le i in
          rw t (frag_cons (frag_map (store (omega (arith, ey))) step) rec))
          (λ t. rw t (frag_pre (skip (λ l. sym eu ∙ and-false u (not (eqb y FREE)) t (ap not (ne_eqb y 16 (λ q. omega (arith, ey)))))) rec))

  pub flush_frag : (rc : RegCache) (a : Abs) → Frag (arm h base) {n = n} (code (flush b.layout rc)) (Sim b s0 rc a) (λ s. Sim b s0 rc a s × Home b a.c s)
  unfolding flush
  flush_frag rc a = frag_with (λ s w.
      frag_pre (λ s₁ w₁. view_marks (cleared 0 (dirty_of rc)) (λ j l e. sym (cleared_from 0 (dirty_of rc) j (omega arith)) ∙ e) (view_sim w₁))
      (frag_map
      (flush-from POOL rc.guest rc.dirty 0 (guest_of rc) (dirty_of rc) a refl w.slots.guests w.slots.dirties
      (λ j l. ap (λ k. host k) (front j)) (λ j l. ap (guest_of rc) (front j)) (λ j l. ap (dirty_of rc) (front j)) w.slots.guest_le)
      (λ s₁ w₁. (
        sim_view w.slots (view_marks (dirty_of rc) (λ j l e. cleared-below 8 (dirty_of rc) j l) w₁),
        record { regs_are = λ r l. w₁.cached.home r l (λ j m e. cleared-below 8 (dirty_of rc) j m) },
      ))))

-- ---- every guest register is in the processor record, whatever the slots hold
pub record Homed (b : Block) (s0 : State) (rc : RegCache) (a : Abs) (s : State) : Type 0 where
  pub kept : Kept b s0 a.c (pc_of b s0) (slot_of s0) s
  pub slots : Slots rc
  pub uniq : (i j : ℕ) → i < 8 → j < 8 → guest_of rc i < 16 → guest_of rc i ≡ guest_of rc j → i ≡ j
  pub home : Home b a.c s
  pub temps : (k v : ℕ) → cls k ≡ 0 → a.t k ≡ some v → R W s k ≡ v
  pub flags : (f : Nzcv) → a.f ≡ some f → s.nzcv ≡ f
  pub done_is : R W s 26 ≡ a.c.done

-- the slots below i, the others free
part : ℕ → (ℕ → ℕ) → ℕ → ℕ
part i g j = cond (ltb j i) (g j) 16

part-below : (i : ℕ) (g : ℕ → ℕ) (j : ℕ) → j < i → part i g j ≡ g j
unfolding part
part-below i g j h = rw (lt-ltb j i h)

part_from : (i : ℕ) (g : ℕ → ℕ) (j : ℕ) → i ≤ j → part i g j ≡ 16
unfolding part
part_from i g j h = rw (le-ltb j i h)

part_step : (i : ℕ) (g : ℕ → ℕ) → upd (part i g) i (g i) ≡ part (suc i) g
part_step i g = fun_ext (λ j. test (eqb j i)
    (λ e. rw (eqb-true j i e) (upd_same (part i g) i (g i) ∙ sym (part-below (suc i) g i (omega arith))))
    (λ e. let z : j ≢ i = eqb-false j i e in upd_other (part i g) i (g i) j z ∙ test (ltb j i)
    (λ u. let y : j < i = ltb-true j i u in part-below i g j y ∙ sym (part-below (suc i) g j (omega arith)))
    (λ u. let y : i ≤ j = ltb-false j i u in part_from i g j y ∙ sym (part_from (suc i) g j (omega arith)))))

abbrev clean : ℕ → Bool
clean j = false

module _ {b : Block} {h : Helpers} {s0 : State} (B : Body b h s0) (C : Checked b) (base : ℕ) {n : Depth} where
  reload-from : (hs gs : List ℕ) (i : ℕ) (g : ℕ → ℕ) (a : Abs) → i + length hs ≡ 8 → length gs ≡ length hs
      → ((j : ℕ) → j < length hs → get_or hs j 0 ≡ host (i + j)) → ((j : ℕ) → j < length hs → get_or gs j 16 ≡ g (i + j)) → ((j : ℕ) → g j ≤ 16)
      → ((i j : ℕ) → i < 8 → j < 8 → g i < 16 → g i ≡ g j → i ≡ j)
      → Frag (arm h base) {n = n} (code (reload_from b.layout hs gs)) (View b s0 (part i g) clean a) (View b s0 (part 8 g) clean a)
  unfolding reload_from
  reload-from [] gs i g a e eg fh fg le un = let z : i ≡ 8 = omega arith in rw z frag_nil
  reload-from (x ∷ hs) [] i g a e eg fh fg le un = absurd (omega arith)
  reload-from (x ∷ hs) (y ∷ gs) i g a e eg fh fg le un =
      by (reload-from hs gs (suc i) g a (omega arith) (omega arith) (λ j l. fh (suc j) (omega arith) ∙ ap (λ k. host k) (shift i j)) (λ j l. fg (suc j) (omega arith) ∙ ap g (shift i j)) le un)
    where
      z : i + 0 ≡ i
      z = omega arith

      ex : x ≡ host i
      ex = fh 0 (omega arith) ∙ ap (λ k. host k) z

      ey : y ≡ g i
      ey = fg 0 (omega arith) ∙ ap g z

      above : part i g i ≡ 16
      above = part_from i g i (omega arith)

      other : g i < 16 → (j : ℕ) → j < 8 → part i g j ≢ g i
      other l j m q = test (ltb j i)
          (λ u. let k : j < i = ltb-true j i u in let r : i ≡ j = un i j (omega arith) m l (sym q ∙ part-below i g j k) in omega arith)
          (λ u. let k : i ≤ j = ltb-false j i u in let r : part i g j ≡ 16 = part_from i g j k in omega arith)

      -- a free slot
      free : g i ≡ 16 → part i g ≡ part (suc i) g
      free q = sym (upd_id (part i g) i) ∙ ap (upd (part i g) i) (above ∙ sym q) ∙ part_step i g

      by : Frag (arm h base) {n = n} (code (reload_from b.layout hs gs)) (View b s0 (part (suc i) g) clean a) (View b s0 (part 8 g) clean a)
          → Frag (arm h base) {n = n} (code (pick (eqb y FREE) (reload_from b.layout hs gs) (ldr x CPU (off_reg b.layout y) ∷ reload_from b.layout hs gs))) (View b s0 (part i g) clean a) (View b s0 (part 8 g) clean a)
      by rec = test (eqb y FREE)
          (λ t. let k : y ≡ 16 = eqb-true y 16 t in rw t (frag_pre (λ s w. view_as (free (sym ey ∙ k)) refl w) rec))
          (λ t. let k : y ≢ 16 = eqb-false y 16 t in
          let k' : g i ≤ 16 = le i in
          let m : g i < 16 = omega (arith, ey) in
          rw t (frag_cons (subst₂ (λ p q. Frag (arm h base) {n = n} (code (ldr p CPU (off_reg b.layout q) ∷ [])) (View b s0 (part i g) clean a) (View b s0 (part (suc i) g) clean a)) (sym ex) (sym ey)
          (frag_map (ldr-slot B C base (part i g) clean a i (g i) (omega arith) m (other m) (λ q. refl)) (λ s w. view_as (part_step i g) (upd_id clean i) w))) rec))

  pub reload_frag : (rc : RegCache) (a : Abs) → Frag (arm h base) {n = n} (code (reload b.layout rc)) (Homed b s0 rc a) (Sim b s0 rc a)
  unfolding reload
  reload_frag rc a = frag_with (λ s w.
      frag_pre start
      (frag_map
      (reload-from POOL rc.guest 0 (guest_of rc) a refl w.slots.guests (λ j l. ap (λ k. host k) (front j)) (λ j l. ap (guest_of rc) (front j)) w.slots.guest_le w.uniq)
      (λ s₁ w₁. sim_view w.slots (end s₁ w₁))))
    where
      start : (s : State) → Homed b s0 rc a s → View b s0 (part 0 (guest_of rc)) clean a s
      start s w = record {
        kept = w.kept;
        cached = record {
          held = λ i l k. absurd (omega (arith, part_from 0 (guest_of rc) i (omega arith)));
          home = λ r l k. w.home.regs_are r l;
          uniq = λ i j l m k e. absurd (omega (arith, part_from 0 (guest_of rc) i (omega arith)));
        };
        temps = w.temps;
        flags = w.flags;
        done_is = w.done_is;
      }

      end : (s : State) → View b s0 (part 8 (guest_of rc)) clean a s → View b s0 (guest_of rc) (dirty_of rc) a s
      end s w = record {
        kept = w.kept;
        cached = cached_marks (cached_same w.cached (guest_of rc) (λ j l k. sym (part-below 8 (guest_of rc) j l)) (λ j l k. part-below 8 (guest_of rc) j l)) (dirty_of rc) (λ j l k. refl);
        temps = w.temps;
        flags = w.flags;
        done_is = w.done_is;
      }
