-- The register cache: which slot a lookup gives, and what the slots and the homes hold of the guest registers.
--     held-slot, free-slot                                       lookups
--     slots-touch, slots-assign, slots-mark                      the eight slots after a use
--     cached-clean, cached_marks, cached_same                    other marks, other slots
--     cached-spill, cached-put                                   a slot is stored; a slot is given to a register
use mathlib.Core.Path.{◌≡◌, refl, sym, ap, ◌∙◌, fun_ext}
use mathlib.Core.Logic.{◌≢◌}
use mathlib.Core.Bool.{Bool, true, false}
use mathlib.Core.List.{List, [], ◌∷◌}
use Prim.Native.Nat.{ℕ, zero, suc, ◌+◌, ◌%◌, ◌^◌, ◌≤◌, ◌<◌}
use native.Mathlib.Omega.{arith}
use borrow.Author.Tests.{eqb-true, eqb-false, ltb-true, ltb-false}
use lib.Dec.{eqb}
use lib.ListN.{length, get_or, set, length-set}
use lib.Seq.{get_or-set_same, get_or-set_other}
use Rattle.arm.specs.declared.Size.TheVariants.{W}
use Rattle.block.specs.declared.Layout.{Layout}
use Rattle.machine.specs.State.{State, with_x, processor}
use Rattle.machine.specs.Memory.{read_le, write_le, bytes_of, size_of}
use Rattle.machine.proofs.Bytes.{read_same}
use Rattle.machine.proofs.Registers.{R_same, R_other}
use Rattle.machine.proofs.Regions.{bytes_same}
use Rattle.card.specs.Card.{Card, reg}
use Rattle.lowering.specs.declared.RegCache.{RegCache}
use Rattle.lowering.specs.Cache.{host, off_reg, position, is_held, touch, assign, mark}
use Rattle.lowering.proofs.Lookups.{position_is, position_not}
use Rattle.relation.specs.Abs.{upd}
use Rattle.relation.specs.Relation.{Cached, Slots, guest_of}
use Rattle.registers.proofs.Basics.{test, upd_same, upd_other, cls_lt, host-cls, host_inj}
use Rattle.registers.proofs.Access.{wrote}
use Rattle.registers.proofs.Fields.{read-apart, homes_apart}

-- ---- lookups
-- a list read inside, by any default
pub get_d_default : {A : Type 0} (l : List A) (i : ℕ) (d e : A) → i < length l → get_or l i d ≡ get_or l i e
get_d_default [] i d e h = absurd (omega arith)
get_d_default (x ∷ xs) zero d e h = refl
get_d_default (x ∷ xs) (suc i) d e h = get_d_default xs i d e (omega arith)

module _ {rc : RegCache} (q : Slots rc) where
  pub held-slot : (r : ℕ) → is_held rc r ≡ true → (guest_of rc (position r rc.guest) ≡ r) × (position r rc.guest < 8)
  held-slot r h = let z : position r rc.guest < 8 = ltb-true (position r rc.guest) 8 h in (position_is r rc.guest 16 (omega (arith, q.guests)), z)

  pub free-slot : (r : ℕ) → is_held rc r ≡ false → (j : ℕ) → j < 8 → guest_of rc j ≢ r
  free-slot r h j l = let z : 8 ≤ position r rc.guest = ltb-false (position r rc.guest) 8 h in position_not r rc.guest 16 (omega (arith, q.guests)) j (omega (arith, q.guests))

  -- ---- the slots after a use
  pub slots-touch : (i : ℕ) → Slots (touch i rc)
  slots-touch i = record { guests = q.guests; dirties = q.dirties; guest_le = q.guest_le; clean = q.clean }

  pub slots-assign : (i r : ℕ) → i < 8 → r < 16 → Slots (assign i r rc)
  slots-assign i r l m = record {
    guests = length-set rc.guest i r ∙ q.guests;
    dirties = length-set rc.dirty i false ∙ q.dirties;
    guest_le = λ j. test (eqb j i)
        (λ e. let z : get_or (set rc.guest i r) j 16 ≡ r = ap (λ k. get_or (set rc.guest i r) k 16) (eqb-true j i e) ∙ get_or-set_same rc.guest i r 16 (omega (arith, q.guests)) in omega arith)
        (λ e. let z : get_or (set rc.guest i r) j 16 ≡ get_or rc.guest j 16 = get_or-set_other rc.guest i j r 16 (eqb-false j i e) in omega (arith, q.guest_le j));
    clean = λ j h. test (eqb j i)
        (λ e. ap (λ k. get_or (set rc.dirty i false) k false) (eqb-true j i e) ∙ get_or-set_same rc.dirty i false false (omega (arith, q.dirties)))
        (λ e. get_or-set_other rc.dirty i j false false (eqb-false j i e) ∙ q.clean j (sym (get_or-set_other rc.guest i j r 16 (eqb-false j i e)) ∙ h));
  }

  -- a slot that holds a register is marked
  pub slots-mark : (i : ℕ) → guest_of rc i < 16 → Slots (mark i rc)
  slots-mark i l = record {
    guests = q.guests;
    dirties = length-set rc.dirty i true ∙ q.dirties;
    guest_le = q.guest_le;
    clean = λ j h. test (eqb j i)
        (λ e. let z : guest_of rc i ≡ 16 = ap (guest_of rc) (sym (eqb-true j i e)) ∙ h in absurd (omega arith))
        (λ e. get_or-set_other rc.dirty i j true false (eqb-false j i e) ∙ q.clean j h);
  }

-- a list as a function
pub view_set : {A : Type 0} (l : List A) (i : ℕ) (v d : A) → i < length l → ◌≡◌ {A = ℕ → A} (λ j. get_or (set l i v) j d) (upd (λ j. get_or l j d) i v)
view_set l i v d h = fun_ext (λ j. test (eqb j i)
    (λ e. rw (eqb-true j i e) (get_or-set_same l i v d h ∙ sym (upd_same (λ j. get_or l j d) i v)))
    (λ e. get_or-set_other l i j v d (eqb-false j i e) ∙ sym (upd_other (λ j. get_or l j d) i v j (eqb-false j i e))))

-- ---- what slots and homes hold
module _ {lay : Layout} {g : ℕ → ℕ} {d : ℕ → Bool} {c : Card} {s : State} (w : Cached lay g d c s) where
  -- a slot whose copy is not behind is marked so
  pub cached-clean : (i : ℕ) → (g i < 16 → d i ≡ false) → Cached lay g (upd d i false) c s
  cached-clean i f = record {
    held = w.held;
    home = λ r h k. w.home r h (λ j b p. test (eqb j i)
        (λ e. let z : j ≡ i = eqb-true j i e in let p' : g i ≡ r = ap g (sym z) ∙ p in rw z (f (omega arith)))
        (λ e. sym (upd_other d i false j (eqb-false j i e)) ∙ k j b p));
    uniq = w.uniq;
  }

  -- more marks say less
  pub cached_marks : (d' : ℕ → Bool) → ((i : ℕ) → i < 8 → d' i ≡ false → d i ≡ false) → Cached lay g d' c s
  cached_marks d' f = record { held = w.held; home = λ r h k. w.home r h (λ j b p. f j b (k j b p)); uniq = w.uniq }

  -- only which register a slot holds matters
  pub cached_same : (g' : ℕ → ℕ) → ((i : ℕ) → i < 8 → g i < 16 → g' i ≡ g i) → ((i : ℕ) → i < 8 → g' i < 16 → g i ≡ g' i) → Cached lay g' d c s
  cached_same g' f h = record {
    held = λ i l k. let z : g i ≡ g' i = h i l k in w.held i l (omega arith) ∙ ap (reg c) z;
    home = λ r l k. w.home r l (λ j b p. k j b (f j b (omega arith) ∙ p));
    uniq = λ i j l m k p. let z : g i ≡ g' i = h i l k in let y : g j ≡ g' j = h j m (omega arith) in w.uniq i j l m (omega arith) (omega arith);
  }

  -- slot i is stored
  pub cached-spill : (i v : ℕ) → i < 8 → g i < 16 → v % 2 ^ 32 ≡ reg c (g i) → processor < length s.mem → lay.regs + 64 ≤ size_of s.mem processor
      → Cached lay g (upd d i false) c (wrote processor (off_reg lay (g i)) 4 v s)
  cached-spill i v l k e n m = record {
    held = w.held;
    home = λ r h f. ap (λ y. read_le y (off_reg lay r) 4) (bytes_same processor (write_le (bytes_of s.mem processor) (off_reg lay (g i)) 4 v) s.mem n)
        ∙ test (eqb r (g i))
        (λ z. rw (eqb-true r (g i) z) (read_same (bytes_of s.mem processor) (off_reg lay (g i)) 4 v (omega arith) ∙ e))
        (λ z. let y : r ≢ g i = eqb-false r (g i) z in
        read-apart (bytes_of s.mem processor) (off_reg lay (g i)) 4 v (off_reg lay r) 4 (homes_apart lay (g i) r (λ u. y (sym u)))
        ∙ w.home r h (λ j b p. test (eqb j i)
        (λ u. absurd (y (sym p ∙ ap g (eqb-true j i u))))
        (λ u. sym (upd_other d i false j (eqb-false j i u)) ∙ f j b p)));
    uniq = w.uniq;
  }

  -- slot i is given to r with the number that r has on the card c'; f: its home is behind
  pub cached-put : (c' : Card) (i r v : ℕ) (f : Bool) → i < 8 → r < 16 → length s.x ≡ 31 → ((j : ℕ) → j < 8 → j ≢ i → g j ≢ r) → (g i < 16 → g i ≢ r → d i ≡ false)
      → v % 2 ^ 32 ≡ reg c' r → ((p : ℕ) → p ≢ r → reg c' p ≡ reg c p) → (f ≡ false → read_le (bytes_of s.mem processor) (off_reg lay r) 4 ≡ reg c' r)
      → Cached lay (upd g i r) (upd d i f) c' (with_x (host i) v s)
  cached-put c' i r v f l m n o t x y z = record {
    held = λ j b h. test (eqb j i)
        (λ e. rw (eqb-true j i e) (R_same W (host i) v s (omega (arith, cls_lt (host i) (host-cls i l) (omega arith))) ∙ x ∙ ap (reg c') (sym (upd_same g i r))))
        (λ e. let u : j ≢ i = eqb-false j i e in let p : upd g i r j ≡ g j = upd_other g i r j u in
        R_other W (host i) v s (host j) (λ a. u (host_inj j i b l a)) ∙ w.held j b (rw p at h) ∙ sym (ap (reg c') p ∙ y (g j) (o j b u)));
    home = λ p h k. test (eqb p r)
        (λ e. let u : p ≡ r = eqb-true p r e in
        rw u (z (sym (upd_same d i f) ∙ k i l (upd_same g i r ∙ sym u))))
        (λ e. let u : p ≢ r = eqb-false p r e in
        w.home p h (λ j b a. test (eqb j i)
        (λ e'. let q : j ≡ i = eqb-true j i e' in let a' : g i ≡ p = ap g (sym q) ∙ a in rw q (t (omega arith) (λ k'. u (sym a' ∙ k'))))
        (λ e'. let q : j ≢ i = eqb-false j i e' in sym (upd_other d i f j q) ∙ k j b (upd_other g i r j q ∙ a)))
        ∙ sym (y p u));
    uniq = λ a b p q h k. test (eqb a i)
        (λ u. test (eqb b i)
        (λ e. eqb-true a i u ∙ sym (eqb-true b i e))
        (λ e. let e' : b ≢ i = eqb-false b i e in absurd (o b q e' (sym (upd_other g i r b e') ∙ sym k ∙ ap (upd g i r) (eqb-true a i u) ∙ upd_same g i r))))
        (λ u. let u' : a ≢ i = eqb-false a i u in let p' : upd g i r a ≡ g a = upd_other g i r a u' in test (eqb b i)
        (λ e. absurd (o a p u' (sym p' ∙ k ∙ ap (upd g i r) (eqb-true b i e) ∙ upd_same g i r)))
        (λ e. let e' : b ≢ i = eqb-false b i e in w.uniq a b p q (rw p' at h) (sym p' ∙ k ∙ upd_other g i r b e')));
  }
