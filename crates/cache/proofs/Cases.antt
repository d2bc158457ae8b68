-- What the lookup's answer says of the definition's choices.
use mathlib.Core.Path.{◌≡◌, refl, ap}
use mathlib.Core.Bool.{Bool, true, false}
use mathlib.Core.List.{[], ◌∷◌}
use Prim.Native.Nat.{ℕ, ◌<◌}
use lib.ListN.{get_or}
use borrow.Author.Tests.{ltb-true}
use Rattle.block.specs.declared.Layout.{Layout}
use Rattle.code.specs.Items.{pick}
use Rattle.lowering.specs.declared.RegCache.{RegCache}
use Rattle.lowering.specs.Instrs.{CPU, str}
use Rattle.lowering.specs.Cache.{host, FREE, position, is_held, off_reg, oldest, chosen, spill, slot_for, seated, touch, assign}
use Rattle.std.specs.Prelude.{Some, None}
use Rattle.cache.specs.Lookup.{lookup}

at_true : (b : Bool) (p i : ℕ) → Some i ≡ pick b (Some p) None → (b ≡ true) × (i ≡ p)
at_true true p i e = (refl, cc)
at_true false p i e = (cc, cc)

none_false : (b : Bool) (p : ℕ) → None ≡ pick b (Some p) None → b ≡ false
none_false true p e = cc
none_false false p e = refl

module _ (rc : RegCache) (r i : ℕ) (e : Some i ≡ lookup rc r) where
  pub is-held : is_held rc r ≡ true
  is-held = (at_true _ _ _ e).0

  pub at_position : i ≡ position r rc.guest
  at_position = (at_true (is_held rc r) (position r rc.guest) i e).1

  pub held_small : i < 8
  held_small = rw at_position (ltb-true _ _ is-held)

  pub held-slot : i ≡ slot_for rc r
  unfolding slot_for
  held-slot = rw is-held at_position

  pub touched_seated : touch i rc ≡ seated rc r
  unfolding seated
  touched_seated = rw is-held (ap (λ k. touch k rc) at_position)

module _ (rc : RegCache) (r i : ℕ) (e : None ≡ lookup rc r) (h : i ≡ chosen rc) where
  pub not_held : is_held rc r ≡ false
  not_held = none_false _ _ e

  pub new-slot : i ≡ slot_for rc r
  unfolding slot_for
  new-slot = rw not_held h

  pub assigned_seated : assign i r rc ≡ seated rc r
  unfolding seated
  assigned_seated = rw not_held (ap (λ k. assign k r rc) h)

-- ---- the slot to take
module _ (lay : Layout) (rc : RegCache) (i : ℕ) where
  pub free-chosen : Some i ≡ lookup rc FREE → i ≡ chosen rc
  unfolding chosen
  free-chosen e = rw (is-held rc FREE i e) (at_position rc FREE i e)

  pub free-spill : Some i ≡ lookup rc FREE → [] ≡ spill lay rc
  unfolding spill
  free-spill e = rw (is-held rc FREE i e)

  pub old_chosen : None ≡ lookup rc FREE → i ≡ oldest rc → i ≡ chosen rc
  unfolding chosen
  old_chosen e h = rw (none_false (is_held rc FREE) _ e) h

  pub dirty-spill : None ≡ lookup rc FREE → i ≡ oldest rc → get_or rc.dirty i false ≡ true → str (host i) CPU (off_reg lay (get_or rc.guest i 0)) ∷ [] ≡ spill lay rc
  unfolding spill
  dirty-spill e h d = rw (none_false (is_held rc FREE) _ e) (rw (← h, d))

  pub clean-spill : None ≡ lookup rc FREE → i ≡ oldest rc → get_or rc.dirty i false ≡ false → [] ≡ spill lay rc
  unfolding spill
  clean-spill e h d = rw (none_false (is_held rc FREE) _ e) (rw (← h, d))
