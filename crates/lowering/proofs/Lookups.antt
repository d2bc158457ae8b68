-- Lookups in the register cache. Assumes nothing.
--     position_is, position_first     a number stands at its first position, and not before it
--     position_not                    it stands nowhere if its position is the length
--     oldest_lt, chosen_lt            the slot given up, and the slot taken, are slots
use mathlib.Core.Path.{◌≡◌, refl}
use mathlib.Core.Logic.{◌≢◌}
use mathlib.Core.Bool.{Bool, true, false}
use mathlib.Core.List.{List, [], ◌∷◌}
use Prim.Native.Nat.{ℕ, zero, suc, ◌≤◌, ◌<◌}
use native.Mathlib.Omega.{arith}
use lib.Dec.{eqb}
use lib.ListN.{length, get_or}
use borrow.Author.Tests.{eqb-true, eqb-false, eq-eqb, ne_eqb, ltb-true}
use Rattle.code.specs.Items.{pick}
use Rattle.lowering.specs.declared.RegCache.{RegCache}
use Rattle.lowering.specs.Cache.{FREE, position, is_held, oldest, chosen}

pub position_is : (r : ℕ) (l : List ℕ) (d : ℕ) → position r l < length l → get_or l (position r l) d ≡ r
unfolding position
position_is r [] d h = absurd (omega arith)
position_is r (g ∷ gs) d h = by (position_is r gs d) (eqb g r) refl
  where
    by : (position r gs < length gs → get_or gs (position r gs) d ≡ r) → (b : Bool) → eqb g r ≡ b
        → get_or (g ∷ gs) (pick (eqb g r) 0 (suc (position r gs))) d ≡ r
    by rec true e = rw e (eqb-true g r e)
    by rec false e = let k : suc (position r gs) < suc (length gs) = rw e at h in rw e (rec (omega arith))

pub position_not : (r : ℕ) (l : List ℕ) (d : ℕ) → length l ≤ position r l → (j : ℕ) → j < length l → get_or l j d ≢ r
unfolding position
position_not r [] d h j k = absurd (omega arith)
position_not r (g ∷ gs) d h j k = by (position_not r gs d) (eqb g r) refl j k
  where
    by : (length gs ≤ position r gs → (j : ℕ) → j < length gs → get_or gs j d ≢ r) → (b : Bool) → eqb g r ≡ b
        → (j : ℕ) → j < suc (length gs) → get_or (g ∷ gs) j d ≢ r
    by rec true e j k = let z : suc (length gs) ≤ 0 = rw e at h in absurd (omega arith)
    by rec false e zero k = eqb-false g r e
    by rec false e (suc j) k = let z : suc (length gs) ≤ suc (position r gs) = rw e at h in rec (omega arith) j (omega arith)

pub position_first : (r : ℕ) (l : List ℕ) (i : ℕ) → i < length l → get_or l i 0 ≡ r
    → ((j : ℕ) → j < i → get_or l j 0 ≢ r) → position r l ≡ i
unfolding position
position_first r [] i k h f = absurd (omega arith)
position_first r (g ∷ gs) zero k h f = rw (eq-eqb g r h)
position_first r (g ∷ gs) (suc i) k h f =
    rw (ne_eqb g r (f 0 (omega arith)), position_first r gs i (omega arith) h (λ j l. f (suc j) (omega arith)))

pub oldest_lt : (rc : RegCache) → oldest rc < 8
unfolding oldest
oldest_lt rc = omega arith

pub chosen_lt : (rc : RegCache) → chosen rc < 8
unfolding chosen
chosen_lt rc = by (is_held rc FREE) refl
  where
    by : (c : Bool) → is_held rc FREE ≡ c → pick c (position FREE rc.guest) (oldest rc) < 8
    by true e = ltb-true (position FREE rc.guest) 8 e
    by false e = oldest_lt rc
