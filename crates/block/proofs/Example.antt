-- The registers of groups, computed: of masks, of PushRets and PopPc, of pairs.
use mathlib.Core.List.{List, [], ◌∷◌}
use mathlib.Core.Path.{◌≡◌, refl}
use Prim.Native.Nat.{ℕ}
use Rattle.block.specs.Block.{places, members, span, up_from, saved, pair_of}

abbrev each : (ℕ → List ℕ) → List ℕ → List (List ℕ)
each f [] = []
each f (n ∷ ns) = f n ∷ each f ns

-- no register, the lowest and the highest, every one
pub of_masks
    : each members (0 ∷ 0x8101 ∷ 0xffff ∷ [])
    ≡ [] ∷ (0 ∷ 8 ∷ 15 ∷ []) ∷ (0 ∷ 1 ∷ 2 ∷ 3 ∷ 4 ∷ 5 ∷ 6 ∷ 7 ∷ 8 ∷ 9 ∷ 10 ∷ 11 ∷ 12 ∷ 13 ∷ 14 ∷ 15 ∷ []) ∷ []
unfolding places
of_masks = refl

pub of_three : span 0x8101 ≡ 12
unfolding places
of_three = refl

-- below 4 up to register 3, else from register 4
pub of_saved
    : each saved (0 ∷ 3 ∷ 4 ∷ 15 ∷ [])
    ≡ (0 ∷ 1 ∷ 2 ∷ 3 ∷ []) ∷ (3 ∷ []) ∷ (4 ∷ []) ∷ (4 ∷ 5 ∷ 6 ∷ 7 ∷ 8 ∷ 9 ∷ 10 ∷ 11 ∷ 12 ∷ 13 ∷ 14 ∷ 15 ∷ []) ∷ []
unfolding up_from
of_saved = refl

-- of eight pairs, whatever the number
pub of_pairs : each pair_of (0 ∷ 7 ∷ 8 ∷ 255 ∷ []) ≡ (0 ∷ 1 ∷ []) ∷ (14 ∷ 15 ∷ []) ∷ (0 ∷ 1 ∷ []) ∷ (14 ∷ 15 ∷ []) ∷ []
of_pairs = refl
