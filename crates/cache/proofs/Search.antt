-- The library's search finds the definition's position.
use Rattle.std.proofs.Common.{rules, ◌≡◌, refl, List, ℕ, nat_eq, length, ◌∙◌}
use Rattle.std.specs.List.{position_or_len}
use Rattle.std.specs.Prelude.{Option, position as first}
use Rattle.std.proofs.lemmas.List.Recursion.{is_position_or_len}
use Rattle.lowering.specs.declared.RegCache.{RegCache}
use Rattle.lowering.specs.Cache.{position}
use Rattle.cache.specs.Lookup.{lookup}

position_is : (r : ℕ) (xs : List ℕ) → position r xs ≡ position_or_len (λ g. nat_eq g r) xs
unfolding position
position_is r xs = is_position_or_len (position r) (λ g. nat_eq g r) refl (λ x ys. search rules) xs

pub placed : (rc : RegCache) (r : ℕ) (o : Option ℕ) → length rc.guest ≡ 8 → o ≡ first (λ g. nat_eq g r) rc.guest → o ≡ lookup rc r
placed rc r o l e = e ∙ rw (position_is r rc.guest, l) refl
