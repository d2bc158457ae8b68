-- How long the parts of a listing are at most.
--     nine                nine bytes a word
--     twenty              a number in decimals has at most twenty digits
--     counts_le, site_le, refused_le    the lines
use Prim.Native.Nat.{ℕ, zero, suc, ◌+◌, ◌*◌, ◌/◌, ◌≤◌}
use mathlib.Core.Path.{◌≡◌, refl}
use mathlib.Core.Bool.{Bool, true, false, cond}
use mathlib.Core.List.{List, [], ◌∷◌}
use native.Mathlib.Omega.{arith}
use lib.Dec.{ltb}
use lib.ListN.{length, length-append}
use Rattle.text.specs.Put.{hex8, decimal_in, decimal, rows}
use Rattle.listing.specs.Listing.{counts, site_line, refused}

either : (b : Bool) (xs ys : List ℕ) (n : ℕ) → length xs ≤ n → length ys ≤ n → length (cond b xs ys) ≤ n
either true xs ys n p q = p
either false xs ys n p q = q

decimal-in : (most n : ℕ) → length (decimal_in most n) ≤ most
unfolding decimal_in
decimal-in zero n = omega arith
decimal-in (suc most) n =
    either (ltb n 10) _ _ (suc most) (omega arith)
    (simp length-append (omega (arith, decimal-in most (n / 10))))

twenty : (n : ℕ) → length (decimal n) ≤ 20
unfolding decimal
twenty n = decimal-in 20 n

pub nine : (i : ℕ) (ws : List ℕ) → length (rows i ws) ≡ 9 * length ws
unfolding rows hex8
nine i [] = refl
nine i (w ∷ ws) = simp length-append (omega (arith, nine (i + 1) ws))

pub counts_le : (n body : ℕ) → length (counts n body) ≤ 53
unfolding counts
counts_le n body = simp length-append (omega (arith, twenty n, twenty body))

pub site_le : (p t : ℕ) → length (site_line p t) ≤ 35
unfolding site_line hex8
site_le p t = simp length-append (omega (arith, twenty p))

pub refused_le : (number place : ℕ) → length (refused number place) ≤ 50
unfolding refused
refused_le number place = simp length-append (omega (arith, twenty number, twenty place))
