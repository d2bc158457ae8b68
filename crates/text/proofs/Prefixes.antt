-- The first bytes of a word, and the number that they make of it.
use Prim.Native.Nat.{ℕ, ◌+◌, ◌-◌, ◌%◌, ◌^◌, ◌≤◌, ◌<◌}
use mathlib.Core.Path.{◌≡◌, refl, ap}
use mathlib.Core.Bool.{Bool, true, false, cond}
use mathlib.Core.List.{List}
use native.Mathlib.Omega.{arith}
use lib.Dec.{eqb}
use lib.ListN.{length, get_or, drop, get_or-eq_default}
use borrow.Author.Tests.{eq-eqb, ne_eqb, eqb-true, eqb-false}
use Rattle.std.specs.declared.option.Option.{Option}
use Rattle.std.specs.Prelude.{Some, None, IfSome, MatchOption}
use Rattle.std.specs.Option.{IsSomeAnd}
use Rattle.text.specs.Number.{whole, unsigned, negated, hexadecimal, number_of}

-- a byte that a word does not have
pub short : (s : List ℕ) (n k : ℕ) → length s ≤ n → 0 < k → get_or s n 0 ≡ k → ⊥
short s n k h p e = omega (arith, get_or-eq_default s 0 {n = n} h)

module _ (base limit : ℕ) (s : List ℕ) where
  pub plus : get_or s 0 0 ≡ 43 → whole base limit (drop 1 s) ≡ unsigned base limit s
  unfolding unsigned
  plus e = rw (eq-eqb (get_or s 0 0) 43 e)

  pub plain : (get_or s 0 0 ≡ 43 → ⊥) → whole base limit s ≡ unsigned base limit s
  unfolding unsigned
  plain e = rw (ne_eqb (get_or s 0 0) 43 e)

module _ (s : List ℕ) where
  pub minus : get_or s 0 0 ≡ 45 → negated (whole 10 (2 ^ 63) (drop 1 s)) ≡ number_of s
  unfolding number_of
  minus e = rw (eq-eqb (get_or s 0 0) 45 e)

  pub hexed : get_or s 0 0 ≡ 48 → get_or s 1 0 ≡ 120 → unsigned 16 (2 ^ 64 - 1) (drop 2 s) ≡ number_of s
  unfolding number_of hexadecimal
  hexed e f =
      rw (ne_eqb (get_or s 0 0) 45 (λ g. omega (arith, e, g)), eq-eqb (get_or s 1 0) 120 f, eq-eqb (get_or s 0 0) 48 e)

  other : (get_or s 0 0 ≡ 48 → get_or s 1 0 ≡ 120 → ⊥) → (b : Bool) → eqb (get_or s 1 0) 120 ≡ b → hexadecimal s ≡ false
  unfolding hexadecimal
  other e true f = rw (f, ne_eqb (get_or s 0 0) 48 (λ g. e g (eqb-true _ _ f)))
  other e false f = rw f

  pub decimal :
      (get_or s 0 0 ≡ 45 → ⊥) → (get_or s 0 0 ≡ 48 → get_or s 1 0 ≡ 120 → ⊥) → unsigned 10 (2 ^ 63 - 1) s ≡ number_of s
  unfolding number_of
  decimal e f = rw (ne_eqb (get_or s 0 0) 45 e, other f (eqb (get_or s 1 0) 120) refl)

-- what `wrapping_neg` gives
opposite : (n r : ℕ) → n < 2 ^ 64 → r < 2 ^ 64 → (r + n) % 2 ^ 64 ≡ 0 → (b : Bool) → eqb n 0 ≡ b → r ≡ cond b 0 (2 ^ 64 - n)
opposite n r f g e true h = omega (arith, eqb-true _ _ h)
opposite n r f g e false h = omega (arith, eqb-false _ _ h)

pub opposites :
    (o r : Option ℕ)
    → IfSome o (λ n. n < 2 ^ 64)
    → IfSome r (λ n. n < 2 ^ 64)
    → MatchOption o (r ≡ None) (λ n. IsSomeAnd r (λ m. (m + n) % 2 ^ 64 ≡ 0))
    → r ≡ negated o
unfolding negated
opposites None r f g e = e
opposites (Some n) None f g e = absurd e
opposites (Some n) (Some m) f g e = ap Some (opposite n m f g e (eqb n 0) refl)
