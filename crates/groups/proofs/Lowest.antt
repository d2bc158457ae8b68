-- Of a mask's digits, not all 0, the lowest that is set is as far up as there are trailing zeros.
use mathlib.Core.Path.{◌≡◌, refl, sym, ap, ap₂, ◌∙◌}
use mathlib.Core.Bool.{Bool}
use mathlib.Core.List.{◌∷◌, ◌++◌}
use Prim.Native.Nat.{ℕ, zero, suc, ◌+◌, ◌-◌, ◌*◌, ◌/◌, ◌%◌, ◌^◌, ◌<◌, ◌≤◌}
use native.Mathlib.Nat.{mod-lt, one-le-pow, pow-suc}
use native.Mathlib.Numerals.{add-one}
use native.Mathlib.Omega.{arith}
use borrow.Author.Tests.{eq-eqb, ne_eqb}
use lib.Count.{count_trailing_zeros, under}
use Rattle.block.specs.Block.{places, members}
use Rattle.lowering.specs.Steps.{move_word, move_words}

-- it stands at place t
abbrev pub Lowest : (d m t : ℕ) → Type 0
Lowest d m t = (t < d) × (2 ^ t ≤ m) × ((r : ℕ) → places d r m ≡ (r + t) ∷ places d r (m - 2 ^ t))

odd_places : (d r m : ℕ) → m % 2 ≡ 1 → places (suc d) r m ≡ r ∷ places d (suc r) (m / 2)
unfolding places
odd_places d r m e = rw (eq-eqb (m % 2) 1 e)

even-places : (d r m : ℕ) → m % 2 ≡ 0 → places (suc d) r m ≡ places d (suc r) (m / 2)
unfolding places
even-places d r m e = rw (ne_eqb (m % 2) 1 (omega arith))

pub lowest : (d m : ℕ) → 0 < m → m < 2 ^ d → Lowest d m (count_trailing_zeros d m)
unfolding count_trailing_zeros
lowest zero m p h = absurd (omega arith)
lowest (suc d) m p h = by (m % 2) refl (λ g. lowest d (m / 2) g (omega (arith, pow-suc 2 d)))
  where
    by : (e : ℕ) → m % 2 ≡ e → (0 < m / 2 → Lowest d (m / 2) (count_trailing_zeros d (m / 2)))
        → Lowest (suc d) m (under e (count_trailing_zeros d (m / 2)))
    by zero e f =
        let x = f (omega arith) in
        let t = count_trailing_zeros d (m / 2) in
        let s = pow-suc 2 t in (
          omega (arith, x.0),
          omega (arith, x.1, s),
          λ r.
              let z : suc r + t ≡ r + suc t = omega arith in
              let y : m / 2 - 2 ^ t ≡ (m - 2 ^ suc t) / 2 = omega (arith, x.1, s) in
              even-places d r m e ∙ x.2 (suc r)
              ∙ ap₂ ◌∷◌ z (ap (places d (suc r)) y ∙ sym (even-places d r (m - 2 ^ suc t) (omega (arith, x.1, s)))),
        )
    by (suc n) e f = (
      omega arith,
      omega arith,
      λ r.
          let l : m % 2 < 2 = mod-lt m (omega arith) in
          let z : r ≡ r + 0 = omega arith in
          let y : m / 2 ≡ (m - 1) / 2 = omega arith in
          odd_places d r m (omega arith) ∙ ap₂ ◌∷◌ z (ap (places d (suc r)) y ∙ sym (even-places d r (m - 1) (omega arith))),
    )

-- ---- of sixteen digits
abbrev pub digit : ℕ → ℕ
digit m = 1 * 2 ^ count_trailing_zeros 16 m % 2 ^ 16

module _ (m : ℕ) (p : 0 < m) (h : m < 65536) where
  lowest_le : 2 ^ count_trailing_zeros 16 m ≤ m
  lowest_le = (lowest 16 m p h).1

  digit_is : digit m ≡ 2 ^ count_trailing_zeros 16 m
  digit_is = omega (arith, lowest_le)

  pub digit_le : digit m ≤ m
  digit_le = omega (arith, lowest_le)

  pub digit_pos : 0 < digit m
  digit_pos = omega (arith, digit_is, one-le-pow (count_trailing_zeros 16 m) 2 (omega arith))

  -- the lowest register's words, and those of the others
  pub lowest_word : (u : Bool) (i k : ℕ)
      → move_words u i k (members m) ≡ move_word u i k (count_trailing_zeros 16 m) ++ move_words u i (k + 1) (members (m - digit m))
  unfolding move_words
  lowest_word u i k =
      let z : 0 + count_trailing_zeros 16 m ≡ count_trailing_zeros 16 m = omega arith in
      ap (move_words u i k) ((lowest 16 m p h).2 0 ∙ ap (λ r. r ∷ members (m - 2 ^ count_trailing_zeros 16 m)) z)
      ∙ ap₂ (λ j n. move_word u i k (count_trailing_zeros 16 m) ++ move_words u i j (members (m - n))) (sym (add-one k)) (sym digit_is)
