-- The words of a mask, register by register: those from r on are r's, if its digit is set, and those above it.
use mathlib.Core.Path.{◌≡◌, sym, ap, ap₂, ◌∙◌}
use mathlib.Core.Bool.{Bool}
use mathlib.Core.List.{List, [], ◌++◌}
use Prim.Native.Nat.{ℕ, suc, ◌+◌, ◌-◌, ◌/◌, ◌%◌, ◌^◌, ◌<◌, ◌≤◌}
use native.Mathlib.Nat.{pow-suc, div-div-eq-div-mul}
use native.Mathlib.Omega.{arith}
use borrow.Author.Tests.{eq-eqb, ne_eqb}
use lib.Dec.{eqb}
use Rattle.block.specs.Block.{leading, places, members}
use Rattle.lowering.specs.Steps.{Step, move_word, move_words}

module _ (u : Bool) (i m : ℕ) where
  -- the words of the registers from r on, the k-th on
  abbrev pub words_from : (k r : ℕ) → List Step
  words_from k r = move_words u i k (places (16 - r) r (m / 2 ^ r))

  pub all_words : words_from 0 0 ≡ move_words u i 0 (members m)
  all_words = let e : m / 2 ^ 0 ≡ m = omega arith in ap (λ n. move_words u i 0 (places 16 0 n)) e

  pub no_words : (k r : ℕ) → 16 ≤ r → words_from k r ≡ []
  unfolding move_words places
  no_words k r h = let e : 16 - r ≡ 0 = omega arith in ap (λ d. move_words u i k (places d r (m / 2 ^ r))) e

  module _ (k r : ℕ) (h : r < 16) where
    abbrev above : List ℕ
    above = places (16 - (r + 1)) (r + 1) (m / 2 ^ (r + 1))

    first : places (16 - r) r (m / 2 ^ r) ≡ leading (eqb (m / 2 ^ r % 2) 1) r above
    unfolding places
    first =
        let d : 16 - r ≡ suc (16 - (r + 1)) = omega arith in
        let s : suc r ≡ r + 1 = omega arith in
        let n : m / 2 ^ r / 2 ≡ m / 2 ^ (r + 1) = div-div-eq-div-mul m (2 ^ r) 2 ∙ ap (λ x. m / x) (sym (pow-suc 2 r)) ∙ ap (λ x. m / 2 ^ x) s in
        ap (λ x. places x r (m / 2 ^ r)) d
        ∙ ap₂ (λ x y. leading (eqb (m / 2 ^ r % 2) 1) r (places (16 - (r + 1)) x y)) s n

    pub a_word : m / 2 ^ r % 2 ≡ 1 → words_from k r ≡ move_word u i k r ++ words_from (k + 1) (r + 1)
    unfolding move_words
    a_word e =
        let s : suc k ≡ k + 1 = omega arith in
        ap (move_words u i k) (first ∙ ap (λ b. leading b r above) (eq-eqb (m / 2 ^ r % 2) 1 e))
        ∙ ap (λ j. move_word u i k r ++ move_words u i j above) s

    pub not_here : (m / 2 ^ r % 2 ≡ 1 → ⊥) → words_from k r ≡ words_from k (r + 1)
    not_here e = ap (move_words u i k) (first ∙ ap (λ b. leading b r above) (ne_eqb (m / 2 ^ r % 2) 1 e))
