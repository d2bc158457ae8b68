-- One turn of reading digits: the byte at hand is no digit, makes the number too large, or is taken into it.
use Prim.Native.Nat.{ℕ, ◌+◌, ◌*◌, ◌≤◌, ◌<◌}
use mathlib.Core.Path.{◌≡◌, refl}
use mathlib.Core.List.{List, [], ◌∷◌}
use native.Mathlib.Numerals.{add-one}
use lib.ListN.{length, get_or, drop, drop_of_length-le}
use lib.Seq.{drop-cons}
use borrow.Author.Tests.{le-leb, lt-leb, lt-ltb, le-ltb}
use Rattle.std.specs.Prelude.{Some, None}
use Rattle.std.specs.Char.{digit_value}
use Rattle.std.proofs.Common.{rules, tests, arith}
use Rattle.text.specs.Number.{digit_of, more, whole}

-- the digits below a base of at most 16 are those of the library
module _ (base b : ℕ) (h : base ≤ 16) where
  no_digit : (digit_value b < base → ⊥) → base ≤ digit_of b
  unfolding digit_of
  no_digit p = search (rules, tests)

  a_digit : {d : ℕ} → (digit_value b < base) × (d ≡ digit_value b) → (digit_of b < base) × (digit_of b ≡ d)
  unfolding digit_of
  a_digit p = search (rules, tests)

module _ (base limit v : ℕ) (s : List ℕ) (i : ℕ) (h : i < length s) (small : base ≤ 16) where
  pub none : (digit_value (get_or s i 0) < base → ⊥) → None ≡ more base limit v (drop i s)
  unfolding more
  none p = rw (drop-cons s i 0 h, le-leb base (digit_of (get_or s i 0)) (no_digit base (get_or s i 0) small p))

  module _ (d : ℕ) (p : (digit_value (get_or s i 0) < base) × (d ≡ digit_value (get_or s i 0))) where
    pub large : limit < v * base + d → None ≡ more base limit v (drop i s)
    unfolding more
    large q =
        let (p, e) = a_digit base (get_or s i 0) small p in
        rw (drop-cons s i 0 h, lt-leb base (digit_of (get_or s i 0)) p, e, lt-ltb limit (v * base + d) q)

    pub taken : v * base + d ≤ limit → more base limit v (drop i s) ≡ more base limit (v * base + d) (drop (i + 1) s)
    unfolding more
    taken q =
        let (p, e) = a_digit base (get_or s i 0) small p in
        rw (add-one i, drop-cons s i 0 h, lt-leb base (digit_of (get_or s i 0)) p, e, le-ltb limit (v * base + d) q)

module _ (base limit : ℕ) where
  pub ended : (s : List ℕ) (i v : ℕ) → length s ≤ i → more base limit v (drop i s) ≡ Some v
  unfolding more
  ended s i v h = rw (drop_of_length-le s h)

  pub empty : (s : List ℕ) → length s ≡ 0 → None ≡ whole base limit s
  unfolding whole
  empty [] h = refl
  empty (b ∷ s) h = absurd (omega arith)

  pub begun : (s : List ℕ) → (length s ≡ 0 → ⊥) → more base limit 0 s ≡ whole base limit s
  unfolding whole
  begun [] h = absurd (h refl)
  begun (b ∷ s) h = refl
