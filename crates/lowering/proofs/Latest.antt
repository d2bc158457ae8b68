-- A list behind `latest`: slot i at its end, the others in their order.
--     count-latest     each number stands in it as often as before
--     sorted-latest    an order that puts i last holds of it
-- Assumes nothing.
use mathlib.Core.Path.{◌≡◌, refl, sym, ap, subst, ◌∙◌}
use mathlib.Core.Logic.{◌≢◌}
use mathlib.Core.Bool.{Bool, true, false}
use mathlib.Core.List.{List, [], ◌∷◌, ◌++◌}
use Prim.Native.Nat.{ℕ, suc, ◌<◌}
use native.Mathlib.Omega.{arith}
use lib.Dec.{eqb}
use borrow.Author.Tests.{eqb-true, eqb-false}
use Rattle.code.specs.Items.{pick}
use Rattle.lowering.specs.Cache.{latest}
use Rattle.lowering.specs.Recency.{count}

-- ---- each number as often as before
count-snoc : (j : ℕ) (xs : List ℕ) (i : ℕ) → count j (xs ++ (i ∷ [])) ≡ count j (i ∷ xs)
unfolding count
count-snoc j [] i = refl
count-snoc j (x ∷ xs) i = rw (count-snoc j xs i) (by (eqb x j) (eqb i j))
  where
    by : (b c : Bool) → pick b (suc (pick c (suc (count j xs)) (count j xs))) (pick c (suc (count j xs)) (count j xs))
        ≡ pick c (suc (pick b (suc (count j xs)) (count j xs))) (pick b (suc (count j xs)) (count j xs))
    by true true = refl
    by true false = refl
    by false true = refl
    by false false = refl

pub count-latest : (j i : ℕ) (xs : List ℕ) → count j (latest i xs) ≡ count j xs
unfolding latest count
count-latest j i [] = refl
count-latest j i (x ∷ xs) = by (count-latest j i xs) (eqb x i) refl
  where
    by : count j (latest i xs) ≡ count j xs → (b : Bool) → eqb x i ≡ b
        → count j (pick b (xs ++ (i ∷ [])) (x ∷ latest i xs)) ≡ count j (x ∷ xs)
    by rec true e = count-snoc j xs i ∙ ap (λ k. count j (k ∷ xs)) (sym (eqb-true x i e))
    by rec false e = ap (λ n. pick (eqb x j) (suc n) n) rec

-- ---- what holds of every number of a list
abbrev pub All : (ℕ → Type 0) → List ℕ → Type 0
All P [] = Unit {0}
All P (x ∷ xs) = P x × All P xs

all_map : {P Q : ℕ → Type 0} → ((y : ℕ) → P y → Q y) → (xs : List ℕ) → All P xs → All Q xs
all_map f [] h = tt
all_map f (x ∷ xs) h = (f x h.0, all_map f xs h.1)

all_snoc : (P : ℕ → Type 0) (xs : List ℕ) (i : ℕ) → All P xs → P i → All P (xs ++ (i ∷ []))
all_snoc P [] i h k = (k, tt)
all_snoc P (x ∷ xs) i h k = (h.0, all_snoc P xs i h.1 k)

all_latest : (P : ℕ → Type 0) (i : ℕ) (xs : List ℕ) → All (λ y. y ≢ i → P y) xs → P i → All P (latest i xs)
unfolding latest
all_latest P i [] h k = tt
all_latest P i (x ∷ xs) h k = by (all_latest P i xs h.1 k) (eqb x i) refl
  where
    either : (y : ℕ) → (y ≢ i → P y) → P y
    either y f = test (eqb y i) refl
      where
        test : (b : Bool) → eqb y i ≡ b → P y
        test true e = subst P (sym (eqb-true y i e)) k
        test false e = f (eqb-false y i e)

    by : All P (latest i xs) → (b : Bool) → eqb x i ≡ b → All P (pick b (xs ++ (i ∷ [])) (x ∷ latest i xs))
    by rec true e = all_snoc P xs i (all_map either xs h.1) k
    by rec false e = (h.0 (eqb-false x i e), rec)

pub all-at : (P : ℕ → Type 0) (j : ℕ) (xs : List ℕ) → All P xs → 0 < count j xs → P j
unfolding count
all-at P j [] h k = absurd (omega arith)
all-at P j (x ∷ xs) h k = by (all-at P j xs h.1) (eqb x j) refl k
  where
    by : (0 < count j xs → P j) → (b : Bool) → eqb x j ≡ b → 0 < pick b (suc (count j xs)) (count j xs) → P j
    by rec true e m = subst P (eqb-true x j e) h.0
    by rec false e m = rec m

-- ---- each number before all that follow it
abbrev pub Sorted : (ℕ → ℕ → Type 0) → List ℕ → Type 0
Sorted L [] = Unit {0}
Sorted L (x ∷ xs) = All (L x) xs × Sorted L xs

pub sorted-map : {L M : ℕ → ℕ → Type 0} → ((x y : ℕ) → L x y → M x y) → (xs : List ℕ) → Sorted L xs → Sorted M xs
sorted-map f [] h = tt
sorted-map f (x ∷ xs) h = (all_map (f x) xs h.0, sorted-map f xs h.1)

sorted-snoc : (L : ℕ → ℕ → Type 0) (xs : List ℕ) (i : ℕ) → All (λ x. L x i) xs → Sorted L xs → Sorted L (xs ++ (i ∷ []))
sorted-snoc L [] i h k = (tt, tt)
sorted-snoc L (x ∷ xs) i h k = (all_snoc (L x) xs i k.0 h.0, sorted-snoc L xs i h.1 k.1)

-- numbers other than i stay in their order, and i is behind them all
module _ {L M : ℕ → ℕ → Type 0} (i : ℕ) (apart : (x y : ℕ) → L x y → x ≢ y)
    (stay : (x y : ℕ) → x ≢ i → y ≢ i → L x y → M x y) (last : (x : ℕ) → x ≢ i → M x i) where
  stays : (xs : List ℕ) → All (λ y. y ≢ i) xs → Sorted L xs → Sorted M xs
  stays [] n h = tt
  stays (x ∷ xs) n h = (both xs n.1 h.0, stays xs n.1 h.1)
    where
      both : (ys : List ℕ) → All (λ y. y ≢ i) ys → All (L x) ys → All (M x) ys
      both [] m k = tt
      both (y ∷ ys) m k = (stay x y n.0 m.0 k.0, both ys m.1 k.1)

  pub sorted-latest : (xs : List ℕ) → Sorted L xs → Sorted M (latest i xs)
  unfolding latest
  sorted-latest [] h = tt
  sorted-latest (x ∷ xs) h = by (sorted-latest xs h.1) (eqb x i) refl
    where
      by : Sorted M (latest i xs) → (b : Bool) → eqb x i ≡ b → Sorted M (pick b (xs ++ (i ∷ [])) (x ∷ latest i xs))
      by rec true e =
          let n : All (λ y. y ≢ i) xs = all_map (λ y k q. apart x y k (eqb-true x i e ∙ sym q)) xs h.0 in
          sorted-snoc M xs i (all_map (λ y m. last y m) xs n) (stays xs n h.1)
      by rec false e =
          let m : x ≢ i = eqb-false x i e in
          (all_latest (M x) i xs (all_map (λ y k n. stay x y m n k) xs h.0) (last x m), rec)
