-- The registers of a group: each is one of sixteen, and there are at most sixteen; of a mask there are as many as it has ones.
use mathlib.Core.Path.{◌≡◌, refl, sym, ap, ◌∙◌}
use mathlib.Core.Bool.{Bool, true, false, cond}
use mathlib.Core.List.{List, [], ◌∷◌, reverse, reverse_aux}
use Prim.Native.Nat.{ℕ, zero, suc, ◌+◌, ◌-◌, ◌/◌, ◌%◌, ◌^◌, ◌<◌, ◌≤◌}
use native.Mathlib.Nat.{mod-lt, pow-suc}
use native.Mathlib.Omega.{arith}
use borrow.Author.Tests.{ltb-true, ltb-false, eqb-true, eqb-false}
use lib.Count.{ones, ones_step}
use lib.Dec.{eqb, ltb}
use lib.ListN.{length}
use Rattle.block.specs.Checked.{Register}
use Rattle.block.specs.Block.{leading, places, members, up_from, saved, pair_of}

abbrev pub Registers : List ℕ → Type 0
Registers [] = Unit {0}
Registers (r ∷ rs) = Register r × Registers rs

-- ---- a mask
places_in : (d r m : ℕ) → r + d ≤ 16 → Registers (places d r m)
unfolding places
places_in zero r m h = tt
places_in (suc d) r m h = by (eqb (m % 2) 1) (places_in d (suc r) (m / 2) (omega arith))
  where
    by : (u : Bool) → Registers (places d (suc r) (m / 2))
        → Registers (leading u r (places d (suc r) (m / 2)))
    by true g = (omega arith, g)
    by false g = g

places_count : (d r m : ℕ) → m < 2 ^ d → length (places d r m) ≡ ones m
unfolding places ones
places_count zero r m h = let e : m ≡ 0 = omega arith in ap ones (sym e)
places_count (suc d) r m h =
    let l : m / 2 < 2 ^ d = omega (arith, pow-suc 2 d) in
    by (eqb (m % 2) 1) refl (places_count d (suc r) (m / 2) l) ∙ sym (ones_step m)
  where
    by : (u : Bool) → eqb (m % 2) 1 ≡ u → length (places d (suc r) (m / 2)) ≡ ones (m / 2)
        → length (leading u r (places d (suc r) (m / 2))) ≡ m % 2 + ones (m / 2)
    by true e g = let o : m % 2 ≡ 1 = eqb-true (m % 2) 1 e in omega (arith, g)
    by false e g =
        let o : m % 2 ≡ 1 → ⊥ = eqb-false (m % 2) 1 e in
        let l : m % 2 < 2 = mod-lt m (omega arith) in
        omega (arith, g)

places-few : (d r m : ℕ) → length (places d r m) ≤ d
unfolding places
places-few zero r m = omega arith
places-few (suc d) r m = by (eqb (m % 2) 1) (places-few d (suc r) (m / 2))
  where
    by : (u : Bool) → length (places d (suc r) (m / 2)) ≤ d
        → length (leading u r (places d (suc r) (m / 2))) ≤ suc d
    by true h = omega arith
    by false h = omega arith

pub members-few : (m : ℕ) → length (members m) ≤ 16
members-few m = places-few 16 0 m

pub members_in : (m : ℕ) → Registers (members m)
members_in m = places_in 16 0 m (omega arith)

pub members-count : (m : ℕ) → m < 65536 → length (members m) ≡ ones m
members-count m h = places_count 16 0 m h

-- ---- of PushRets and PopPc
up_in : (r k : ℕ) → r + k ≤ 16 → Registers (up_from r k)
unfolding up_from
up_in r zero h = tt
up_in r (suc k) h = (omega arith, up_in (suc r) k (omega arith))

up_count : (r k : ℕ) → length (up_from r k) ≡ k
unfolding up_from
up_count r zero = refl
up_count r (suc k) = ap suc (up_count (suc r) k)

pub saved_in : (n : ℕ) → n < 16 → Registers (saved n)
saved_in n h = by (ltb n 4) refl
  where
    by : (u : Bool) → ltb n 4 ≡ u → Registers (cond u (up_from n (4 - n)) (up_from 4 (n - 3)))
    by true e = let l : n < 4 = ltb-true n 4 e in up_in n (4 - n) (omega arith)
    by false e = up_in 4 (n - 3) (omega arith)

pub saved-few : (n : ℕ) → n < 16 → length (saved n) ≤ 12
saved-few n h = by (ltb n 4)
  where
    by : (u : Bool) → length (cond u (up_from n (4 - n)) (up_from 4 (n - 3))) ≤ 12
    by true = omega (arith, up_count n (4 - n))
    by false = omega (arith, up_count 4 (n - 3))

-- one more than there are
pub saved-count : (n : ℕ) → cond (ltb n 4) (5 - n) (n - 2) ≡ suc (length (saved n))
saved-count n = by (ltb n 4) refl
  where
    by : (u : Bool) → ltb n 4 ≡ u → cond u (5 - n) (n - 2) ≡ suc (length (cond u (up_from n (4 - n)) (up_from 4 (n - 3))))
    by true e = let l : n < 4 = ltb-true n 4 e in omega (arith, up_count n (4 - n))
    by false e = let l : 4 ≤ n = ltb-false n 4 e in omega (arith, up_count 4 (n - 3))

pub pair_in : (p : ℕ) → Registers (pair_of p)
pair_in p = let h : p % 8 < 8 = mod-lt p (omega arith) in (omega arith, (omega arith, tt))

-- ---- in descending order
aux_in : (xs ys : List ℕ) → Registers xs → Registers ys → Registers (reverse_aux xs ys)
aux_in [] ys h k = k
aux_in (x ∷ xs) ys h k = aux_in xs (x ∷ ys) h.1 (h.0, k)

pub reverse_in : (xs : List ℕ) → Registers xs → Registers (reverse xs)
reverse_in xs h = aux_in xs [] h tt

aux_count : (xs ys : List ℕ) → length (reverse_aux xs ys) ≡ length xs + length ys
aux_count [] ys = omega arith
aux_count (x ∷ xs) ys = aux_count xs (x ∷ ys) ∙ omega arith

pub reverse-count : (xs : List ℕ) → length (reverse xs) ≡ length xs
reverse-count xs = aux_count xs [] ∙ omega arith
