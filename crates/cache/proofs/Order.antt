-- The loop of `latest`: the first k places are done, from place k on the order is as it was.
use mathlib.Core.Path.{◌≡◌, refl, sym, ap, ◌∙◌}
use mathlib.Core.Logic.{◌≢◌}
use mathlib.Core.Bool.{Bool, true, false, ◌||◌}
use mathlib.Core.List.{List, [], ◌∷◌, ◌++◌, append_assoc}
use Prim.Native.Nat.{ℕ, suc, ◌+◌, ◌<◌, ◌≤◌}
use native.Mathlib.Numerals.{add-one}
use native.Mathlib.Omega.{arith}
use lib.Dec.{eqb}
use lib.ListN.{length, get_or, set, drop, take, length-set, drop_of_length-le}
use lib.Seq.{drop-cons, take-suc, take-suc-set, drop-set-lt, take_all}
use borrow.Author.Tests.{eq-eqb, ne_eqb, eqb-true, eqb-false}
use Rattle.code.specs.Items.{pick}
use Rattle.lowering.specs.Cache.{latest}

-- what is still to come from place k on: slot i was met, or not
abbrev to_come : (i : ℕ) (order : List ℕ) (met : Bool) (k : ℕ) → List ℕ
to_come i order met k = pick met (drop (suc k) order ++ (i ∷ [])) (latest i (drop k order))

pub record Sofar (i : ℕ) (order q : List ℕ) (met : Bool) (k : ℕ) : Type 0 where
  pub order-length : length order ≡ 8
  pub length_is : length q ≡ 8
  pub rest : drop k q ≡ drop k order
  pub whole : latest i order ≡ take k q ++ to_come i order met k

module _ (i : ℕ) (order q : List ℕ) (met : Bool) (k : ℕ) (s : Sofar i order q met k) (l : k < 7) where
  in_order : k < length order
  in_order = omega (arith, s.order-length)

  next_in : suc k < length order
  next_in = omega (arith, s.order-length)

  in_q : k < length q
  in_q = omega (arith, s.length_is)

  same_at : get_or q k 0 ≡ get_or order k 0
  same_at = cc (drop-cons q k 0 in_q, drop-cons order k 0 in_order, s.rest)

  rest_next : drop (suc k) q ≡ drop (suc k) order
  rest_next = cc (drop-cons q k 0 in_q, drop-cons order k 0 in_order, s.rest)

  -- slot i is not met yet
  passed : met ≡ false → get_or order k 0 ≢ i → Sofar i order q false (suc k)
  unfolding latest
  passed m n =
      record {
        order-length = s.order-length;
        length_is = s.length_is;
        rest = rest_next;
        whole = s.whole ∙ rw (m, drop-cons order k 0 in_order, ne_eqb _ _ n, take-suc q k 0 in_q, append_assoc, same_at);
      }

  -- it was met: each later slot moves one place to the front
  moves : latest i order ≡ take k q ++ (drop (suc k) order ++ (i ∷ [])) → Sofar i order (set q k (get_or order (suc k) 0)) true (suc k)
  moves e =
      record {
        order-length = s.order-length;
        length_is = length-set q k _ ∙ s.length_is;
        rest = drop-set-lt (suc k) q k _ (omega arith) ∙ rest_next;
        whole = e ∙ rw (drop-cons order (suc k) 0 next_in, take-suc-set q k (get_or order (suc k) 0) in_q, append_assoc);
      }

  found : met ≡ false → get_or order k 0 ≡ i → Sofar i order (set q k (get_or order (suc k) 0)) true (suc k)
  unfolding latest
  found m e = moves (s.whole ∙ rw (m, drop-cons order k 0 in_order, eq-eqb _ _ e))

  following : met ≡ true → Sofar i order (set q k (get_or order (suc k) 0)) true (suc k)
  following m = moves (s.whole ∙ rw m)

  next-same : get_or q (suc k) 0 ≡ get_or order (suc k) 0
  next-same = cc (drop-cons q (suc k) 0 (omega (arith, s.length_is)), drop-cons order (suc k) 0 next_in, rest_next)

  -- a turn of the loop, by whether slot i is met by now
  abbrev now : Bool
  now = met || eqb (get_or q k 0) i

  pub turn_on : (q' : List ℕ) → now ≡ true → q' ≡ set q k (get_or q (k + 1) 0) → Sofar i order q' now (k + 1)
  turn_on q' h e = rw (h, e, add-one, next-same) (by met (eqb (get_or q k 0) i) refl refl h)
    where
      by : (m t : Bool) → met ≡ m → eqb (get_or q k 0) i ≡ t → m || t ≡ true → Sofar i order (set q k (get_or order (suc k) 0)) true (suc k)
      by true t a c z = following a
      by false true a c z = found a (sym same_at ∙ eqb-true _ _ c)
      by false false a c z = absurd (let y : ◌≡◌ {A = ℕ} 0 1 = cc in omega arith)

  pub turn_off : (q' : List ℕ) → now ≡ false → q' ≡ q → Sofar i order q' now (k + 1)
  turn_off q' h e = rw (h, e, add-one) (by met (eqb (get_or q k 0) i) refl refl h)
    where
      by : (m t : Bool) → met ≡ m → eqb (get_or q k 0) i ≡ t → m || t ≡ false → Sofar i order q false (suc k)
      by true t a c z = absurd (let y : ◌≡◌ {A = ℕ} 0 1 = cc in omega arith)
      by false true a c z = absurd (let y : ◌≡◌ {A = ℕ} 0 1 = cc in omega arith)
      by false false a c z = passed a (λ h. eqb-false _ _ c (same_at ∙ h))

-- ---- the last place
one_latest : (i x : ℕ) → latest i (x ∷ []) ≡ x ∷ []
unfolding latest
one_latest i x = by (eqb x i) refl
  where
    by : (b : Bool) → eqb x i ≡ b → pick b (i ∷ []) (x ∷ []) ≡ x ∷ []
    by true e = ap (λ n. n ∷ []) (sym (eqb-true x i e))
    by false e = refl

module _ (i : ℕ) (order q : List ℕ) (met : Bool) (s : Sofar i order q met 7) where
  ends : (xs : List ℕ) → length xs ≡ 8 → (drop 7 xs ≡ get_or xs 7 0 ∷ []) × (drop 8 xs ≡ [])
  ends xs h =
      let l : length xs ≤ 8 = omega arith in
      let e : drop 8 xs ≡ [] = drop_of_length-le xs l in
      (drop-cons xs 7 0 (omega arith) ∙ ap (λ ys. get_or xs 7 0 ∷ ys) e, e)

  last_same : get_or q 7 0 ≡ get_or order 7 0
  last_same = cc ((ends q s.length_is).0, (ends order s.order-length).0, s.rest)

  pub kept_last : met ≡ false → q ≡ latest i order
  kept_last m =
      let l : 7 < length q = omega (arith, s.length_is) in
      sym (take_all 8 q (omega (arith, s.length_is)))
      ∙ take-suc q 7 0 l
      ∙ sym (s.whole ∙ rw (m, (ends order s.order-length).0, one_latest, last_same))
