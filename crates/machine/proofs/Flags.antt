-- What the conditions say after a comparison. The flags of CMP are those of AddWithCarry(a, NOT(b), 1); of 32 bits:
--     eq_means, ne_means                       a and b are equal, or not (64 bits too, as the next four)
--     hs_means, lo_means, hi_means, ls_means   unsigned order
--     ge_means, lt_means, gt_means, le_means   signed order, of the numbers moved up by 2 ^ 31 (`biased`)
--     tst_eq, tst_ne                           after TST: the result is zero, or not
-- Assumes nothing.
use mathlib.Core.Path.{◌≡◌, refl, sym, ap, ap₂, ◌∙◌}
use mathlib.Core.Bool.{Bool, true, false, not, ◌&&◌, beq}
use Prim.Native.Nat.{ℕ, suc, ◌+◌, ◌-◌, ◌/◌, ◌%◌, ◌^◌, ◌≤◌, ◌<◌}
use native.Mathlib.Omega.{arith}
use borrow.Author.Tests.{ltb-true, ltb-false, leb-true, leb-false, eqb-true, eqb-false, lt-ltb, le-ltb, le-leb, lt-leb, eq-eqb, ne_eqb}
use lib.Dec.{leb, ltb, eqb}
use lib.IntN.{ℤ, pos, negsuc, sub_ℕ, ◌+ℤ◌}
use lib.Signed.{mag, le_z}
use Rattle.arm.specs.Instr.{bits}
use Rattle.machine.specs.Isa.{Size, W, X}
use Rattle.machine.specs.Bits.{bit, SInt, NOT, sameℤ, Nzcv, AddWithCarry, ConditionHolds}
use Rattle.machine.specs.Execute.{test_flags}

test {ℓ} : {P : Type ℓ} (b : Bool) → (b ≡ true → P) → (b ≡ false → P) → P
test true f g = f refl
test false f g = g refl

-- the flags of a comparison
abbrev pub compared : Size → ℕ → ℕ → Nzcv
compared z a b = (AddWithCarry (bits z) a (NOT (bits z) b) true).nzcv

-- a number of 32 bits moved up by 2 ^ 31: signed order becomes that of the naturals
abbrev pub biased : ℕ → ℕ
biased a = (a + 2 ^ 31) % 2 ^ 32

-- ---- integers moved up
abbrev lift : ℤ → ℕ
lift (pos n) = 2 ^ 40 + n
lift (negsuc n) = 2 ^ 40 - suc n

lift-sub : (a b : ℕ) → a < 2 ^ 38 → b < 2 ^ 38 → lift (sub_ℕ a b) ≡ 2 ^ 40 + a - b
lift-sub a b h k =
    test (ltb a b)
    (λ e. let l : a < b = ltb-true a b e in rw e (omega arith))
    (λ e. let l : b ≤ a = ltb-false a b e in rw e (omega arith))

lift-sum : (x y : ℤ) → mag x < 2 ^ 37 → mag y < 2 ^ 37 → lift (x +ℤ y) + 2 ^ 40 ≡ lift x + lift y
lift-sum (pos a) (pos b) h k = omega arith
lift-sum (pos a) (negsuc b) h k = rw (lift-sub a (suc b) (omega arith) (omega arith)) (omega arith)
lift-sum (negsuc a) (pos b) h k = rw (lift-sub b (suc a) (omega arith) (omega arith)) (omega arith)
lift-sum (negsuc a) (negsuc b) h k = omega arith

mag_sub : (a b n : ℕ) → a < n → b < n → mag (sub_ℕ a b) < n
mag_sub a b n h k = test (ltb a b) (λ e. rw e (omega arith)) (λ e. rw e (omega arith))

mag_sum : (x y : ℤ) (n : ℕ) → mag x < n → mag y < n → mag (x +ℤ y) < n + n
mag_sum (pos a) (pos b) n h k = omega arith
mag_sum (pos a) (negsuc b) n h k = mag_sub a (suc b) (n + n) (omega arith) (omega arith)
mag_sum (negsuc a) (pos b) n h k = mag_sub b (suc a) (n + n) (omega arith) (omega arith)
mag_sum (negsuc a) (negsuc b) n h k = omega arith

both_leb : (a b c d : ℕ) → (a ≡ b → c ≡ d) → (c ≡ d → a ≡ b) → (leb a b && leb b a) ≡ eqb c d
both_leb a b c d f g =
    test (eqb c d)
    (λ e. let q : a ≡ b = g (eqb-true c d e) in rw (e, le-leb a b (omega arith), le-leb b a (omega arith)))
    (λ e. test (ltb a b)
    (λ u. let l : a < b = ltb-true a b u in rw (e, le-leb a b (omega arith), lt-leb b a l))
    (λ u. let l : b ≤ a = ltb-false a b u in rw (e, lt-leb a b (away l (λ q. eqb-false c d e (f q))))))
  where
    away : b ≤ a → (a ≡ b → ⊥) → b < a
    away l n = omega arith

same_lift : (x y : ℤ) → mag x < 2 ^ 39 → mag y < 2 ^ 39 → sameℤ x y ≡ eqb (lift x) (lift y)
same_lift (pos a) (pos b) h k = both_leb a b (2 ^ 40 + a) (2 ^ 40 + b) (λ e. omega arith) (λ e. omega arith)
same_lift (pos a) (negsuc b) h k = sym (ne_eqb (2 ^ 40 + a) (2 ^ 40 - suc b) (λ e. omega arith))
same_lift (negsuc a) (pos b) h k = sym (ne_eqb (2 ^ 40 - suc a) (2 ^ 40 + b) (λ e. omega arith))
same_lift (negsuc a) (negsuc b) h k = both_leb b a (2 ^ 40 - suc a) (2 ^ 40 - suc b) (λ e. omega arith) (λ e. omega arith)

-- ---- the sign of 32 bits
bit31 : (x : ℕ) → x < 2 ^ 32 → bit x 31 ≡ leb (2 ^ 31) x
bit31 x h =
    test (leb (2 ^ 31) x)
    (λ e. let l : 2 ^ 31 ≤ x = leb-true (2 ^ 31) x e in rw (e, eq-eqb (x / 2 ^ 31 % 2) 1 (omega arith)))
    (λ e. let l : x < 2 ^ 31 = leb-false (2 ^ 31) x e in rw (e, ne_eqb (x / 2 ^ 31 % 2) 1 (λ q. omega arith)))

SInt-neg : (x : ℕ) → 2 ^ 31 ≤ x → x < 2 ^ 32 → SInt 32 x ≡ negsuc (2 ^ 32 - suc x)
unfolding SInt
SInt-neg x h k = rw (bit31 x k, le-leb (2 ^ 31) x h, lt-ltb x (2 ^ 32) k)

SInt_pos : (x : ℕ) → x < 2 ^ 31 → SInt 32 x ≡ pos x
unfolding SInt
SInt_pos x h = rw (bit31 x (omega arith), lt-leb (2 ^ 31) x h)

mag_SInt : (x : ℕ) → x < 2 ^ 32 → mag (SInt 32 x) < 2 ^ 31
mag_SInt x h =
    test (leb (2 ^ 31) x)
    (λ e. let l : 2 ^ 31 ≤ x = leb-true (2 ^ 31) x e in rw (SInt-neg x l h) (omega arith))
    (λ e. let l : x < 2 ^ 31 = leb-false (2 ^ 31) x e in rw (SInt_pos x l) l)

lift-SInt : (x : ℕ) → x < 2 ^ 32 → lift (SInt 32 x) + 2 ^ 31 ≡ 2 ^ 40 + biased x
lift-SInt x h =
    test (leb (2 ^ 31) x)
    (λ e. let l : 2 ^ 31 ≤ x = leb-true (2 ^ 31) x e in rw (SInt-neg x l h) (omega arith))
    (λ e. let l : x < 2 ^ 31 = leb-false (2 ^ 31) x e in rw (SInt_pos x l) (omega arith))

-- ---- the flags of a comparison
not_eqb : (a b c d : ℕ) → (c ≤ d → a ≡ b → ⊥) → (d < c → a ≡ b) → not (eqb a b) ≡ leb c d
not_eqb a b c d g k =
    test (leb c d)
    (λ e. rw (e, ne_eqb a b (g (leb-true c d e))))
    (λ e. rw (e, eq-eqb a b (k (leb-false c d e))))

same_eqb : (a b c d : ℕ) → (a ≡ b → c ≡ d) → (c ≡ d → a ≡ b) → eqb a b ≡ eqb c d
same_eqb a b c d f g =
    test (eqb c d)
    (λ e. rw (e, eq-eqb a b (g (eqb-true c d e))))
    (λ e. rw (e, ne_eqb a b (λ q. eqb-false c d e (f q))))

z_means : (z : Size) (a b : ℕ) → a < 2 ^ bits z → b < 2 ^ bits z → (compared z a b).z ≡ eqb a b
unfolding AddWithCarry
z_means W a b h k = same_eqb ((a + (2 ^ 32 - 1 - b) + 1) % 2 ^ 32) 0 a b (λ e. omega arith) (λ e. omega arith)
z_means X a b h k = same_eqb ((a + (2 ^ 64 - 1 - b) + 1) % 2 ^ 64) 0 a b (λ e. omega arith) (λ e. omega arith)

c_means : (z : Size) (a b : ℕ) → a < 2 ^ bits z → b < 2 ^ bits z → (compared z a b).c ≡ leb b a
unfolding AddWithCarry
c_means W a b h k = not_eqb ((a + (2 ^ 32 - 1 - b) + 1) % 2 ^ 32) (a + (2 ^ 32 - 1 - b) + 1) b a (λ l e. omega arith) (λ l. omega arith)
c_means X a b h k = not_eqb ((a + (2 ^ 64 - 1 - b) + 1) % 2 ^ 64) (a + (2 ^ 64 - 1 - b) + 1) b a (λ l e. omega arith) (λ l. omega arith)

-- N equals V
beq_means : (r l s a b : ℕ) → (2 ^ 31 ≤ r → l ≡ s → b ≤ a → ⊥) → (2 ^ 31 ≤ r → (l ≡ s → ⊥) → a < b → ⊥) → (r < 2 ^ 31 → l ≡ s → a < b → ⊥) → (r < 2 ^ 31 → (l ≡ s → ⊥) → b ≤ a → ⊥)
    → beq (leb (2 ^ 31) r) (not (eqb l s)) ≡ leb b a
beq_means r l s a b f g h k =
    test (leb (2 ^ 31) r)
    (λ u. test (eqb l s)
    (λ w. rw (u, w, lt-leb b a (below (f (leb-true (2 ^ 31) r u) (eqb-true l s w)))))
    (λ w. rw (u, w, le-leb b a (above (g (leb-true (2 ^ 31) r u) (eqb-false l s w))))))
    (λ u. test (eqb l s)
    (λ w. rw (u, w, le-leb b a (above (h (leb-false (2 ^ 31) r u) (eqb-true l s w)))))
    (λ w. rw (u, w, lt-leb b a (below (k (leb-false (2 ^ 31) r u) (eqb-false l s w))))))
  where
    below : (b ≤ a → ⊥) → a < b
    below n = omega arith

    above : (a < b → ⊥) → b ≤ a
    above n = omega arith

below : (a : ℕ) → a % 2 ^ 32 < 2 ^ 32
below a = omega arith

lift-low : (x : ℕ) → x < 2 ^ 31 → lift (SInt 32 x) ≡ 2 ^ 40 + x
lift-low x h = ap lift (SInt_pos x h)

lift-high : (x : ℕ) → 2 ^ 31 ≤ x → x < 2 ^ 32 → lift (SInt 32 x) + 2 ^ 32 ≡ 2 ^ 40 + x
lift-high x h k = rw (SInt-neg x h k) (omega arith)

biased_not : (b : ℕ) → b < 2 ^ 32 → biased (2 ^ 32 - 1 - b) + biased b ≡ 2 ^ 32 - 1
biased_not b h =
    test (ltb b (2 ^ 31))
    (λ e. let l : b < 2 ^ 31 = ltb-true b (2 ^ 31) e in omega arith)
    (λ e. let l : 2 ^ 31 ≤ b = ltb-false b (2 ^ 31) e in omega arith)

-- the difference is that of the numbers moved up
biased_le : (a b : ℕ) → a < 2 ^ 32 → b < 2 ^ 32 → biased b ≤ biased a → (a + (2 ^ 32 - 1 - b) + 1) % 2 ^ 32 ≡ biased a - biased b
biased_le a b h k l = omega arith

biased_lt : (a b : ℕ) → a < 2 ^ 32 → b < 2 ^ 32 → biased a < biased b → (a + (2 ^ 32 - 1 - b) + 1) % 2 ^ 32 ≡ 2 ^ 32 + biased a - biased b
biased_lt a b h k l = omega arith

n_is_v_of : (r l s a b : ℕ) → r < 2 ^ 32 → a < 2 ^ 32 → b < 2 ^ 32 → (r < 2 ^ 31 → l ≡ 2 ^ 40 + r) → (2 ^ 31 ≤ r → l + 2 ^ 32 ≡ 2 ^ 40 + r)
    → (b ≤ a → r ≡ a - b) → (a < b → r ≡ 2 ^ 32 + a - b) → s + b ≡ 2 ^ 40 + a → beq (leb (2 ^ 31) r) (not (eqb l s)) ≡ leb b a
n_is_v_of r l s a b hr ha hb low high le lt sum =
    beq_means r l s a b
    (λ u w m. omega (arith, high u, le m))
    (λ u w m. absurd (w (omega (arith, high u, lt m))))
    (λ u w m. omega (arith, low u, lt m))
    (λ u w m. absurd (w (omega (arith, low u, le m))))

n_is_v : (a b : ℕ) → a < 2 ^ 32 → b < 2 ^ 32 → beq (compared W a b).n (compared W a b).v ≡ leb (biased b) (biased a)
unfolding AddWithCarry
n_is_v a b h k =
    let c : ℕ = 2 ^ 32 - 1 - b in
    let r : ℕ = (a + c + 1) % 2 ^ 32 in
    let s : ℤ = SInt 32 a +ℤ SInt 32 c +ℤ pos 1 in
    let t : ℤ = SInt 32 a +ℤ SInt 32 c in
    let la : lift (SInt 32 a) + 2 ^ 31 ≡ 2 ^ 40 + biased a = lift-SInt a h in
    let lc : lift (SInt 32 c) + 2 ^ 31 ≡ 2 ^ 40 + biased c = lift-SInt c (omega arith) in
    let ma : mag (SInt 32 a) < 2 ^ 31 = mag_SInt a h in
    let mc : mag (SInt 32 c) < 2 ^ 31 = mag_SInt c (omega arith) in
    let mr : mag (SInt 32 r) < 2 ^ 31 = mag_SInt r (below (a + c + 1)) in
    let mt : mag t < 2 ^ 31 + 2 ^ 31 = mag_sum (SInt 32 a) (SInt 32 c) (2 ^ 31) ma mc in
    let ms : mag s < 2 ^ 32 + 2 ^ 32 = mag_sum t (pos 1) (2 ^ 32) mt (omega arith) in
    let lt : lift t + 2 ^ 40 ≡ lift (SInt 32 a) + lift (SInt 32 c) = lift-sum (SInt 32 a) (SInt 32 c) (omega arith) (omega arith) in
    let ls : lift s + 2 ^ 40 ≡ lift t + (2 ^ 40 + 1) = lift-sum t (pos 1) (omega arith) (omega arith) in
    let sum : lift s + biased b ≡ 2 ^ 40 + biased a = omega (arith, biased_not b k) in
    ap₂ beq (bit31 r (below (a + c + 1))) (ap not (same_lift (SInt 32 r) s (omega arith) (omega arith)))
    ∙ n_is_v_of r (lift (SInt 32 r)) (lift s) (biased a) (biased b) (below (a + c + 1)) (below (a + 2 ^ 31)) (below (b + 2 ^ 31)) (lift-low r) (λ l. lift-high r l (below (a + c + 1))) (biased_le a b h k) (biased_lt a b h k) sum

-- ---- the ten conditions
not-not : (b : Bool) → not (not b) ≡ b
not-not true = refl
not-not false = refl

not_leb : (a b : ℕ) → not (leb b a) ≡ ltb a b
not_leb a b =
    test (leb b a)
    (λ e. let l : b ≤ a = leb-true b a e in rw (e, le-ltb a b l))
    (λ e. let l : a < b = leb-false b a e in rw (e, lt-ltb a b l))

not_ltb : (a b : ℕ) → not (ltb b a) ≡ leb a b
not_ltb a b = ap not (sym (not_leb b a)) ∙ not-not (leb a b)

and_means : (a b : ℕ) → (leb b a && not (eqb a b)) ≡ ltb b a
and_means a b =
    test (leb b a)
    (λ e. let l : b ≤ a = leb-true b a e in test (eqb a b)
    (λ u. let q : a ≡ b = eqb-true a b u in rw (e, u, le-ltb b a (omega arith)))
    (λ u. let q : a ≡ b → ⊥ = eqb-false a b u in rw (e, u, lt-ltb b a (omega arith))))
    (λ e. let l : a < b = leb-false b a e in rw (e, le-ltb b a (omega arith)))

biased-eqb : (a b : ℕ) → a < 2 ^ 32 → b < 2 ^ 32 → eqb a b ≡ eqb (biased a) (biased b)
biased-eqb a b h k = same_eqb a b (biased a) (biased b) (λ e. omega arith) (λ e. back e (ltb a (2 ^ 31)) refl (ltb b (2 ^ 31)) refl)
  where
    back : biased a ≡ biased b → (u : Bool) → ltb a (2 ^ 31) ≡ u → (w : Bool) → ltb b (2 ^ 31) ≡ w → a ≡ b
    back e true u true w = omega (arith, ltb-true a (2 ^ 31) u, ltb-true b (2 ^ 31) w)
    back e true u false w = omega (arith, ltb-true a (2 ^ 31) u, ltb-false b (2 ^ 31) w)
    back e false u true w = omega (arith, ltb-false a (2 ^ 31) u, ltb-true b (2 ^ 31) w)
    back e false u false w = omega (arith, ltb-false a (2 ^ 31) u, ltb-false b (2 ^ 31) w)

module _ (z : Size) (a b : ℕ) (ha : a < 2 ^ bits z) (hb : b < 2 ^ bits z) where
  pub eq_means : ConditionHolds 0 (compared z a b) ≡ eqb a b
  unfolding ConditionHolds
  eq_means = z_means z a b ha hb

  pub ne_means : ConditionHolds 1 (compared z a b) ≡ not (eqb a b)
  unfolding ConditionHolds
  ne_means = ap not (z_means z a b ha hb)

  pub hs_means : ConditionHolds 2 (compared z a b) ≡ leb b a
  unfolding ConditionHolds
  hs_means = c_means z a b ha hb

  pub lo_means : ConditionHolds 3 (compared z a b) ≡ ltb a b
  unfolding ConditionHolds
  lo_means = ap not (c_means z a b ha hb) ∙ not_leb a b

  pub hi_means : ConditionHolds 8 (compared z a b) ≡ ltb b a
  unfolding ConditionHolds
  hi_means = ap₂ (λ c e. c && not e) (c_means z a b ha hb) (z_means z a b ha hb) ∙ and_means a b

  pub ls_means : ConditionHolds 9 (compared z a b) ≡ leb a b
  unfolding ConditionHolds
  ls_means = ap₂ (λ c e. not (c && not e)) (c_means z a b ha hb) (z_means z a b ha hb) ∙ ap not (and_means a b) ∙ not_ltb a b

module _ (a b : ℕ) (ha : a < 2 ^ 32) (hb : b < 2 ^ 32) where
  pub ge_means : ConditionHolds 10 (compared W a b) ≡ leb (biased b) (biased a)
  unfolding ConditionHolds
  ge_means = n_is_v a b ha hb

  pub lt_means : ConditionHolds 11 (compared W a b) ≡ ltb (biased a) (biased b)
  unfolding ConditionHolds
  lt_means = ap not (n_is_v a b ha hb) ∙ not_leb (biased a) (biased b)

  pub gt_means : ConditionHolds 12 (compared W a b) ≡ ltb (biased b) (biased a)
  unfolding ConditionHolds
  gt_means = ap₂ (λ c e. c && not e) (n_is_v a b ha hb) (z_means W a b ha hb ∙ biased-eqb a b ha hb) ∙ and_means (biased a) (biased b)

  pub le_means : ConditionHolds 13 (compared W a b) ≡ leb (biased a) (biased b)
  unfolding ConditionHolds
  le_means = ap₂ (λ c e. not (c && not e)) (n_is_v a b ha hb) (z_means W a b ha hb ∙ biased-eqb a b ha hb) ∙ ap not (and_means (biased a) (biased b)) ∙ not_ltb (biased a) (biased b)

  -- the order of the integers
  pub biased_signed : le_z (SInt 32 a) (SInt 32 b) ≡ leb (biased a) (biased b)
  biased_signed =
      test (leb (2 ^ 31) a)
      (λ u. let l : 2 ^ 31 ≤ a = leb-true (2 ^ 31) a u in test (leb (2 ^ 31) b)
      (λ w. let m : 2 ^ 31 ≤ b = leb-true (2 ^ 31) b w in
      rw (SInt-neg a l ha, SInt-neg b m hb) (same_leb (2 ^ 32 - suc b) (2 ^ 32 - suc a) (biased a) (biased b) (λ e. omega arith) (λ e. omega arith)))
      (λ w. let m : b < 2 ^ 31 = leb-false (2 ^ 31) b w in rw (SInt-neg a l ha, SInt_pos b m, le-leb (biased a) (biased b) (omega arith))))
      (λ u. let l : a < 2 ^ 31 = leb-false (2 ^ 31) a u in test (leb (2 ^ 31) b)
      (λ w. let m : 2 ^ 31 ≤ b = leb-true (2 ^ 31) b w in rw (SInt_pos a l, SInt-neg b m hb, lt-leb (biased a) (biased b) (omega arith)))
      (λ w. let m : b < 2 ^ 31 = leb-false (2 ^ 31) b w in
      rw (SInt_pos a l, SInt_pos b m) (same_leb a b (biased a) (biased b) (λ e. omega arith) (λ e. omega arith))))
    where
      same_leb : (a b c d : ℕ) → (c ≤ d → a ≤ b) → (d < c → b < a) → leb a b ≡ leb c d
      same_leb a b c d f g = test (leb c d) (λ e. rw (e, le-leb a b (f (leb-true c d e)))) (λ e. rw (e, lt-leb a b (g (leb-false c d e))))

-- ---- after TST
pub tst_eq : (z : Size) (r : ℕ) → ConditionHolds 0 (test_flags z r) ≡ eqb r 0
unfolding ConditionHolds
tst_eq z r = refl

pub tst_ne : (z : Size) (r : ℕ) → ConditionHolds 1 (test_flags z r) ≡ not (eqb r 0)
unfolding ConditionHolds
tst_ne z r = refl
