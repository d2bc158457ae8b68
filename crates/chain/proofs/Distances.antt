-- The distance in words is the difference of the addresses in words. Assumes nothing.
use Prim.Native.Nat.{ℕ, zero, suc, ◌+◌, ◌-◌, ◌*◌, ◌/◌, ◌≤◌, ◌<◌, ◌^◌}
use native.Mathlib.Omega.{arith}
use mathlib.Core.Path.{◌≡◌, refl, ap, ap₂, sym, subst, ◌∙◌}
use mathlib.Core.Bool.{Bool, true, false}
use lib.IntN.{ℤ, pos, negsuc, ◌-ℤ◌, neg_ℤ, sub_ℕ}
use lib.Signed.{mag, quot_z, shr_z}
use lib.Dec.{ltb}
use borrow.Author.Tests.{ltb-true, ltb-false, lt-ltb, le-ltb, eq-eqb, ne_eqb}
use mir.Syntax.{w64}
use mir.Val.{SFits, to_z, of_z}
use mir.Facts.{to_z-of_z}
use Rattle.arm.specs.declared.Instr.TheVariants.{Branch}
use Rattle.arm.specs.Instr.{encode}
use Rattle.std.specs.Prelude.{Err}
use Rattle.words.specs.declared.EncodeError.TheVariants.{Reach, Unaligned}
use Rattle.words.specs.Answers.{answer, Told, accepted, told}
use Rattle.words.specs.Signed.{reaches, twos}
use Rattle.chain.specs.Link.{distance, linked}
use Rattle.words.proofs.Answers.{carried-word}

sub_pos : (m n : ℕ) → pos m -ℤ pos n ≡ sub_ℕ m n
sub_pos m zero = simp (le-ltb m 0 (omega arith)) (ap pos (omega arith))
sub_pos m (suc n) = refl

sub-neg : (m n : ℕ) → negsuc m -ℤ pos n ≡ negsuc (m + n)
sub-neg m zero = simp (lt-ltb 0 (suc m) (omega arith)) (ap negsuc (omega arith))
sub-neg m (suc n) = ap negsuc (omega arith)

below : (m n : ℕ) → m < n → sub_ℕ m n ≡ negsuc (n - suc m)
below m n h = simp (lt-ltb m n h)

above : (m n : ℕ) → n ≤ m → sub_ℕ m n ≡ pos (m - n)
above m n h = simp (le-ltb m n h)

neg_pos : (k n : ℕ) → k ≡ suc n → neg_ℤ (pos k) ≡ negsuc n
neg_pos k n e = ap (λ (m : ℕ). neg_ℤ (pos m)) e

-- a difference of multiples of 4
sub_quot : (m n a b : ℕ) → m ≡ 4 * a → n ≡ 4 * b → sub_ℕ a b ≡ quot_z (sub_ℕ m n) (pos 4)
sub_quot m n a b p q = go (ltb a b) refl
  where
    go : (t : Bool) → ltb a b ≡ t → sub_ℕ a b ≡ quot_z (sub_ℕ m n) (pos 4)
    go true e =
        let h : a < b = ltb-true a b e in
        below a b h ∙ sym (ap (λ (z : ℤ). quot_z z (pos 4)) (below m n (omega arith)) ∙ neg_pos (suc (n - suc m) / 4) (b - suc a) (omega arith))
    go false e =
        let h : b ≤ a = ltb-false a b e in
        above a b h ∙ sym (ap (λ (z : ℤ). quot_z z (pos 4)) (above m n (omega arith)) ∙ ap pos (omega arith))

-- of two multiples of 4
pub words_are : (site body : ℤ) → twos 2 site ≡ 0 → twos 2 body ≡ 0 → shr_z body 4 -ℤ shr_z site 4 ≡ distance site body
words_are (pos a) (pos b) p q = sub_pos (b / 4) (a / 4) ∙ sub_quot b a (b / 4) (a / 4) (omega arith) (omega arith) ∙ ap (λ (z : ℤ). quot_z z (pos 4)) (sym (sub_pos b a))
words_are (negsuc a) (pos b) p q = ap pos (omega arith)
words_are (pos a) (negsuc b) p q = sub-neg (b / 4) (a / 4) ∙ sym (ap (λ (z : ℤ). quot_z z (pos 4)) (sub-neg b a) ∙ neg_pos (suc (b + a) / 4) (b / 4 + a / 4) (omega arith))
words_are (negsuc a) (negsuc b) p q = sub_quot (suc a) (suc b) (suc (a / 4)) (suc (b / 4)) (omega arith) (omega arith)

sub_mag : (m n : ℕ) → mag (sub_ℕ m n) ≤ m + n
sub_mag m n = go (ltb m n) refl
  where
    go : (t : Bool) → ltb m n ≡ t → mag (sub_ℕ m n) ≤ m + n
    go true e = subst (λ (z : ℤ). mag z ≤ m + n) (sym (below m n (ltb-true m n e))) (omega arith)
    go false e = subst (λ (z : ℤ). mag z ≤ m + n) (sym (above m n (ltb-false m n e))) (omega arith)

pub difference_mag : (x y : ℤ) → mag (x -ℤ y) ≤ mag x + mag y + 2
difference_mag (pos m) (pos n) = subst (λ (z : ℤ). mag z ≤ m + n + 2) (sym (sub_pos m n)) (omega (arith, sub_mag m n))
difference_mag (pos m) (negsuc n) = omega arith
difference_mag (negsuc m) (pos n) = subst (λ (z : ℤ). mag z ≤ m + n + 2) (sym (sub-neg m n)) (omega arith)
difference_mag (negsuc m) (negsuc n) = omega (arith, sub_mag (suc n) (suc m))

pub shr_mag : (x : ℤ) → mag (shr_z x 4) ≡ mag x / 4
shr_mag (pos n) = refl
shr_mag (negsuc n) = refl

-- a number as the machine holds it, and its quarter
abbrev pub held : ℤ → ℤ
held x = to_z w64 (of_z w64 x)

abbrev pub quarter : ℤ → ℤ
quarter x = held (shr_z (held x) 4)

quarter_is : (x : ℤ) → SFits w64 x → quarter x ≡ shr_z x 4
quarter_is x h = to_z-of_z (subst (λ (z : ℤ). SFits w64 (shr_z z 4)) (sym (to_z-of_z h)) (record { sfits = omega (arith, shr_mag x, h.sfits) })) ∙ ap (λ (z : ℤ). shr_z z 4) (to_z-of_z h)

module _ (site body : ℤ) (s : SFits w64 site) (b : SFits w64 body) where
  quarters_are : quarter body -ℤ quarter site ≡ shr_z body 4 -ℤ shr_z site 4
  quarters_are = ap₂ (λ (x y : ℤ). x -ℤ y) (quarter_is body b) (quarter_is site s)

  pub difference-fits : SFits w64 (quarter body -ℤ quarter site)
  difference-fits =
      subst (SFits w64) (sym quarters_are)
      (record { sfits = omega (arith, difference_mag (shr_z body 4) (shr_z site 4), shr_mag site, shr_mag body, s.sfits, b.sfits) })

  pub words-held : twos 2 site ≡ 0 → twos 2 body ≡ 0 → held (quarter body -ℤ quarter site) ≡ distance site body
  words-held p q = to_z-of_z difference-fits ∙ quarters_are ∙ words_are site body p q

-- the four answers
pub site-unaligned : (site body : ℤ) (n : ℕ) → n ≡ twos 2 site → (n ≡ 0 → ⊥) → told (Err Unaligned) ≡ told (linked site body)
unfolding linked
site-unaligned site body n e h = simp (ne_eqb (twos 2 site) 0 (λ z. h (e ∙ z)))

pub body-unaligned : (site body : ℤ) (n : ℕ) → twos 2 site ≡ 0 → n ≡ twos 2 body → (n ≡ 0 → ⊥) → told (Err Unaligned) ≡ told (linked site body)
unfolding linked
body-unaligned site body n a e h = simp (eq-eqb (twos 2 site) 0 a, ne_eqb (twos 2 body) 0 (λ z. h (e ∙ z)))

pub in_reach : (site body : ℤ) (t : Told ℕ) (n : ℕ) → twos 2 site ≡ 0 → twos 2 body ≡ 0 → true ≡ reaches (2 ^ 25) (distance site body)
    → t ≡ told (answer (Branch n)) → n ≡ twos (2 ^ 25) (distance site body) → n < 2 ^ 26 → t ≡ told (linked site body)
unfolding linked
in_reach site body t n a c r h e k =
    simp (eq-eqb (twos 2 site) 0 a, eq-eqb (twos 2 body) 0 c, sym r)
    (h ∙ ap told (carried-word (Branch n) ((k, tt), tt)) ∙ ap (λ (m : ℕ). accepted (encode (Branch m))) e)

pub out_of_reach : (site body : ℤ) → twos 2 site ≡ 0 → twos 2 body ≡ 0 → false ≡ reaches (2 ^ 25) (distance site body)
    → told (Err Reach) ≡ told (linked site body)
unfolding linked
out_of_reach site body a c t = simp (eq-eqb (twos 2 site) 0 a, eq-eqb (twos 2 body) 0 c, sym t)
