-- The Arm conditions after a comparison are the card's.
--     cond_means               each of the ten conditions of `acond`
--     chosen, select_most, select_least     a conditional select after a comparison
-- Assumes nothing.
use mathlib.Core.Path.{◌≡◌, refl, sym, ap, ◌∙◌}
use mathlib.Core.Bool.{Bool, true, false, cond, not}
use Prim.Native.Nat.{ℕ, ◌%◌, ◌^◌, ◌<◌}
use native.Mathlib.Nat.{mod-eq_of_lt}
use native.Mathlib.Omega.{arith}
use borrow.Author.Tests.{lt-ltb, le-ltb, leb-true, leb-false}
use lib.Dec.{leb, ltb, eqb}
use lib.IntN.{ℤ, pos, negsuc}
use lib.Signed.{lt_z, le_z}
use Rattle.arm.specs.declared.Size.TheVariants.{W}
use Rattle.block.specs.declared.Cond.{Cond}
use Rattle.block.specs.declared.Cond.TheVariants.{Eq, Ne, LtU, GtU, LeU, GeU, LtS, GtS, LeS, GeS}
use Rattle.machine.specs.Bits.{SInt, ConditionHolds}
use Rattle.machine.proofs.Flags.{compared, biased, eq_means, ne_means, hs_means, lo_means, hi_means, ls_means, ge_means, lt_means, gt_means, le_means, biased_signed}
use Rattle.card.specs.Word.{signed_of, holds, choose, at_most, at_least, unless_zero}
use Rattle.lowering.specs.Steps.{acond}

pub test : {A : Type 0} (u : Bool) → (u ≡ true → A) → (u ≡ false → A) → A
test true f g = f refl
test false f g = g refl

not_leb : (a b : ℕ) → not (leb b a) ≡ ltb a b
not_leb a b = test (leb b a) (λ e. rw (e, le-ltb a b (leb-true b a e))) (λ e. rw (e, lt-ltb a b (leb-false b a e)))

not_le_z : (a b : ℤ) → not (le_z b a) ≡ lt_z a b
not_le_z (pos a) (pos b) = not_leb a b
not_le_z (pos a) (negsuc b) = refl
not_le_z (negsuc a) (pos b) = refl
not_le_z (negsuc a) (negsuc b) = not_leb b a

pub lt_signed : (a b : ℕ) → a < 2 ^ 32 → b < 2 ^ 32 → lt_z (signed_of a) (signed_of b) ≡ ltb (biased a) (biased b)
unfolding SInt signed_of
lt_signed a b ha hb = sym (not_le_z (signed_of a) (signed_of b)) ∙ ap not (biased_signed b a hb ha) ∙ not_leb (biased a) (biased b)

pub cond_means : (q : Cond) (a b : ℕ) → a < 2 ^ 32 → b < 2 ^ 32 → ConditionHolds (acond q) (compared W a b) ≡ holds q a b
unfolding SInt signed_of
cond_means Eq a b ha hb = eq_means W a b ha hb
cond_means Ne a b ha hb = ne_means W a b ha hb
cond_means LtU a b ha hb = lo_means W a b ha hb
cond_means GtU a b ha hb = hi_means W a b ha hb
cond_means LeU a b ha hb = ls_means W a b ha hb
cond_means GeU a b ha hb = hs_means W a b ha hb
cond_means LtS a b ha hb = lt_means a b ha hb ∙ sym (lt_signed a b ha hb)
cond_means GtS a b ha hb = gt_means a b ha hb ∙ sym (lt_signed b a hb ha)
cond_means LeS a b ha hb = le_means a b ha hb ∙ sym (biased_signed a b ha hb)
cond_means GeS a b ha hb = ge_means a b ha hb ∙ sym (biased_signed b a hb ha)

-- ---- the select
small-cond : (u : Bool) (a b : ℕ) → a < 2 ^ 32 → b < 2 ^ 32 → cond u a b % 2 ^ 32 ≡ cond u a b
small-cond true a b ha hb = mod-eq_of_lt ha
small-cond false a b ha hb = mod-eq_of_lt hb

pub chosen : (q : Cond) (a b : ℕ) → a < 2 ^ 32 → b < 2 ^ 32 → cond (ConditionHolds (acond q) (compared W a b)) a b % 2 ^ 32 ≡ choose q a b
chosen q a b ha hb = ap (λ u. cond u a b % 2 ^ 32) (cond_means q a b ha hb) ∙ small-cond (holds q a b) a b ha hb

pub select_most : (v x : ℕ) → v < 2 ^ 32 → x < 2 ^ 32 → cond (ConditionHolds 12 (compared W x v)) v x % 2 ^ 32 ≡ at_most v x
select_most v x hv hx = ap (λ u. cond u v x % 2 ^ 32) (cond_means GtS x v hx hv) ∙ small-cond (holds GtS x v) v x hv hx

pub select_least : (v x : ℕ) → v < 2 ^ 32 → x < 2 ^ 32 → cond (ConditionHolds 11 (compared W x v)) v x % 2 ^ 32 ≡ at_least v x
select_least v x hv hx = ap (λ u. cond u v x % 2 ^ 32) (cond_means LtS x v hx hv) ∙ small-cond (holds LtS x v) v x hv hx

pub cond_lt : (u : Bool) (a b : ℕ) → a < 2 ^ 32 → b < 2 ^ 32 → cond u a b < 2 ^ 32
cond_lt true a b ha hb = ha
cond_lt false a b ha hb = hb

-- not below zero is at least zero
pub below-zero : (a n : ℕ) → a < 2 ^ 32 → n < 2 ^ 32 → cond (ConditionHolds 10 (compared W a 0)) a n % 2 ^ 32 ≡ cond (holds LtS a 0) n a
below-zero a n ha hn =
    ap (λ u. cond u a n % 2 ^ 32) (cond_means GeS a 0 ha (omega arith))
    ∙ small-cond (le_z (signed_of 0) (signed_of a)) a n ha hn
    ∙ flip (le_z (signed_of 0) (signed_of a))
    ∙ ap (λ u. cond u n a) (not_le_z (signed_of a) (signed_of 0))
  where
    flip : (u : Bool) → cond u a n ≡ cond (not u) n a
    flip true = refl
    flip false = refl

-- a remainder by zero is zero
pub unless-zero : (b v : ℕ) → b < 2 ^ 32 → v < 2 ^ 32 → cond (ConditionHolds 0 (compared W b 0)) 0 v % 2 ^ 32 ≡ unless_zero b v
unless-zero b v hb hv = ap (λ u. cond u 0 v % 2 ^ 32) (cond_means Eq b 0 hb (omega arith)) ∙ small-cond (eqb b 0) 0 v (omega arith) hv
