-- The table of kinds: rules of all of its rows.
use mathlib.Core.Path.{◌≡◌, refl, sym, ◌∙◌}
use mathlib.Core.Bool.{Bool, true, false, ◌&&◌, ◌||◌}
use mathlib.Core.List.{List, [], ◌∷◌}
use Prim.Native.Nat.{ℕ, zero, suc, ◌+◌, ◌<◌, ◌≤◌}
use native.Mathlib.Omega.{arith}
use native.Mathlib.Nat.{not-suc-le-zero, le_of_suc-le-suc}
use borrow.Author.Tests.{eqb-true, leb-true, ltb-true}
use lib.Dec.{T, leb, ltb, eqb, leb→le, eqb→eq}
use lib.ListN.{length, get_or}
use Rattle.block.specs.declared.Fast.TheVariants.{Nop}
use Rattle.block.specs.Block.{kind_of, moved}
use Rattle.operands.specs.Kinds.{Kind, kind, kinds, kind_at, fast_of}
use Rattle.operands.proofs.Laws.{and_true_both}

-- ---- a test that holds of each row

abbrev pub every : (Kind → Bool) → List Kind → Bool
every f [] = true
every f (k ∷ ks) = f k && every f ks

both : (a b : Bool) → T (a && b) → T a × T b
both true b t = (tt, t)
both false b t = absurd t

pub row : (f : Kind → Bool) (ks : List Kind) (d : Kind) → T (f d) → T (every f ks) → (i : ℕ) → T (f (get_or ks i d))
row f [] d td t i = td
row f (k ∷ ks) d td t zero = (both (f k) (every f ks) t).0
row f (k ∷ ks) d td t (suc i) = row f ks d td (both (f k) (every f ks) t).1 i

short : Kind → Bool
short k = leb (length k.operands) 6

pub at_most-six : (k : ℕ) → length (kind_at k).operands ≤ 6
unfolding short
at_most-six k = leb→le (length (kind_at k).operands) 6 (row short kinds _ tt tt k)

-- ---- a kind's number

-- rows that make operations of the numbers i, i + 1 .., whatever their operands
abbrev numbered : (ℕ → ℕ) → ℕ → List Kind → Bool
numbered x i [] = true
numbered x i (r ∷ rs) = eqb (kind_of (r.fast x)) i && numbered x (suc i) rs

number_from : (x : ℕ → ℕ) (i : ℕ) (rs : List Kind) (d : Kind) → numbered x i rs ≡ true
    → (k : ℕ) → k < length rs → kind_of ((get_or rs k d).fast x) ≡ i + k
number_from x i [] d h k l = absurd (not-suc-le-zero l)
number_from x i (r ∷ rs) d h zero l =
    let e : kind_of (r.fast x) ≡ i = eqb-true _ _ (and_true_both (eqb (kind_of (r.fast x)) i) _ h).0 in
    e ∙ omega arith
number_from x i (r ∷ rs) d h (suc k) l =
    let rest = (and_true_both (eqb (kind_of (r.fast x)) i) (numbered x (suc i) rs) h).1 in
    let e : kind_of ((get_or rs k d).fast x) ≡ suc i + k = number_from x (suc i) rs d rest k (le_of_suc-le-suc l) in
    e ∙ omega arith

-- each row of the table makes an operation of its own number
pub kind-number : (k : ℕ) (xs : List ℕ) → k < 50 → kind_of (fast_of k xs) ≡ k
kind-number k xs h = number_from (λ i. get_or xs i 0) 0 kinds _ refl k h ∙ omega arith

-- ---- kinds 40 to 44 are the groups: no other moves words

abbrev group : ℕ → Bool
group k = leb 40 k && ltb k 45

still : (ℕ → ℕ) → Kind → Bool
still x k = group (kind_of (k.fast x)) || eqb (moved (k.fast x)) 0

no_group : (k : ℕ) → (40 ≤ k → k < 45 → ⊥) → group k ≡ false
no_group k h = cases (group k) refl
  where
    cases : (b : Bool) → group k ≡ b → b ≡ false
    cases true e = let g = and_true_both (leb 40 k) (ltb k 45) e in absurd (h (leb-true 40 k g.0) (ltb-true k 45 g.1))
    cases false e = refl

pub none_moved : (k : ℕ) (xs : List ℕ) → k < 50 → (40 ≤ k → k < 45 → ⊥) → 0 ≡ moved (fast_of k xs)
unfolding still
none_moved k xs h n =
    let t = row (still (λ i. get_or xs i 0)) kinds (kind [] (λ x. Nop)) tt tt k in
    sym (eqb→eq _ 0 (rw (kind-number k xs h, no_group k n) at t))
