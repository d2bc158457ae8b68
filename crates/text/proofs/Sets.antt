-- A run of stores. What lies past the end is not stored.
use Prim.Native.Nat.{ℕ, zero, suc, ◌+◌, ◌-◌, ◌≤◌, min}
use mathlib.Core.Path.{◌≡◌, refl, ap, ◌∙◌, sym}
use mathlib.Core.List.{List, [], ◌∷◌, ◌++◌}
use native.Mathlib.Omega.{arith}
use Rattle.std.proofs.Common.{append_assoc}
use borrow.Rule.Slice.PartMut.{put_mid}
use lib.ListN.{length, take, drop, set, length-set}
use lib.Seq.{sets, sets-eq, set_out, drop-drop}

pub past : (xs out : List ℕ) (j : ℕ) → length out ≤ j → sets out j xs ≡ out
past [] out j h = refl
past (x ∷ xs) out j h = ap (λ (l : List ℕ). sets l (suc j) xs) (set_out out j x h) ∙ past xs out (suc j) (omega arith)

-- the bytes that find room
pub cut : (xs out : List ℕ) (j n : ℕ) → min (length xs) (length out - j) ≤ n → sets out j xs ≡ sets out j (take n xs)
cut [] out j zero h = refl
cut [] out j (suc n) h = refl
cut (x ∷ xs) out j zero h = past (x ∷ xs) out j (omega arith)
cut (x ∷ xs) out j (suc n) h = cut xs (set out j x) (suc j) n (omega (arith, length-set out j x))

-- what a copy leaves
pub copied : (xs out : List ℕ) (j k : ℕ) → k ≡ length xs → j + k ≤ length out → put_mid j k out xs ≡ sets out j xs
copied xs out j k e h =
    let d : drop (length xs) (drop j out) ≡ drop (j + length xs) out = drop-drop (length xs) j out ∙ ap (λ n. drop n out) (omega arith) in
    rw e
    (ap (λ l. take j out ++ (xs ++ l)) d
    ∙ sym (append_assoc (take j out) xs (drop (j + length xs) out))
    ∙ sym (sets-eq xs out j (omega arith)))
