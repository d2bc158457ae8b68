-- The versions that an outcome leaves in the guards' records.
--     versioned_other      the regions before the guards are as they were
--     versioned-alike      the shape is the same
--     versioned-outside    the bytes behind a version are as they were
--     versioned-renewed    the guards' records, each with its version
use mathlib.Core.Path.{◌≡◌, refl, sym, ap, ap₂, ◌∙◌}
use mathlib.Core.Bool.{Bool, true, false}
use mathlib.Core.List.{List, [], ◌∷◌}
use Prim.Native.Nat.{ℕ, zero, suc, ◌<◌, ◌≤◌}
use native.Mathlib.Omega.{arith}
use borrow.Author.Tests.{eqb-true, eqb-false, ltb-true, ltb-false}
use lib.Dec.{eqb, ltb}
use lib.ListN.{length, get_or, drop, drop_of_length-le}
use lib.Seq.{drop-cons, get_or-set_same, get_or-set_other}
use Rattle.machine.specs.State.{Region}
use Rattle.machine.specs.Memory.{nowhere, bytes_of, base_of, with_bytes}
use Rattle.machine.specs.Execute.{with_version, versioned}
use Rattle.machine.proofs.Bytes.{length-write_le, get_or-write_le-above}
use Rattle.machine.proofs.Regions.{Alike, alike_refl, alike_trans, alike_with, bytes_same, bytes_other, drop_with}

-- one of them with its version
abbrev renewed_at : ℕ → ℕ → List Region → List Region
renewed_at i v m = with_bytes i (with_version v (bytes_of m i)) m

renewed-alike : (i v : ℕ) (m : List Region) → Alike m (renewed_at i v m)
renewed-alike i v m = alike_with i (with_version v (bytes_of m i)) m (length-write_le (bytes_of m i) 0 _ v)

pub versioned_other : (i : ℕ) (vs : List ℕ) (m : List Region) (j : ℕ) → j < i → bytes_of (versioned i vs m) j ≡ bytes_of m j
versioned_other i [] m j h = refl
versioned_other i (v ∷ vs) m j h =
    versioned_other (suc i) vs (renewed_at i v m) j (omega arith) ∙ bytes_other i (with_version v (bytes_of m i)) m j (omega arith)

pub versioned-alike : (i : ℕ) (vs : List ℕ) (m : List Region) → Alike m (versioned i vs m)
versioned-alike i [] m = alike_refl m
versioned-alike i (v ∷ vs) m = alike_trans (renewed-alike i v m) (versioned-alike (suc i) vs (renewed_at i v m))

nothing-beyond : (m : List Region) (k : ℕ) → length m ≤ k → bytes_of m k ≡ []
nothing-beyond [] k h = refl
nothing-beyond (r ∷ m) zero h = absurd (omega arith)
nothing-beyond (r ∷ m) (suc k) h = nothing-beyond m k (omega arith)

pub versioned-outside : (i : ℕ) (vs : List ℕ) (m : List Region) (k o : ℕ) → 8 ≤ o
    → get_or (bytes_of (versioned i vs m) k) o 0 ≡ get_or (bytes_of m k) o 0
versioned-outside i [] m k o h = refl
versioned-outside i (v ∷ vs) m k o h = versioned-outside (suc i) vs now k o h ∙ by (eqb k i) refl (ltb i (length m)) refl
  where
    l : List ℕ
    l = with_version v (bytes_of m i)

    now : List Region
    now = with_bytes i l m

    by : (t : Bool) → eqb k i ≡ t → (u : Bool) → ltb i (length m) ≡ u → get_or (bytes_of now k) o 0 ≡ get_or (bytes_of m k) o 0
    by false e u f = ap (λ b. get_or b o 0) (bytes_other i l m k (eqb-false k i e))
    by true e true f =
        let z : k ≡ i = eqb-true k i e in
        ap (λ j. get_or (bytes_of now j) o 0) z ∙ ap (λ b. get_or b o 0) (bytes_same i l m (ltb-true i (length m) f))
        ∙ get_or-write_le-above (bytes_of m i) 0 _ v o h ∙ ap (λ j. get_or (bytes_of m j) o 0) (sym z)
    by true e false f =
        let z : k ≡ i = eqb-true k i e in
        let n : length m ≤ i = ltb-false i (length m) f in
        ap (λ b. get_or b o 0) (nothing-beyond now k (omega (arith, (renewed-alike i v m).count)) ∙ sym (nothing-beyond m k (omega arith)))

-- ---- the whole list from the first guard on
region-before : (i : ℕ) (vs : List ℕ) (m : List Region) (j : ℕ) → j < i
    → get_or (versioned i vs m) j nowhere ≡ get_or m j nowhere
region-before i [] m j h = refl
region-before i (v ∷ vs) m j h =
    region-before (suc i) vs (renewed_at i v m) j (omega arith)
    ∙ get_or-set_other m i j (record { base = base_of m i; bytes = with_version v (bytes_of m i) }) nowhere (omega arith)

-- regions, each with its version
abbrev pub renewed : List Region → List ℕ → List Region
renewed [] vs = []
renewed (r ∷ rs) [] = r ∷ rs
renewed (r ∷ rs) (v ∷ vs) = record { base = r.base; bytes = with_version v r.bytes } ∷ renewed rs vs

renewed_none : (rs : List Region) → renewed rs [] ≡ rs
renewed_none [] = refl
renewed_none (r ∷ rs) = refl

pub versioned-renewed : (i : ℕ) (vs : List ℕ) (m : List Region) → drop i (versioned i vs m) ≡ renewed (drop i m) vs
versioned-renewed i [] m = sym (renewed_none (drop i m))
versioned-renewed i (v ∷ vs) m = by (versioned-renewed (suc i) vs now) (ltb i (length m)) refl
  where
    now : List Region
    now = renewed_at i v m

    same_count : length (versioned (suc i) vs (renewed_at i v m)) ≡ length m
    same_count = (versioned-alike (suc i) vs (renewed_at i v m)).count ∙ (renewed-alike i v m).count

    r : Region
    r = record { base = base_of m i; bytes = with_version v (bytes_of m i) }

    by : drop (suc i) (versioned (suc i) vs now) ≡ renewed (drop (suc i) now) vs → (u : Bool) → ltb i (length m) ≡ u
        → drop i (versioned (suc i) vs now) ≡ renewed (drop i m) (v ∷ vs)
    by rec true e =
        let l : i < length m = ltb-true i (length m) e in
        drop-cons (versioned (suc i) vs now) i nowhere (omega (arith, same_count))
        ∙ ap₂ (λ q qs. q ∷ qs) (region-before (suc i) vs now i (omega arith) ∙ get_or-set_same m i r nowhere l)
        (rec ∙ ap (λ rs. renewed rs vs) (drop_with (suc i) i (with_version v (bytes_of m i)) m (omega arith)))
        ∙ ap (λ rs. renewed rs (v ∷ vs)) (sym (drop-cons m i nowhere l))
    by rec false e =
        let l : length m ≤ i = ltb-false i (length m) e in
        drop_of_length-le (versioned (suc i) vs now) {i = i} (omega (arith, same_count))
        ∙ sym (ap (λ rs. renewed rs (v ∷ vs)) (drop_of_length-le m l))
