-- What each way through the code of the literals leaves.
use mathlib.Core.Path.{◌≡◌, refl, sym, ap, ◌∙◌}
use mathlib.Core.List.{List, [], ◌∷◌}
use Prim.Native.Nat.{ℕ, zero, suc, ◌+◌, ◌-◌, ◌<◌, ◌≤◌}
use native.Mathlib.Omega.{arith}
use native.Mathlib.Numerals.{add-one}
use lib.ListN.{set, get_or, take, drop, length}
use Rattle.std.specs.List.{position, position_or_len}
use Rattle.std.proofs.lemmas.Option.{cond_some, none-some}
use Rattle.std.proofs.lemmas.Bool.{ltb-false}
use Rattle.std.proofs.lemmas.List.Sums.{prefix_len-le-length}
use Rattle.std.proofs.lemmas.List.{drop_more}
use Rattle.std.proofs.Common.{Some, None, slice_range, add_assoc, cond, not, ◌==◌, Bool, true, false}
use borrow.Author.Tests.{lt-ltb, le-ltb}
use lib.IntN.{pos}
use Rattle.arm.specs.Instr.{encode}
use Rattle.code.specs.Items.{pick, index, ldr, fill, literal, go}
use Rattle.asm.specs.declared.Reference.TheVariants.{ToPool}
use Rattle.asm.specs.State.{literal_room, literals_at, State, parts, counts, kept, held, literals_from, keep_at, fixed, put}

-- ---- the search: the place of a value in a slice is its number among the literals
at : (v : ℕ) (xs : List ℕ) → position_or_len (λ x. v == x) xs ≡ index v xs
unfolding index
at v [] = refl
at v (x ∷ xs) = by (v == x) (at v xs)
  where
    by : (t : Bool) → position_or_len (λ y. v == y) xs ≡ index v xs → cond (not t) (1 + position_or_len (λ y. v == y) xs) 0 ≡ pick t 0 (suc (index v xs))
    by true e = refl
    by false e = omega (arith, e)

range : (i k : ℕ) (t : List ℕ) → literals_at + i + k ≤ length t → take k (drop (literals_at + i) t) ≡ literals_from i k t
unfolding literals_from
range i zero t h = refl
range i (suc k) t h =
    ap (take (suc k)) (drop_more t (literals_at + i) 0 (omega (arith, h)))
    ∙ ap (λ j. get_or t (literals_at + i) 0 ∷ take k (drop j t)) (add_assoc literals_at i 1)
    ∙ ap (λ j. get_or t (literals_at + i) 0 ∷ take k (drop (literals_at + j) t)) (add-one i)
    ∙ ap (λ xs. get_or t (literals_at + i) 0 ∷ xs) (range (suc i) k t (omega (arith, h)))

pub literals-length : (i k : ℕ) (t : List ℕ) → length (literals_from i k t) ≡ k
unfolding literals_from
literals-length i zero t = refl
literals-length i (suc k) t = ap suc (literals-length (suc i) k t)

none_false : (b : Bool) (x : ℕ) → cond b (Some x) None ≡ None → b ≡ false
none_false true x e = absurd (none-some x (sym e))
none_false false x e = refl

-- the slice of the literals, and the value's place in it
module _ (v k : ℕ) (t : List ℕ) (h : literals_at + k ≤ length t) where
  slice : List ℕ
  slice = slice_range t literals_at (literals_at + k)

  slice_is : slice ≡ literals_from 0 k t
  unfolding slice
  slice_is = ap (λ n. take n (drop literals_at t)) (let z : literals_at + k - literals_at ≡ k = omega arith in z) ∙ range 0 k t h

  pub found : (i : ℕ) → position (λ x. v == x) (slice_range t literals_at (literals_at + k)) ≡ Some i → i ≡ index v (literals_from 0 k t)
  unfolding slice
  found i e = sym (cond_some _ _ _ e).1 ∙ at v slice ∙ ap (index v) slice_is

  pub found_none : position (λ x. v == x) (slice_range t literals_at (literals_at + k)) ≡ None → k ≡ index v (literals_from 0 k t)
  unfolding slice
  found_none e =
      let n : ℕ = position_or_len (λ x. v == x) slice in
      let size : length slice ≡ k = ap length slice_is ∙ literals-length 0 k t in
      let le : n ≤ length slice = prefix_len-le-length (λ x. not (v == x)) slice in
      let same : k ≡ n = omega (arith, size, le, ltb-false n (length slice) (none_false _ _ e)) in
      same ∙ at v slice ∙ ap (index v) slice_is

-- ---- keeping it
module _ (i v k : ℕ) (s : State) (e : k ≡ kept s) where
  pub keep_there : i < k → s ≡ keep_at i v s
  unfolding keep_at
  keep_there h = rw (← e, lt-ltb i k h)

  pub keep-new : k ≤ i → k < literal_room → parts s.words (set s.tab (literals_at + k) v) (counts s.asm.at s.asm.labels s.asm.fixups (k + 1)) ≡ keep_at i v s
  unfolding keep_at
  keep-new h l = rw (← e, le-ltb i k h, lt-ltb k literal_room l, add-one k)

  pub keep-full : k ≤ i → literal_room ≤ k → s ≡ keep_at i v s
  unfolding keep_at
  keep-full h l = rw (← e, le-ltb i k h, le-ltb k literal_room l)

-- ---- the load: found, kept, and the word with its fix-up
pub lit-put : (rt v k i w : ℕ) (s s₁ s₂ : State) → k ≡ kept s → i ≡ index v (literals_from 0 k s.tab) → s₁ ≡ keep_at i v s
    → w ≡ encode (fill (ldr rt) (pos 0)) → s₂ ≡ fixed (ToPool i) w s₁
    → s₂ ≡ put (go (ldr rt) (literal v)) s
unfolding put held
lit-put rt v k i w s s₁ s₂ e q p f r =
    let j : i ≡ index v (literals_from 0 (kept s) s.tab) = q ∙ ap (λ n. index v (literals_from 0 n s.tab)) e in
    r ∙ ap (λ t. fixed (ToPool i) w t) p ∙ ap (λ x. fixed (ToPool i) x (keep_at i v s)) f
    ∙ ap (λ n. fixed (ToPool n) (encode (fill (ldr rt) (pos 0))) (keep_at n v s)) j
