-- The first line and the first word, from the places of the bytes that end them.
use Prim.Native.Nat.{ℕ, ◌+◌, ◌-◌, ◌<◌}
use mathlib.Core.Path.{◌≡◌, refl, ap, ap₂, sym, subst, ◌∙◌}
use mathlib.Core.Bool.{Bool, true, false, cond}
use mathlib.Core.List.{List}
use native.Mathlib.Omega.{arith}
use borrow.Author.Tests.{ltb-true, ltb-false}
use lib.Dec.{ltb}
use lib.ListN.{length, take, drop, get_or, length-take, drop_of_length-le}
use Rattle.std.specs.Prelude.{Some, None, not}
use Rattle.std.specs.List.{position, position_or_len}
use Rattle.std.specs.Option.{unwrap_or}
use Rattle.std.proofs.lemmas.Slice.{between_to_end}
use Rattle.std.proofs.lemmas.Bool.{not-true, not-false, not_from_false}
use Rattle.std.proofs.lemmas.Option.{none-some, cond_some}
use Rattle.std.proofs.lemmas.List.Sums.{prefix_len-le-length, prefix_len_stops, prefix_len-drop_yes}
use Rattle.text.specs.Split.{line_feed, blank, trimmed, IsLastLine, IsLine, IsBlank, IsWord}

absent : (b : Bool) (k : ℕ) → None ≡ cond b (Some k) None → b ≡ false
absent true k e = absurd (none-some k e)
absent false k e = refl

or_end : (b : Bool) (k n : ℕ) → (b ≡ false → k ≡ n) → unwrap_or (cond b (Some k) None) n ≡ k
or_end true k n h = refl
or_end false k n h = sym (h refl)

module _ (p : ℕ → Bool) (s : List ℕ) where
  nowhere : None ≡ position p s → position_or_len p s ≡ length s
  nowhere e =
      omega (arith, ltb-false _ _ (absent _ _ e), prefix_len-le-length (λ x. not (p x)) s)

  somewhere : (n : ℕ) → Some n ≡ position p s → (n < length s) × (position_or_len p s ≡ n)
  somewhere n e =
      let q = cond_some _ _ _ (sym e) in
      (omega (arith, ltb-true _ _ q.0, q.1), q.1)

  -- the place, or the length
  end_is : unwrap_or (position p s) (length s) ≡ position_or_len p s
  end_is =
      or_end (ltb (position_or_len p s) (length s)) (position_or_len p s) (length s)
      (λ e. omega (arith, ltb-false (position_or_len p s) (length s) e, prefix_len-le-length (λ x. not (p x)) s))

pub no_line : (s : List ℕ) → None ≡ position line_feed s → IsLastLine s
no_line s e = nowhere line_feed s e

-- what a slice from n on holds
pub rest_is : (s : List ℕ) (n : ℕ) → take (length s - n) (drop n s) ≡ drop n s
rest_is s n = between_to_end s n (length s) (omega arith)

pub line : (s : List ℕ) (n : ℕ) → Some n ≡ position line_feed s → IsLine s (take n s) (take (length s - (n + 1)) (drop (n + 1) s))
line s n e =
    let q = somewhere line_feed s n e in
    record { ended = omega (arith, q); before = rw q.1 refl; behind = rest_is s (n + 1) ∙ rw q.1 refl }

pub no_word : (s : List ℕ) → None ≡ position (λ b. not (blank b)) s → IsBlank s
no_word s e = drop_of_length-le s (omega (arith, nowhere (λ b. not (blank b)) s e))

module _ (s : List ℕ) (n : ℕ) (e : Some n ≡ position (λ b. not (blank b)) s) where
  begins : trimmed s ≡ drop n s
  begins = rw (somewhere (λ b. not (blank b)) s n e).1 refl

  no_blank : blank (get_or s n 0) ≡ false
  no_blank =
      let q = somewhere (λ b. not (blank b)) s n e in
      let t = prefix_len_stops (λ b. not (not (blank b))) s 0 (omega (arith, q)) in
      not-true _ (not-false _ (subst (λ i. not (not (blank (get_or s i 0))) ≡ false) q.1 t))

  longer : 0 < position_or_len blank (drop n s)
  longer =
      let q = somewhere (λ b. not (blank b)) s n e in
      omega (arith, prefix_len-drop_yes (λ b. not (blank b)) s n 0 q.0 (not_from_false _ no_blank))

  pub word :
      (rest before behind : List ℕ) (m : ℕ)
      → rest ≡ take (length s - n) (drop n s)
      → m ≡ unwrap_or (position blank rest) (length rest)
      → before ≡ take m rest
      → behind ≡ drop m rest
      → IsWord s before behind
  word rest before behind m r k f g =
      let t : rest ≡ drop n s = r ∙ rest_is s n in
      let j : m ≡ position_or_len blank (drop n s) = k ∙ end_is blank rest ∙ ap (position_or_len blank) t in
      record {
        some =
            omega (arith, longer, prefix_len-le-length (λ b. not (blank b)) (drop n s), ap length t, ap length f, length-take m rest, j);
        before = subst (λ u. before ≡ take (position_or_len blank u) u) (sym begins) (f ∙ ap₂ take j t);
        behind = subst (λ u. behind ≡ drop (position_or_len blank u) u) (sym begins) (g ∙ ap₂ drop j t);
      }
