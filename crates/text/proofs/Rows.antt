-- A listing, word by word.
use Prim.Native.Nat.{ℕ, suc, ◌+◌, ◌-◌, ◌≤◌, ◌<◌}
use mathlib.Core.Path.{◌≡◌, ap, sym, ◌∙◌}
use mathlib.Core.List.{List, [], ◌∷◌, ◌++◌}
use native.Mathlib.Numerals.{add-one}
use lib.ListN.{length, get_or, drop, drop_of_length-le, length-drop}
use lib.Seq.{drop-cons}
use Rattle.text.specs.declared.put.Buffer.{Buffer}
use Rattle.text.specs.Put.{hex8, separator_of, rows}
use Rattle.text.specs.Buffer.{Puts}
use Rattle.text.proofs.Placed.{nothing, then}

module _ (words : List ℕ) (i : ℕ) where
  rows_more :
      i < length words
      → rows i (drop i words) ≡ (hex8 (get_or words i 0) ++ (separator_of i (length words - i) ∷ [])) ++ rows (i + 1) (drop (i + 1) words)
  unfolding rows
  rows_more h =
      ap (rows i) (drop-cons words i 0 h)
      ∙ ap
      (λ (n : ℕ). (hex8 (get_or words i 0) ++ (separator_of i n ∷ [])) ++ rows (i + 1) (drop (suc i) words))
      (sym (ap length (drop-cons words i 0 h)) ∙ length-drop i words)
      ∙ ap
      (λ (k : ℕ). (hex8 (get_or words i 0) ++ (separator_of i (length words - i) ∷ [])) ++ rows (i + 1) (drop k words))
      (sym (add-one i))

  rows_done : length words ≤ i → rows i (drop i words) ≡ []
  unfolding rows
  rows_done h = rw (drop_of_length-le words h)

-- the words from i on are all that is left to put
pub record Left (words : List ℕ) (a b : Buffer) (i : ℕ) : Type 0 where
  pub rest : (c : Buffer) → Puts (rows i (drop i words)) b c → Puts (rows 0 words) a c

pub start : (words : List ℕ) (a : Buffer) → Left words a a 0
start words a = record { rest = λ c p. p }

module _ (words : List ℕ) (a b : Buffer) (i : ℕ) (l : Left words a b i) where
  pub step :
      (c : Buffer) (sep : ℕ)
      → i < length words
      → sep ≡ separator_of i (length words - i)
      → Puts (hex8 (get_or words i 0) ++ (sep ∷ [])) b c
      → Left words a c (i + 1)
  step c sep h s p = record { rest = λ d q. l.rest d (rw (rows_more words i h) (then (rw s at p) q)) }

  pub done : length words ≤ i → Puts (rows 0 words) a b
  done h = l.rest b (rw (rows_done words i h) (nothing b))
