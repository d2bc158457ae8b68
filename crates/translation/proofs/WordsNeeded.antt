-- What `words_needed` answers at each of its ends is the definition's.
use mathlib.Core.Path.{◌≡◌, refl, sym, ap, subst, ◌∙◌}
use mathlib.Core.List.{List}
use Prim.Native.Nat.{ℕ}
use Rattle.std.specs.Prelude.{Result, Ok, Err, IsErrAnd}
use Rattle.block.specs.declared.Block.{Block}
use Rattle.faults.specs.declared.Refusal.{Refusal}
use Rattle.record.specs.Record.{reading, found}
use Rattle.record.proofs.Accepted.{Bytes}
use Rattle.lowering.specs.Compile.{block_words}
use Rattle.finish.specs.declared.Short.{Short}
use Rattle.finish.specs.Whole.{told, count_of}
use Rattle.finish.proofs.Join.{count-told}
use Rattle.answers.specs.WordsNeeded.{takes, need_behind, words_needed, Exact, Included}
use Rattle.answers.proofs.WordsNeeded.{exact, included}
use Rattle.translation.specs.Told.{need_told}

-- ---- the contract, from its first clause
abbrev pub Figured : (bytes : List ℕ) → Result ℕ Refusal → Type 0
Figured bytes r = (need_told r ≡ words_needed bytes) × (Exact (need_told r) bytes × Included (need_told r) bytes)

figured : (bytes : List ℕ) (r : Result ℕ Refusal) → Bytes bytes → need_told r ≡ words_needed bytes → Figured bytes r
figured bytes r are e = (e, subst (λ n. Exact n bytes × Included n bytes) (sym e) (exact bytes, included bytes are))

-- ---- the ends of `words_needed`
module _ (bytes : List ℕ) (are : Bytes bytes) where
  -- a fault of reading, handed on
  pub figured-fault : (q : Refusal) (r : Result ℕ Refusal) → found (Err q) ≡ reading bytes → IsErrAnd r (λ e. e ≡ q) → Figured bytes r
  unfolding words_needed need_behind
  figured-fault q (Ok n) read h = absurd h
  figured-fault q (Err e) read h = figured bytes (Err e) are (rw (h, ← read))

  -- the same of the fault itself
  pub figured-refusal : (q : Refusal) → found (Err q) ≡ reading bytes → Figured bytes (Err q)
  figured-refusal q read = figured-fault q (Err q) read refl

  -- a block, counted whatever is lent
  pub figured-words : (b : Block) → found (Ok b) ≡ reading bytes
      → (lent : List ℕ) (fin : Result ℕ Short) (n : ℕ) → fin ≡ told (block_words b) lent → n ≡ count_of fin → Figured bytes (Ok n)
  unfolding words_needed need_behind
  figured-words b read lent fin n t k =
      figured bytes (Ok n) are (rw (← read) (ap takes (k ∙ ap count_of t ∙ count-told (block_words b) lent)))
