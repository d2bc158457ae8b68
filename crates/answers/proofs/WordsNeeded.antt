-- The number of words that a record's block takes is the one that translation asks for, and the instructions meant, the nop and the pool
-- are all of them.
use mathlib.Core.Path.{◌≡◌, refl, ap, subst, ◌∙◌}
use mathlib.Core.List.{List, ◌++◌, map}
use Prim.Native.Nat.{ℕ}
use native.Mathlib.Omega.{arith}
use lib.ListN.{length, length-map, length-append}
use Rattle.arm.specs.Instr.{encode}
use Rattle.block.specs.declared.Block.{Block}
use Rattle.block.specs.Checked.{Checked}
use Rattle.record.specs.Record.{Answer, Accepted as NoFault, Refused as Fault, reading}
use Rattle.record.proofs.Accepted.{Bytes, read-checked}
use Rattle.code.specs.Items.{size, pad_of, halves}
use Rattle.lowering.specs.Compile.{block_words}
use Rattle.bounds.specs.Whole.{items_of, meant, block_pool}
use Rattle.bounds.proofs.Whole.{emitted}
use Rattle.code.proofs.Reach.{halves-length}
use Rattle.answers.specs.Translation.{told_behind, translation}
use Rattle.answers.specs.WordsNeeded.{need_behind, words_needed, Exact, words_counted, Included}
use Rattle.answers.proofs.Faults.{Early, early}
use Rattle.answers.proofs.Cases.{is_short, does-fit}
use Rattle.answers.proofs.Sites.{some_words}

-- the instructions meant, the nop and the pool are all the words
all_counted : (b : Block) → Checked b → length (block_words b) ≡ words_counted b
all_counted b ck =
    let pool : List ℕ = block_pool b in
    let pad : List ℕ = pad_of (size (items_of b)) pool in
    let front = length-append (map encode (meant b)) (pad ++ halves pool) in
    let behind = length-append pad (halves pool) in
    ap length (emitted b ck).words ∙ omega (arith, front, behind, length-map (meant b) encode, halves-length pool)

module _ (bytes : List ℕ) where
  abbrev b : Block
  b = (reading bytes).block

  pub exact : Exact (words_needed bytes) bytes
  unfolding words_needed need_behind translation told_behind
  exact = by (reading bytes).answer refl
    where
      by : (a : Answer) → (reading bytes).answer ≡ a → Exact (need_behind a b) bytes
      by NoFault e = (some_words b, (λ lent. ((λ l. (does-fit bytes lent e l).answer), (λ l. (is_short bytes lent e l).answer))))
      by (Fault number place) e =
          let l : Early (Fault number place) = subst Early e (early bytes) in (l.1, (λ lent. rw e))

  pub included : Bytes bytes → Included (words_needed bytes) bytes
  unfolding words_needed need_behind
  included are = by (reading bytes).answer refl
    where
      by : (a : Answer) → (reading bytes).answer ≡ a → Included (need_behind a b) bytes
      by NoFault e = all_counted b (read-checked bytes are e)
      by (Fault number place) e = tt
