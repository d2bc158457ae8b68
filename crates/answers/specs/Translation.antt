-- WHAT TRANSLATION ANSWERS AND LEAVES, for every list of bytes and every lent slice, from document 01's "Faults, in order" and "A whole
-- listing".
use Rattle.std.specs.Prelude.{List, ℕ, ltb, length}
use Rattle.block.specs.declared.Block.{Block}
use Rattle.record.specs.Record.{Answer, Accepted as NoFault, Refused as Fault, reading}
use Rattle.code.specs.Items.{pick}
use Rattle.lowering.specs.declared.Site.{Site}
use Rattle.lowering.specs.Compile.{block_words, body_offset, sites}
use Rattle.finish.specs.Finish.{zeros}
use Rattle.finish.specs.Whole.{laid}

-- ---- an answer in this paper's numbers: "word count and body offset in bytes" and the chain sites, or a fault's number and place
pub data Told : Type 0 where
  accepted : (words body : ℕ) → List Site → Told
  refused : (number place : ℕ) → Told

-- ---- of the block read from a record of so many bytes
-- 10: "more words needed than lent", its place "the record's length". The sites stand by rising word position (Sites.antt `InOrder`).
unfoldable pub block_told : (size : ℕ) → (lent : List ℕ) → Block → Told
block_told size lent b =
    pick (ltb (length lent) (length (block_words b))) (refused 10 size) (accepted (length (block_words b)) body_offset (sites b))

-- ---- the first fault of reading, or what follows: "10 comes last"
unfoldable pub told_behind : Answer → (size : ℕ) → (lent : List ℕ) → Block → Told
told_behind NoFault size lent b = block_told size lent b
told_behind (Fault number place) size lent b = refused number place

-- "All lent words are zero afterwards. An accepted block leaves the words beyond it untouched."
unfoldable pub laid_behind : Answer → (lent : List ℕ) → Block → List ℕ
laid_behind NoFault lent b = laid (block_words b) lent
laid_behind (Fault number place) lent b = zeros lent

-- THE ANSWER
unfoldable pub translation : (bytes lent : List ℕ) → Told
translation bytes lent = told_behind (reading bytes).answer (length bytes) lent (reading bytes).block

-- THE LENT WORDS
unfoldable pub lent_after : (bytes lent : List ℕ) → List ℕ
lent_after bytes lent = laid_behind (reading bytes).answer lent (reading bytes).block
