-- WHAT A READER ASKS OF THE ANSWER AND OF THE LENT WORDS: when a record is accepted, when the answer is 10, and which words stand where.
-- Proved for every list of bytes and every lent slice (proofs/Promises.antt `translations`).
use Rattle.std.specs.Prelude.{◌≡◌, true, false, List, ◌∷◌, ℕ, ◌<◌, ◌≤◌, length, take, drop}
use Rattle.record.specs.Record.{Accepted as NoFault, Refused as Fault, reading, reading_faults, among}
use Rattle.lowering.specs.declared.Site.{Site}
use Rattle.lowering.specs.Compile.{block_words, body_offset, sites}
use Rattle.lowering.specs.Commit.{commit_words}
use Rattle.finish.specs.Finish.{zeros}
use Rattle.answers.specs.Translation.{accepted, refused, translation, lent_after}

-- the words of the block that is read
abbrev pub words_of : (bytes : List ℕ) → List ℕ
words_of bytes = block_words (reading bytes).block

pub record Translations (bytes lent : List ℕ) : Type 0 where
  -- a fault of reading is the answer, whatever is lent
  pub fault_first : (number place : ℕ) → (reading bytes).answer ≡ Fault number place
      → translation bytes lent ≡ refused number place
  -- ACCEPTED if and only if there is no fault and words enough are lent
  pub accepted_if : (reading bytes).answer ≡ NoFault → length (words_of bytes) ≤ length lent
      → translation bytes lent ≡ accepted (length (words_of bytes)) body_offset (sites (reading bytes).block)
  pub accepted_only_if : (n body : ℕ) (ss : List Site) → translation bytes lent ≡ accepted n body ss
      → ((reading bytes).answer ≡ NoFault) × (length (words_of bytes) ≤ length lent)
  -- 10 if and only if there is no other fault and more words are needed than lent
  pub ten_if : (reading bytes).answer ≡ NoFault → length lent < length (words_of bytes) → translation bytes lent ≡ refused 10 (length bytes)
  pub ten_only_if : (place : ℕ) → translation bytes lent ≡ refused 10 place
      → ((reading bytes).answer ≡ NoFault) × (length lent < length (words_of bytes))
  -- a refusal's number is 10 or one of reading's faults
  pub refused-known : (number place : ℕ) → translation bytes lent ≡ refused number place → among number (10 ∷ reading_faults) ≡ true
  -- "All lent words are zero afterwards"
  pub refused-words : (number place : ℕ) → translation bytes lent ≡ refused number place → lent_after bytes lent ≡ zeros lent
  -- the first are the block's, as many as the answer says
  pub accepted-words : (n body : ℕ) (ss : List Site) → translation bytes lent ≡ accepted n body ss
      → take n (lent_after bytes lent) ≡ words_of bytes
  -- 2026-04, "With flag 0 the words are unchanged": the commit's
  pub flag_0_words : (n body : ℕ) (ss : List Site) → translation bytes lent ≡ accepted n body ss → (reading bytes).block.memory.map ≡ false
      → take n (lent_after bytes lent) ≡ commit_words (reading bytes).block
  -- "An accepted block leaves the words beyond it untouched"
  pub accepted-beyond : (n body : ℕ) (ss : List Site) → translation bytes lent ≡ accepted n body ss
      → drop n (lent_after bytes lent) ≡ drop n lent
