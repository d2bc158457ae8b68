-- HOW MANY WORDS A RECORD'S BLOCK TAKES, from the record alone, for every list of bytes: document 02, "2026-07 Words needed, before any
-- are written".
use Rattle.std.specs.Prelude.{◌≡◌, List, ℕ, ◌+◌, ◌*◌, ◌<◌, ◌≤◌, length}
use Rattle.block.specs.declared.Block.{Block}
use Rattle.record.specs.Record.{Answer, Accepted as NoFault, Refused as Fault, reading}
use Rattle.code.specs.Items.{size, pad_of}
use Rattle.lowering.specs.Compile.{block_words, body_offset, sites}
use Rattle.bounds.specs.Whole.{items_of, meant, block_pool}
use Rattle.answers.specs.Translation.{accepted, refused, translation}

-- ---- an answer in document 02's numbers: "the number of words the block takes, or the refusal it would meet"
pub data Need : Type 0 where
  takes : (words : ℕ) → Need
  refused_with : (number place : ℕ) → Need

-- ---- "10 left out": the first fault of reading; 10 comes behind all of these, and depends on what is lent
unfoldable pub need_behind : Answer → Block → Need
need_behind NoFault b = takes (length (block_words b))
need_behind (Fault number place) b = refused_with number place

-- THE FIGURE
unfoldable pub words_needed : (bytes : List ℕ) → Need
words_needed bytes = need_behind (reading bytes).answer (reading bytes).block

-- ---- what is promised of it
-- "Translation into that many words is accepted; into one fewer it answers 10": it is accepted into more words too, and answers 10 into
-- any fewer, with the record's length as the place; and one fewer there is. A refusal is not 10, and translation answers it whatever is
-- lent.
abbrev pub Exact : Need → (bytes : List ℕ) → Type 0
Exact (takes words) bytes =
    (0 < words)
    × ((lent : List ℕ)
    → (words ≤ length lent → translation bytes lent ≡ accepted words body_offset (sites (reading bytes).block))
    × (length lent < words → translation bytes lent ≡ refused 10 (length bytes)))
Exact (refused_with number place) bytes = (number ≡ 10 → ⊥) × ((lent : List ℕ) → translation bytes lent ≡ refused number place)

-- the instructions meant, "pool and nop included": a nop where a pool follows an odd number of them, two words for each literal
abbrev pub words_counted : Block → ℕ
words_counted b = length (meant b) + length (pad_of (size (items_of b)) (block_pool b)) + 2 * length (block_pool b)

abbrev pub Included : Need → (bytes : List ℕ) → Type 0
Included (takes words) bytes = words ≡ words_counted (reading bytes).block
Included (refused_with number place) bytes = Unit {0}
