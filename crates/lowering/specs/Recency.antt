-- 2026-11, "Recency without a clock": A STATEMENT A SENTENCE, of every sequence of uses and releases from an empty cache (`Recency`, proved
-- in proofs/Recency.antt) and of every checked block (`SameWords`, proved in crates/bounds/proofs/Recency.antt).
use Rattle.std.specs.Prelude.{◌≡◌, ◌≢◌, false, List, [], ◌∷◌, ℕ, suc, ◌^◌, ◌<◌, eqb, ltb, get_or}
use Rattle.block.specs.declared.Block.{Block}
use Rattle.code.specs.Items.{pick}
use Rattle.lowering.specs.declared.RegCache.{RegCache}
use Rattle.lowering.specs.Cache.{FREE, empty_cache, is_held, oldest, chosen}
use Rattle.lowering.specs.Stamps.{Stamps, empty_stamps, oldest_stamp, chosen_stamp, Event, behind_all, behind_all_stamp, uses, stamped_words}
use Rattle.lowering.specs.Compile.{block_words}

-- how often i stands in a list
unfoldable pub count : ℕ → List ℕ → ℕ
count i [] = 0
count i (x ∷ xs) = pick (eqb x i) (suc (count i xs)) (count i xs)

-- "each slot standing in it exactly one time": each of 0 to 7, and no other number
abbrev pub EachOnce : List ℕ → Type 0
EachOnce order = (i : ℕ) → count i order ≡ pick (ltb i 8) 1 0

-- "Free slots are still taken lowest position first": slot i is free, and none before it
abbrev pub LowestFree : RegCache → Type 0
LowestFree rc = (i : ℕ) → i < 8 → get_or rc.guest i 0 ≡ FREE → ((j : ℕ) → j < i → get_or rc.guest j 0 ≢ FREE) → chosen rc ≡ i

-- what both hold, the slot that a new register takes, and the slot given up where none is free
pub record SameChoice (rc : RegCache) (st : Stamps) : Type 0 where
  pub guests : rc.guest ≡ st.guest
  pub dirties : rc.dirty ≡ st.dirty
  pub taken : chosen rc ≡ chosen_stamp st
  pub given_up : is_held rc FREE ≡ false → oldest rc ≡ oldest_stamp st

pub record Recency (es : List Event) : Type 0 where
  pub once : EachOnce (behind_all es empty_cache).order
  -- the slot given up is the first of the order as it stands
  pub first : oldest (behind_all es empty_cache) ≡ get_or (behind_all es empty_cache).order 0 0
  pub lowest-free : LowestFree (behind_all es empty_cache)
  -- "The slot given up is the one the Rust gives up, .. that the Rust's clock can count"
  pub same : uses es < 2 ^ 32 → SameChoice (behind_all es empty_cache) (behind_all_stamp es empty_stamps)

-- "all blocks have the same words"
abbrev pub SameWords : Block → Type 0
SameWords blk = stamped_words blk ≡ block_words blk
