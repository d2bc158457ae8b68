-- THE CHAIN SITES OF A BLOCK, IN ONE ORDER: document 02, "2026-05 Sites in one order". Document 01 asked that "each site is listed once"
-- and left the order open, and the contract said "Their order is free": such a list is `ListedOnce`. Of these lists, whatever their length,
-- one rises and the others are its rearrangements (proofs/Sites.antt `one_order`); of a block's it is `sites` (`in_order`).
use Rattle.std.specs.Prelude.{◌≡◌, ℕ, ◌≤◌, ltb, length}
use mathlib.Core.List.{List, [], ◌∷◌, map, Mem, Nodup, Pairwise, Perm}
use Rattle.block.specs.declared.Block.{Block}
use Rattle.code.specs.Items.{pick, Rise}
use Rattle.lowering.specs.declared.Site.{Site}
use Rattle.lowering.specs.Steps.{block_steps}
use Rattle.lowering.specs.Compile.{block_code, block_words, starts, targets, sites}

-- the sites' word positions
abbrev pub positions : List Site → List ℕ
positions [] = []
positions (s ∷ ss) = s.at ∷ positions ss

-- what document 01 asked of a list of these sites: each of them, nothing else, none twice; in any order
pub record ListedOnce (all ss : List Site) : Type 0 where
  pub each : (s : Site) → Mem s all → Mem s ss
  pub nothing_else : (s : Site) → Mem s ss → Mem s all
  pub once : Nodup ss

-- ---- sorting by word position: each site behind those at lower positions
abbrev pub insert_site : Site → List Site → List Site
insert_site s [] = s ∷ []
insert_site s (t ∷ ts) = pick (ltb t.at s.at) (t ∷ insert_site s ts) (s ∷ t ∷ ts)

abbrev pub by_position : List Site → List Site
by_position [] = []
by_position (s ∷ ss) = insert_site s (by_position ss)

-- what holds of a list of any length whose positions rise
pub record OneOrder (all : List Site) : Type 0 where
  -- it has each of its sites once
  pub listed-once : ListedOnce all all
  -- "any earlier order was a rearrangement of this one"; and each rearrangement met what document 01 asked
  pub rearranged : (ss : List Site) → ListedOnce all ss → Perm ss all
  pub was_free : (ss : List Site) → Perm ss all → ListedOnce all ss
  -- "their order is free no longer": no other of these lists rises, wherever it starts and ends
  pub only_rising : (ss : List Site) → ListedOnce all ss → (p q : ℕ) → Rise p q (positions ss) → ss ≡ all
  -- an earlier list, sorted by word position, is this one: by `by_position`, and by any other way to sort it
  pub sorted : (ss : List Site) → ListedOnce all ss → by_position ss ≡ all
  pub any_sort : (ss ts : List Site) → ListedOnce all ss → Perm ts ss → Pairwise (λ s t. s.at ≤ t.at) ts → ts ≡ all

pub record InOrder (b : Block) : Type 0 where
  -- "Sites are listed by rising word position": from the first word on, each behind the one before, all of them words of the block
  pub rising : Rise 0 (length (block_words b)) (positions (sites b))
  -- none is left out: each word whose address the block takes, and each guest address that a step goes on at
  pub all_positions : positions (sites b) ≡ starts (block_code b) 0
  pub all_targets : map (λ (s : Site). s.target) (sites b) ≡ targets (block_steps b)
  pub one_order : OneOrder (sites b)
