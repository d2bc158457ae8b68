-- THE RUST'S REGISTER CACHE, with a use stamp for each slot and a clock: what the order of the slots stands in for (2026-11). To be held
-- beside `slot` and `take_slot` of the Rust.
use Rattle.std.specs.Prelude.{Bool, true, false, List, [], ◌∷◌, ℕ, suc, ◌+◌, ◌%◌, ◌^◌, ltb, set}
use Rattle.block.specs.declared.Block.{Block}
use Rattle.code.specs.Items.{pick}
use Rattle.code.specs.Tree.{top, Code, code, ◌then◌, whole_lines, lines_words}
use Rattle.lowering.specs.declared.RegCache.{RegCache}
use Rattle.lowering.specs.Cache.{FREE, position, seated, stored}
use Rattle.lowering.specs.Steps.{Step, block_steps}
use Rattle.lowering.specs.Fragments.{step_code, opening, closing}

pub record Stamps : Type 0 where
  pub guest : List ℕ
  pub dirty : List Bool
  pub used : List ℕ
  pub clock : ℕ

-- `RegCache::default()`
abbrev pub empty_stamps : Stamps
empty_stamps =
    record {
      guest = FREE ∷ FREE ∷ FREE ∷ FREE ∷ FREE ∷ FREE ∷ FREE ∷ FREE ∷ [];
      dirty = false ∷ false ∷ false ∷ false ∷ false ∷ false ∷ false ∷ false ∷ [];
      used = 0 ∷ 0 ∷ 0 ∷ 0 ∷ 0 ∷ 0 ∷ 0 ∷ 0 ∷ [];
      clock = 0;
    }

-- ---- the choice of a slot
abbrev pub is_held_stamp : Stamps → ℕ → Bool
is_held_stamp st r = ltb (position r st.guest) 8

-- the first position of the least number: that of `least` is `at`, the list starts at i
unfoldable pub least_from : (i at least : ℕ) → List ℕ → ℕ
least_from i at least [] = at
least_from i at least (u ∷ us) = pick (ltb u least) (least_from (suc i) i u us) (least_from (suc i) at least us)

-- `min_by_key`: every stamp is below 2^32
unfoldable pub oldest_stamp : Stamps → ℕ
oldest_stamp st = least_from 0 0 (2 ^ 32) st.used

-- a free one, else the least recently used
unfoldable pub chosen_stamp : Stamps → ℕ
chosen_stamp st = pick (is_held_stamp st FREE) (position FREE st.guest) (oldest_stamp st)

-- ---- a use of guest register r
-- `clock += 1`, of a u32
abbrev pub tick : Stamps → ℕ
tick st = (st.clock + 1) % 2 ^ 32

abbrev pub touch_stamp : ℕ → Stamps → Stamps
touch_stamp i st = record { guest = st.guest; dirty = st.dirty; used = set st.used i (tick st); clock = tick st }

abbrev pub assign_stamp : (i r : ℕ) → Stamps → Stamps
assign_stamp i r st =
    record { guest = set st.guest i r; dirty = set st.dirty i false; used = set st.used i (tick st); clock = tick st }

abbrev pub mark_stamp : ℕ → Stamps → Stamps
mark_stamp i st = record { guest = st.guest; dirty = set st.dirty i true; used = st.used; clock = st.clock }

unfoldable pub slot_stamp : Stamps → ℕ → ℕ
slot_stamp st r = pick (is_held_stamp st r) (position r st.guest) (chosen_stamp st)

-- behind `ld_reg`, and behind `st_reg`
unfoldable pub seated_stamp : Stamps → ℕ → Stamps
seated_stamp st r = pick (is_held_stamp st r) (touch_stamp (position r st.guest) st) (assign_stamp (chosen_stamp st) r st)

unfoldable pub stored_stamp : Stamps → ℕ → Stamps
stored_stamp st r = mark_stamp (slot_stamp st r) (seated_stamp st r)

-- ---- USES AND RELEASES: guest register r is read (`ld_reg`) or written (`st_reg`); slot i is released, and is free then. What a release
-- does with the stamp is left open: u is any number. The order of the slots stays.
pub data Event : Type 0 where
  reads writes : (r : ℕ) → Event
  releases : (i u : ℕ) → Event

abbrev pub release : ℕ → RegCache → RegCache
release i rc = record { guest = set rc.guest i FREE; dirty = set rc.dirty i false; order = rc.order }

abbrev pub release_stamp : (i u : ℕ) → Stamps → Stamps
release_stamp i u st =
    record { guest = set st.guest i FREE; dirty = set st.dirty i false; used = set st.used i u; clock = st.clock }

unfoldable pub behind_all : List Event → RegCache → RegCache
behind_all [] rc = rc
behind_all (reads r ∷ es) rc = behind_all es (seated rc r)
behind_all (writes r ∷ es) rc = behind_all es (stored rc r)
behind_all (releases i u ∷ es) rc = behind_all es (release i rc)

unfoldable pub behind_all_stamp : List Event → Stamps → Stamps
behind_all_stamp [] st = st
behind_all_stamp (reads r ∷ es) st = behind_all_stamp es (seated_stamp st r)
behind_all_stamp (writes r ∷ es) st = behind_all_stamp es (stored_stamp st r)
behind_all_stamp (releases i u ∷ es) st = behind_all_stamp es (release_stamp i u st)

-- what the clock counts
abbrev pub uses : List Event → ℕ
uses [] = 0
uses (reads r ∷ es) = suc (uses es)
uses (writes r ∷ es) = suc (uses es)
uses (releases i u ∷ es) = uses es

-- ---- THE WORDS OF A BLOCK by the Rust's cache
-- the uses of a step
abbrev pub uses_of : Step → List Event
uses_of (Step.ld_reg t r) = reads r ∷ []
uses_of (Step.st_reg t r) = writes r ∷ []
uses_of (Step.ld_field f t) = []
uses_of (Step.st_field f t) = []
uses_of (Step.mov32 t v) = []
uses_of (Step.add_imm d s v) = []
uses_of (Step.ins i) = []
uses_of (Step.load w signed i) = []
uses_of (Step.store w alone i) = []
uses_of (Step.check_brk glue pc count) = []
uses_of (Step.chain pc count) = []
uses_of (Step.fork cond pc target count) = []
uses_of (Step.ind t count brk) = []
uses_of (Step.limit pc count) = []
uses_of (Step.guard at helper pc) = []

-- a step asks three things of a cache: what is held, what is marked, and the slot to give up, which here is the one that the stamps tell
abbrev pub asked : Stamps → RegCache
asked st = record { guest = st.guest; dirty = st.dirty; order = oldest_stamp st ∷ [] }

unfoldable pub stamped_code : Block → Stamps → List Step → Code top
stamped_code blk st [] = code []
stamped_code blk st (s ∷ ss) = step_code blk (asked st) s then stamped_code blk (behind_all_stamp (uses_of s) st) ss

unfoldable pub stamped_words : Block → List ℕ
stamped_words blk = lines_words (whole_lines (code opening then stamped_code blk empty_stamps (block_steps blk)) closing)
