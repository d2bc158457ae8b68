-- The register cache: which of the eight host registers holds a guest register, and the instructions that this costs (RegCache in the Rust).
use Rattle.std.specs.Prelude.{Bool, true, false, not, ◌&&◌, List, [], ◌∷◌, ◌++◌, ℕ, suc, ◌+◌, ◌*◌, ◌%◌, eqb, ltb, get_or, set}
use Rattle.arm.specs.declared.Instr.{Instr}
use Rattle.block.specs.declared.Layout.{Layout}
use Rattle.code.specs.Items.{pick}
use Rattle.lowering.specs.declared.RegCache.{RegCache}
use Rattle.lowering.specs.Instrs.{CPU, mov, ldr, str}

abbrev pub POOL : List ℕ
POOL = 5 ∷ 6 ∷ 7 ∷ 8 ∷ 14 ∷ 15 ∷ 16 ∷ 17 ∷ []

abbrev pub host : ℕ → ℕ
host i = get_or POOL i 0

-- what a free slot holds
abbrev pub FREE : ℕ
FREE = 16

abbrev pub empty_cache : RegCache
empty_cache =
    record {
      guest = FREE ∷ FREE ∷ FREE ∷ FREE ∷ FREE ∷ FREE ∷ FREE ∷ FREE ∷ [];
      dirty = false ∷ false ∷ false ∷ false ∷ false ∷ false ∷ false ∷ false ∷ [];
      order = 0 ∷ 1 ∷ 2 ∷ 3 ∷ 4 ∷ 5 ∷ 6 ∷ 7 ∷ [];
    }

abbrev pub off_reg : Layout → ℕ → ℕ
off_reg lay r = lay.regs + 4 * r

-- ---- the choice of a slot
-- the first position of a number, or the list's length
unfoldable pub position : ℕ → List ℕ → ℕ
position r [] = 0
position r (g ∷ gs) = pick (eqb g r) 0 (suc (position r gs))

-- the least recently used is the first of the order; modulo 8, so that it is a slot for any numbers (`Recency.first`: it changes nothing)
unfoldable pub oldest : RegCache → ℕ
oldest rc = get_or rc.order 0 0 % 8

abbrev pub is_held : RegCache → ℕ → Bool
is_held rc r = ltb (position r rc.guest) 8

-- a free one, else the least recently used
unfoldable pub chosen : RegCache → ℕ
chosen rc = pick (is_held rc FREE) (position FREE rc.guest) (oldest rc)

-- what is given up is written back if changed
unfoldable pub spill : Layout → RegCache → List Instr
spill lay rc =
    pick (is_held rc FREE) []
    (pick (get_or rc.dirty (oldest rc) false) (str (host (oldest rc)) CPU (off_reg lay (get_or rc.guest (oldest rc) 0)) ∷ []) [])

-- ---- a use of guest register r
-- slot i moves to the end, the others stay in their order
unfoldable pub latest : ℕ → List ℕ → List ℕ
latest i [] = []
latest i (x ∷ xs) = pick (eqb x i) (xs ++ (i ∷ [])) (x ∷ latest i xs)

abbrev pub touch : ℕ → RegCache → RegCache
touch i rc = record { guest = rc.guest; dirty = rc.dirty; order = latest i rc.order }

abbrev pub assign : (i r : ℕ) → RegCache → RegCache
assign i r rc = record { guest = set rc.guest i r; dirty = set rc.dirty i false; order = latest i rc.order }

abbrev pub mark : ℕ → RegCache → RegCache
mark i rc = record { guest = rc.guest; dirty = set rc.dirty i true; order = rc.order }

-- the slot that r has or gets, and the cache with r in it
unfoldable pub slot_for : RegCache → ℕ → ℕ
slot_for rc r = pick (is_held rc r) (position r rc.guest) (chosen rc)

unfoldable pub seated : RegCache → ℕ → RegCache
seated rc r = pick (is_held rc r) (touch (position r rc.guest) rc) (assign (chosen rc) r rc)

-- w(t) = guest register r
unfoldable pub ld_reg : Layout → RegCache → (t r : ℕ) → List Instr
ld_reg lay rc t r =
    pick (is_held rc r) [] (spill lay rc ++ (ldr (host (chosen rc)) CPU (off_reg lay r) ∷ [])) ++ (mov t (host (slot_for rc r)) ∷ [])

-- guest register r = w(t)
unfoldable pub st_reg : Layout → RegCache → (t r : ℕ) → List Instr
st_reg lay rc t r = pick (is_held rc r) [] (spill lay rc) ++ (mov (host (slot_for rc r)) t ∷ [])

unfoldable pub stored : RegCache → ℕ → RegCache
stored rc r = mark (slot_for rc r) (seated rc r)

-- ---- all slots, in pool order
unfoldable pub flush_from : Layout → (hosts guests : List ℕ) → List Bool → List Instr
flush_from lay [] gs ds = []
flush_from lay (h ∷ hs) [] ds = []
flush_from lay (h ∷ hs) (g ∷ gs) [] = []
flush_from lay (h ∷ hs) (g ∷ gs) (d ∷ ds) = pick (d && not (eqb g FREE)) (str h CPU (off_reg lay g) ∷ flush_from lay hs gs ds) (flush_from lay hs gs ds)

-- the changed ones are written back, and stay marked
unfoldable pub flush : Layout → RegCache → List Instr
flush lay rc = flush_from lay POOL rc.guest rc.dirty

unfoldable pub reload_from : Layout → (hosts guests : List ℕ) → List Instr
reload_from lay [] gs = []
reload_from lay (h ∷ hs) [] = []
reload_from lay (h ∷ hs) (g ∷ gs) = pick (eqb g FREE) (reload_from lay hs gs) (ldr h CPU (off_reg lay g) ∷ reload_from lay hs gs)

-- the held ones are loaded again
unfoldable pub reload : Layout → RegCache → List Instr
reload lay rc = reload_from lay POOL rc.guest
