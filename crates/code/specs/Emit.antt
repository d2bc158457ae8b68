-- What the assembler does: words, a table of label positions, fix-ups, a pool, and the patches at the end.
use Rattle.std.specs.Prelude.{List, [], ◌∷◌, ◌++◌, map, ℕ, suc, ◌+◌, ◌*◌, ◌/◌, ◌%◌, ◌^◌, ℤ, pos, length, get_or, set}
use Rattle.arm.specs.Instr.{encode}
use Rattle.code.specs.declared.Fix.{Fix}
use Rattle.code.specs.declared.Fix.TheVariants.{B26, B19, B14, Adr21}
use Rattle.code.specs.Items.{Hole, b, b_cond, cb, tb, adr, ldr, twos, bytes, fill, label, literal, Item, ins, go, new, bind, dist}
use Rattle.code.specs.Items.{index, add, halves, pad_of, base_of}

-- the field of a distance (a literal's load has B19)
unfoldable pub kind : Hole → Fix
kind b = B26
kind (b_cond c) = B19
kind (cb s t rt) = B19
kind (tb t n rt) = B14
kind (adr rd) = Adr21
kind (ldr rt) = B19

-- what is added to a word for a distance
unfoldable pub patch : Fix → ℤ → ℕ
patch B26 z = twos (2 ^ 26) z
patch B19 z = twos (2 ^ 19) z * 32
patch B14 z = twos (2 ^ 14) z * 32
patch Adr21 z = twos (2 ^ 21) (bytes z) % 4 * 2 ^ 29 + twos (2 ^ 21) (bytes z) / 4 * 32

-- where a fix-up's distance leads: to a label, or to an entry of the pool
pub data Goal : Type 0 where
  to_label : ℕ → Goal
  to_entry : ℕ → Goal

pub record Fixup : Type 0 where
  pub at : ℕ
  pub goal : Goal
  pub field : Fix

pub record St : Type 0 where
  pub words : List ℕ
  pub labels : List ℕ  -- the table: entry l is where label l was bound last
  pub made : ℕ  -- labels given out
  pub fixes : List Fixup
  pub pool : List ℕ

-- a word, and its fix-up
unfoldable pub fixed : Hole → Goal → List ℕ → St → St
fixed h g pool s =
    record {
      words = s.words ++ (encode (fill h (pos 0)) ∷ []);
      labels = s.labels;
      made = s.made;
      fixes = s.fixes ++ (record { at = length s.words; goal = g; field = kind h } ∷ []);
      pool = pool;
    }

unfoldable pub put : Item → St → St
put (ins i) s = record { words = s.words ++ (encode i ∷ []); labels = s.labels; made = s.made; fixes = s.fixes; pool = s.pool }
put (go h (label l)) s = fixed h (to_label l) s.pool s
put (go h (literal v)) s = fixed h (to_entry (index v s.pool)) (add v s.pool) s
put new s = record { words = s.words; labels = s.labels; made = suc s.made; fixes = s.fixes; pool = s.pool }
put (bind l) s = record { words = s.words; labels = set s.labels l (length s.words); made = s.made; fixes = s.fixes; pool = s.pool }

unfoldable pub run : List Item → St → St
run [] s = s
run (i ∷ is) s = run is (put i s)

-- nothing emitted, with a table for so many labels
unfoldable pub start : List ℕ → St
start table = record { words = []; labels = table; made = 0; fixes = []; pool = [] }

-- where a fix-up leads, the pool standing at `base`
unfoldable pub lead : List ℕ → ℕ → Goal → ℕ
lead labels base (to_label l) = get_or labels l 0
lead labels base (to_entry i) = base + 2 * i

-- one patch (32 bits: none is ever lost), and all in order
abbrev pub patched_word : (Goal → ℕ) → Fixup → List ℕ → ℕ
patched_word to f ws = (get_or ws f.at 0 + patch f.field (dist (to f.goal) f.at)) % 2 ^ 32

unfoldable pub patched : (Goal → ℕ) → Fixup → List ℕ → List ℕ
patched to f ws = set ws f.at (patched_word to f ws)

unfoldable pub patch_all : (Goal → ℕ) → List Fixup → List ℕ → List ℕ
patch_all to [] ws = ws
patch_all to (f ∷ fs) ws = patch_all to fs (patched to f ws)

-- the pool behind the words, then the patches
abbrev pub pooled_words : St → List ℕ
pooled_words s = s.words ++ (pad_of (length s.words) s.pool ++ halves s.pool)

abbrev pub leads : St → Goal → ℕ
leads s = lead s.labels (base_of (length s.words) s.pool)

unfoldable pub finish : St → List ℕ
finish s = patch_all (leads s) s.fixes (pooled_words s)

-- where the fix-ups' words are
abbrev pub fixes_at : List Fixup → List ℕ
fixes_at fs = map (λ (f : Fixup). f.at) fs

-- ---- the Rust's order: "patches the literal references first and the branch distances second"
abbrev pub pick_goal : {A : Type 0} → Goal → A → A → A
pick_goal (to_label l) a c = a
pick_goal (to_entry i) a c = c

unfoldable pub entries_of : List Fixup → List Fixup
entries_of [] = []
entries_of (f ∷ fs) = pick_goal f.goal (entries_of fs) (f ∷ entries_of fs)

unfoldable pub branches_of : List Fixup → List Fixup
branches_of [] = []
branches_of (f ∷ fs) = pick_goal f.goal (f ∷ branches_of fs) (branches_of fs)

unfoldable pub finish_in_two : St → List ℕ
finish_in_two s = patch_all (leads s) (branches_of s.fixes) (patch_all (leads s) (entries_of s.fixes) (pooled_words s))

-- ---- lent room: the first elements are written, those behind stay; what does not fit is not written
abbrev pub lay : {A : Type 0} → List A → List A → List A
lay [] lent = lent
lay (x ∷ xs) [] = []
lay (x ∷ xs) (y ∷ lent) = x ∷ lay xs lent
