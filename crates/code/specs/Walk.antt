-- ONE WALK OVER THE PATCHES: the words with a distance, the words before the walk, and the words behind each patch.
use Rattle.std.specs.Prelude.{◌≡◌, Bool, true, false, List, [], ◌∷◌, ◌++◌, map, ℕ, suc, ◌<◌, ◌≤◌, pos, length, get_or, set, take, drop}
use Rattle.arm.specs.declared.Instr.{Instr}
use Rattle.arm.specs.Instr.{encode}
use Rattle.code.specs.Items.{pick, adr, ldr, fill, halves, pad_of, Rise}
use Rattle.code.specs.Tree.{Line, plain, over, back, load, pool_in, lines_words}
use Rattle.code.specs.Emit.{lay}

-- a word that names a place by its distance: a literal, or a label (branches, and addresses taken)
abbrev pub names_literal : Line → Bool
names_literal (plain i) = false
names_literal (over h n) = false
names_literal (back rd n) = false
names_literal (load rt v) = true

abbrev pub names_label : Line → Bool
names_label (plain i) = false
names_label (over h n) = true
names_label (back rd n) = true
names_label (load rt v) = false

abbrev pub names_place : Line → Bool
names_place l = pick (names_literal l) true (names_label l)

-- the positions of the lines of a kind, the first line's being p
unfoldable pub lines_at : (Line → Bool) → ℕ → List Line → List ℕ
lines_at kind p [] = []
lines_at kind p (l ∷ ls) = pick (kind l) (p ∷ lines_at kind (suc p) ls) (lines_at kind (suc p) ls)

-- WHERE THE PATCHES ARE, in the order of the walk
unfoldable pub patches_of : List Line → List ℕ
patches_of ls = lines_at names_place 0 ls

-- ---- before the walk: every distance is 0, and the pool stands behind the words
abbrev pub unpatched : Line → Instr
unpatched (plain i) = i
unpatched (over h n) = fill h (pos 0)
unpatched (back rd n) = fill (adr rd) (pos 0)
unpatched (load rt v) = fill (ldr rt) (pos 0)

unfoldable pub unpatched_words : List Line → List ℕ
unpatched_words ls = map (λ l. encode (unpatched l)) ls ++ (pad_of (length ls) (pool_in [] ls) ++ halves (pool_in [] ls))

-- ---- the walk: patches one after the other, each the final word in its place
unfoldable pub completed_at : List ℕ → (final ws : List ℕ) → List ℕ
completed_at [] final ws = ws
completed_at (p ∷ ps) final ws = completed_at ps final (set ws p (get_or final p 0))

-- THE WORDS BEHIND THE FIRST n PATCHES, or behind all where there are fewer
unfoldable pub walked_words : ℕ → List Line → List ℕ
walked_words n ls = completed_at (take n (patches_of ls)) (lines_words ls) (unpatched_words ls)

-- how many words stand up to patch number m, its own among them
abbrev pub up_to : List Line → ℕ → ℕ
up_to ls m = suc (get_or (patches_of ls) m 0)

-- "patch in one walk by rising word position: after each patch the words up to it are final, those behind it as before the walk. Every
-- word .. remains". Of words `ws` behind the first n patches, in a room that held `lent` and is large enough. No word is patched twice,
-- and none of the pool.
pub record OneWalk (ls : List Line) (n : ℕ) (lent ws : List ℕ) : Type 0 where
  pub rising : Rise 0 (length ls) (patches_of ls)
  pub first : n ≡ 0 → ws ≡ lay (unpatched_words ls) lent
  pub final : (m : ℕ) → n ≡ suc m → m < length (patches_of ls) → take (up_to ls m) ws ≡ take (up_to ls m) (lines_words ls)
  pub before : (m : ℕ) → n ≡ suc m → m < length (patches_of ls) → drop (up_to ls m) ws ≡ drop (up_to ls m) (lay (unpatched_words ls) lent)
  pub all : length (patches_of ls) ≤ n → ws ≡ lay (lines_words ls) lent
