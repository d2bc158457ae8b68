-- Code with its jumps as structure: no label has a name, and a jump goes behind a block that it stands in.
use Rattle.std.specs.Prelude.{List, [], ◌∷◌, ◌++◌, map, ℕ, zero, suc, ◌+◌, ◌*◌, ◌<◌, ◌^◌, ℤ, pos, negsuc, length}
use Rattle.arm.specs.declared.Instr.{Instr}
use Rattle.arm.specs.Instr.{encode}
use Rattle.code.specs.Items.{Hole, b, b_cond, cb, tb, adr, ldr, fill, reach_of, Fit, Sound, Place, label, literal, Item, ins, go, new, bind, dist, index, add, halves, pad_of, base_of}

-- how many blocks stand around a piece of code, and one of them
pub data Depth : Type 0 where
  top : Depth
  under : Depth → Depth

pub data Var : Depth → Type 0 where
  inner : {n : Depth} → Var (under n)
  outer : {n : Depth} → Var n → Var (under n)

pub data Code : Depth → Type 0 where
  code : {n : Depth} → List Instr → Code n
  lit : {n : Depth} → (rt value : ℕ) → Code n  -- a literal's load
  to : {n : Depth} → Hole → Var n → Code n  -- a jump behind that block
  exit : {n : Depth} → Hole → Code n  -- a jump to the common exit
  block : {n : Depth} → Code (under n) → Code n  -- with a label behind it
  start : {n : Depth} → (rd : ℕ) → Code n → Code n  -- behind this code, its first word's address to rd
  ◌then◌ : {n : Depth} → Code n → Code n → Code n

infixr 40 ◌then◌
unfoldable pub words : {n : Depth} → Code n → ℕ
words (code is) = length is
words (lit rt v) = 1
words (to h v) = 1
words (exit h) = 1
words (block c) = words c
words (start rd c) = suc (words c)
words (c then d) = words c + words d

-- ---- the structured view: lines that need no position, by how much they pass over
pub data Line : Type 0 where
  plain : Instr → Line
  over : Hole → ℕ → Line  -- to the place behind the next n words
  back : (rd n : ℕ) → Line  -- the address n words before this one
  load : (rt value : ℕ) → Line

abbrev pub inside : {A : Type 0} {n : Depth} → A → (Var n → A) → Var (under n) → A
inside a f inner = a
inside a f (outer v) = f v

-- d: the words between the end of this code and the end of each block around it; x: those up to the exit
unfoldable pub lines : {n : Depth} → Code n → (Var n → ℕ) → ℕ → List Line
lines (code is) d x = map plain is
lines (lit rt v) d x = load rt v ∷ []
lines (to h v) d x = over h (d v) ∷ []
lines (exit h) d x = over h x ∷ []
lines (block c) d x = lines c (inside 0 d) x
lines (start rd c) d x = lines c (λ v. suc (d v)) (suc x) ++ (back rd (words c) ∷ [])
lines (c then e) d x = lines c (λ v. words e + d v) (words e + x) ++ lines e d x

abbrev pub minus : ℕ → ℤ
minus zero = pos zero
minus (suc n) = negsuc n

-- the lines' instructions from position p on, where `find` says where each literal is
unfoldable pub instrs : (ℕ → ℕ) → ℕ → List Line → List Instr
instrs find p [] = []
instrs find p (plain i ∷ ls) = i ∷ instrs find (suc p) ls
instrs find p (over h n ∷ ls) = fill h (pos (suc n)) ∷ instrs find (suc p) ls
instrs find p (back rd n ∷ ls) = fill (adr rd) (minus n) ∷ instrs find (suc p) ls
instrs find p (load rt v ∷ ls) = fill (ldr rt) (dist (find v) p) ∷ instrs find (suc p) ls

-- ---- the same code as items: labels are given out from l on, x is the exit's
-- how many labels, and the next number behind the code
unfoldable pub labels : {n : Depth} → Code n → ℕ
labels (code is) = 0
labels (lit rt v) = 0
labels (to h v) = 0
labels (exit h) = 0
labels (block c) = suc (labels c)
labels (start rd c) = suc (labels c)
labels (c then d) = labels c + labels d

-- the jumps, the addresses taken and the literals' loads: words with a distance
unfoldable pub jumps : {n : Depth} → Code n → ℕ
jumps (code is) = 0
jumps (lit rt v) = 1
jumps (to h v) = 1
jumps (exit h) = 1
jumps (block c) = jumps c
jumps (start rd c) = suc (jumps c)
jumps (c then d) = jumps c + jumps d

unfoldable pub after : {n : Depth} → Code n → ℕ → ℕ
after (code is) l = l
after (lit rt v) l = l
after (to h v) l = l
after (exit h) l = l
after (block c) l = after c (suc l)
after (start rd c) l = after c (suc l)
after (c then d) l = after d (after c l)

unfoldable pub items : {n : Depth} → Code n → (Var n → ℕ) → ℕ → ℕ → List Item
items (code is) e x l = map ins is
items (lit rt v) e x l = go (ldr rt) (literal v) ∷ []
items (to h v) e x l = go h (label (e v)) ∷ []
items (exit h) e x l = go h (label x) ∷ []
items (block c) e x l = new ∷ (items c (inside l e) x (suc l) ++ (bind l ∷ []))
items (start rd c) e x l = new ∷ bind l ∷ (items c e x (suc l) ++ (go (adr rd) (label l) ∷ []))
items (c then d) e x l = items c e x l ++ items d e x (after c l)

abbrev pub nowhere : {A : Type 0} → Var top → A
nowhere = elim [ ]

-- a block: its body, and the common exit's instructions
unfoldable pub whole_items : Code top → List Instr → List Item
whole_items c end = new ∷ (items c nowhere 0 1 ++ (bind 0 ∷ map ins end))

unfoldable pub whole_lines : Code top → List Instr → List Line
whole_lines c end = lines c nowhere 0 ++ map plain end

-- the literals in order of first use
unfoldable pub pool_in : List ℕ → List Line → List ℕ
pool_in ps [] = ps
pool_in ps (plain i ∷ ls) = pool_in ps ls
pool_in ps (over h n ∷ ls) = pool_in ps ls
pool_in ps (back rd n ∷ ls) = pool_in ps ls
pool_in ps (load rt v ∷ ls) = pool_in (add v ps) ls

unfoldable pub find_in : List Line → ℕ → ℕ
find_in ls v = base_of (length ls) (pool_in [] ls) + 2 * index v (pool_in [] ls)

-- THE WORDS of these lines
unfoldable pub lines_words : List Line → List ℕ
lines_words ls = map encode (instrs (find_in ls) 0 ls) ++ (pad_of (length ls) (pool_in [] ls) ++ halves (pool_in [] ls))

-- ---- reach: each jump of the code is in its own
unfoldable pub Near : {n : Depth} → Code n → (Var n → ℕ) → ℕ → Type 0
Near (code is) d x = Unit {0}
Near (lit rt v) d x = Unit {0}
Near (to h v) d x = suc (d v) < reach_of h
Near (exit h) d x = suc x < reach_of h
Near (block c) d x = Near c (inside 0 d) x
Near (start rd c) d x = (words c < 2 ^ 18) × Near c (λ v. suc (d v)) (suc x)
Near (c then e) d x = Near c (λ v. words e + d v) (words e + x) × Near e d x

-- the same of the tests of a bit alone, whose reach is the shortest
abbrev pub TestNear : Hole → ℕ → Type 0
TestNear b n = Unit {0}
TestNear (b_cond c) n = Unit {0}
TestNear (cb s t rt) n = Unit {0}
TestNear (tb t k rt) n = n < 2 ^ 13
TestNear (adr rd) n = Unit {0}
TestNear (ldr rt) n = Unit {0}

unfoldable pub Tests : {n : Depth} → Code n → (Var n → ℕ) → ℕ → Type 0
Tests (code is) d x = Unit {0}
Tests (lit rt v) d x = Unit {0}
Tests (to h v) d x = TestNear h (suc (d v))
Tests (exit h) d x = TestNear h (suc x)
Tests (block c) d x = Tests c (inside 0 d) x
Tests (start rd c) d x = Tests c (λ v. suc (d v)) (suc x)
Tests (c then e) d x = Tests c (λ v. words e + d v) (words e + x) × Tests e d x

-- the operands of its instructions fit
unfoldable pub Fine : {n : Depth} → Code n → Type 0
Fine (code is) = Sound is
Fine (lit rt v) = rt < 32
Fine (to h v) = Fit h
Fine (exit h) = Fit h
Fine (block c) = Fine c
Fine (start rd c) = (rd < 32) × Fine c
Fine (c then d) = Fine c × Fine d
