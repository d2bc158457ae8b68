-- Code as it is emitted: instructions, jumps to labels, loads of literals, labels. And the words that it stands for.
use Rattle.std.specs.Prelude.{◌≡◌, Bool, true, false, List, [], ◌∷◌, ◌++◌, map, ℕ, zero, suc, ◌+◌, ◌-◌, ◌*◌, ◌/◌, ◌%◌, ◌^◌, ◌<◌, ◌≤◌, eqb, ℤ, pos, negsuc, length}
use Rattle.std.proofs.Math.IntN.{sub_ℕ}
use Rattle.arm.specs.declared.Size.{Size}
use Rattle.arm.specs.declared.Test.{Test}
use Rattle.arm.specs.declared.Instr.{Instr}
use Rattle.arm.specs.Instr.{encode, Carried}

abbrev pub pick : {A : Type 0} → Bool → A → A → A
pick true a b = a
pick false a b = b

-- an instruction that names a place by its distance, without the distance
pub data Hole : Type 0 where
  b : Hole
  b_cond : (cond : ℕ) → Hole
  cb : Size → Test → (rt : ℕ) → Hole
  tb : Test → (bit rt : ℕ) → Hole
  adr : (rd : ℕ) → Hole
  ldr : (rt : ℕ) → Hole

-- two's complement in so many values
abbrev pub twos : ℕ → ℤ → ℕ
twos values (pos n) = n
twos values (negsuc n) = values - suc n

-- four bytes a word
abbrev pub bytes : ℤ → ℤ
bytes (pos n) = pos (4 * n)
bytes (negsuc n) = negsuc (4 * n + 3)

-- with its distance in words, negative behind
abbrev pub fill : Hole → ℤ → Instr
fill b z = Instr.Branch (twos (2 ^ 26) z)
fill (b_cond c) z = Instr.CondBranch (twos (2 ^ 19) z) c
fill (cb s t rt) z = Instr.CompareBranch s t (twos (2 ^ 19) z) rt
fill (tb t n rt) z = Instr.TestBranch t n (twos (2 ^ 14) z) rt
fill (adr rd) z = Instr.Adr (twos (2 ^ 21) (bytes z)) rd
fill (ldr rt) z = Instr.LoadLiteral (twos (2 ^ 19) z) rt

-- distances from minus this to one below it reach
abbrev pub reach_of : Hole → ℕ
reach_of b = 2 ^ 25
reach_of (b_cond c) = 2 ^ 18
reach_of (cb s t rt) = 2 ^ 18
reach_of (tb t n rt) = 2 ^ 13
reach_of (adr rd) = 2 ^ 18
reach_of (ldr rt) = 2 ^ 18

-- the registers, conditions and bit numbers fit their fields
abbrev pub Fit : Hole → Type 0
Fit b = Unit {0}
Fit (b_cond c) = c < 16
Fit (cb s t rt) = rt < 32
Fit (tb t n rt) = (n < 64) × (rt < 32)
Fit (adr rd) = rd < 32
Fit (ldr rt) = rt < 32

abbrev pub Within : ℕ → ℤ → Type 0
Within half (pos n) = n < half
Within half (negsuc n) = n < half

-- where a jump goes: to a label, by its number, or to the literal of this value
pub data Place : Type 0 where
  label : ℕ → Place
  literal : ℕ → Place

pub data Item : Type 0 where
  ins : Instr → Item
  go : Hole → Place → Item
  new : Item  -- a label's number is given out
  bind : ℕ → Item  -- the label stands here

-- from `here` to `there`, in words
abbrev pub dist : ℕ → ℕ → ℤ
dist there here = sub_ℕ there here

-- ---- the reader's view: each instruction with the true distance of its label
-- the instructions from position p on, where `at` says where each place is
unfoldable pub resolve : (Place → ℕ) → ℕ → List Item → List Instr
resolve at p [] = []
resolve at p (ins i ∷ is) = i ∷ resolve at (suc p) is
resolve at p (go h t ∷ is) = fill h (dist (at t) p) ∷ resolve at (suc p) is
resolve at p (new ∷ is) = resolve at p is
resolve at p (bind l ∷ is) = resolve at p is

-- the number of words
unfoldable pub size : List Item → ℕ
size [] = 0
size (ins i ∷ is) = suc (size is)
size (go h t ∷ is) = suc (size is)
size (new ∷ is) = size is
size (bind l ∷ is) = size is

-- where label l is bound first, p being the first item's position
unfoldable pub place_of : ℕ → ℕ → List Item → ℕ
place_of l p [] = p
place_of l p (ins i ∷ is) = place_of l (suc p) is
place_of l p (go h t ∷ is) = place_of l (suc p) is
place_of l p (new ∷ is) = place_of l p is
place_of l p (bind m ∷ is) = pick (eqb l m) p (place_of l p is)

-- is label l bound?
unfoldable pub binds : ℕ → List Item → Bool
binds l [] = false
binds l (ins i ∷ is) = binds l is
binds l (go h t ∷ is) = binds l is
binds l (new ∷ is) = binds l is
binds l (bind m ∷ is) = pick (eqb l m) true (binds l is)

-- ---- the literal pool: each value once, in order of first use
unfoldable pub index : ℕ → List ℕ → ℕ
index v [] = 0
index v (x ∷ xs) = pick (eqb v x) 0 (suc (index v xs))

unfoldable pub add : ℕ → List ℕ → List ℕ
add v [] = v ∷ []
add v (x ∷ xs) = pick (eqb v x) (x ∷ xs) (x ∷ add v xs)

unfoldable pub pool_of : List ℕ → List Item → List ℕ
pool_of ps [] = ps
pool_of ps (ins i ∷ is) = pool_of ps is
pool_of ps (go h (label l) ∷ is) = pool_of ps is
pool_of ps (go h (literal v) ∷ is) = pool_of (add v ps) is
pool_of ps (new ∷ is) = pool_of ps is
pool_of ps (bind l ∷ is) = pool_of ps is

-- low word first
unfoldable pub halves : List ℕ → List ℕ
halves [] = []
halves (v ∷ vs) = v % 2 ^ 32 ∷ v / 2 ^ 32 ∷ halves vs

-- a nop where a pool follows code of odd length
unfoldable pub pad_of : ℕ → List ℕ → List ℕ
pad_of n [] = []
pad_of n (v ∷ vs) = pick (eqb (n % 2) 0) [] (encode Instr.Nop ∷ [])

-- the pool's first word behind code of n words
unfoldable pub base_of : ℕ → List ℕ → ℕ
base_of n pool = n + length (pad_of n pool)

-- where each place of these items is
unfoldable pub places_of : List Item → Place → ℕ
places_of is (label l) = place_of l 0 is
places_of is (literal v) = base_of (size is) (pool_of [] is) + 2 * index v (pool_of [] is)

-- THE WORDS of these items
unfoldable pub listing : List Item → List ℕ
listing is = map encode (resolve (places_of is) 0 is) ++ (pad_of (size is) (pool_of [] is) ++ halves (pool_of [] is))

-- ---- what makes a list of items well formed
-- each label is bound at most once
unfoldable pub Once : List Item → Type 0
Once [] = Unit {0}
Once (ins i ∷ is) = Once is
Once (go h t ∷ is) = Once is
Once (new ∷ is) = Once is
Once (bind l ∷ is) = (binds l is ≡ false) × Once is

-- each label that the items go to is bound in `all`
unfoldable pub Met : List Item → List Item → Type 0
Met all [] = Unit {0}
Met all (ins i ∷ is) = Met all is
Met all (go h (label l) ∷ is) = (binds l all ≡ true) × Met all is
Met all (go h (literal v) ∷ is) = Met all is
Met all (new ∷ is) = Met all is
Met all (bind l ∷ is) = Met all is

-- labels are numbers below n
unfoldable pub Below : ℕ → List Item → Type 0
Below n [] = Unit {0}
Below n (ins i ∷ is) = Below n is
Below n (go h t ∷ is) = Below n is
Below n (new ∷ is) = Below n is
Below n (bind l ∷ is) = (l < n) × Below n is

-- each distance reaches
unfoldable pub Reach : (Place → ℕ) → ℕ → List Item → Type 0
Reach at p [] = Unit {0}
Reach at p (ins i ∷ is) = Reach at (suc p) is
Reach at p (go h t ∷ is) = Within (reach_of h) (dist (at t) p) × Reach at (suc p) is
Reach at p (new ∷ is) = Reach at p is
Reach at p (bind l ∷ is) = Reach at p is

-- ---- positions: from p on, each behind the one before, below q
abbrev pub Rise : (p q : ℕ) → List ℕ → Type 0
Rise p q [] = p ≤ q
Rise p q (x ∷ xs) = (p ≤ x) × Rise (suc x) q xs

-- each instruction is one that a word carries
unfoldable pub Sound : List Instr → Type 0
Sound [] = Unit {0}
Sound (i ∷ is) = Carried i × Sound is
