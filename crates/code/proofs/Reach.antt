-- Every distance reaches, where the block is short enough and each test of a bit is near its label.
use mathlib.Core.Path.{◌≡◌, refl, sym, ap, subst, ◌∙◌}
use mathlib.Core.Bool.{Bool, true, false}
use mathlib.Core.List.{List, [], ◌∷◌, ◌++◌, map}
use Prim.Native.Nat.{ℕ, zero, suc, ◌+◌, ◌-◌, ◌*◌, ◌%◌, ◌^◌, ◌<◌, ◌≤◌}
use native.Mathlib.Omega.{arith}
use lib.Dec.{eqb}
use lib.IntN.{ℤ, pos, negsuc}
use lib.ListN.{length}
use borrow.Author.Tests.{le-ltb}
use Rattle.arm.specs.declared.Size.{Size}
use Rattle.arm.specs.declared.Size.TheVariants.{W, X}
use Rattle.arm.specs.declared.Test.{Test}
use Rattle.arm.specs.declared.Test.TheVariants.{Nonzero as nonzero}
use Rattle.arm.specs.declared.Instr.{Instr}
use Rattle.arm.specs.Instr.{sf, test_op, encode, Carried}
use Rattle.arm.specs.declared.Test.TheVariants.{Zero as is_zero}
use Rattle.code.specs.Items.{pick, Hole, b, b_cond, cb, tb, adr, ldr, twos, bytes, fill, reach_of, Fit, Within, Sound, Place, label}
use Rattle.code.specs.Items.{literal, Item, ins, go, new, bind, dist, size, index, pool_of, halves, pad_of, base_of, places_of, Reach}
use Rattle.code.specs.Tree.{Depth, top, Var, Code, code, lit, to, exit, block, start, ◌then◌, words, inside, lines, minus, labels}
use Rattle.code.specs.Tree.{after, items, nowhere, whole_items, whole_lines, Line, plain, back, instrs, pool_in, find_in, lines_words}
use Rattle.code.specs.Tree.{Near, TestNear, Tests, Fine}
use Rattle.code.specs.Emit.{run, finish}
use Rattle.code.specs.Emit.{start as begin}
use Rattle.code.proofs.Emit.{Placed}
use Rattle.code.proofs.Tree.{ahead, behind, each, placed-split, items-size, instrs-append, lines-length, whole-placed, whole-size}
use Rattle.code.proofs.Tree.{whole_length, finish-lines}

-- ---- a distance that reaches is carried by its field
sf_lt : (z : Size) → sf z < 2
sf_lt W = omega arith
sf_lt X = omega arith

test_lt : (t : Test) → test_op t < 2
test_lt is_zero = omega arith
test_lt nonzero = omega arith

twos_lt : (half : ℕ) (z : ℤ) → Within half z → twos (2 * half) z < 2 * half
twos_lt half (pos n) h = omega arith
twos_lt half (negsuc n) h = omega arith

bytes_in : (z : ℤ) → Within (2 ^ 18) z → Within (2 ^ 20) (bytes z)
bytes_in (pos n) h = omega arith
bytes_in (negsuc n) h = omega arith

pub carried : (h : Hole) (z : ℤ) → Within (reach_of h) z → Fit h → Carried (fill h z)
carried b z w f = omega (arith, twos_lt (2 ^ 25) z w)
carried (b_cond c) z w f = omega (arith, twos_lt (2 ^ 18) z w)
carried (cb s t rt) z w f = omega (arith, twos_lt (2 ^ 18) z w, sf_lt s, test_lt t)
carried (tb t n rt) z w f = omega (arith, twos_lt (2 ^ 13) z w, test_lt t)
carried (adr rd) z w f = omega (arith, twos_lt (2 ^ 20) (bytes z) (bytes_in z w))
carried (ldr rt) z w f = omega (arith, twos_lt (2 ^ 18) z w)

-- ---- from the tests alone, in a short block
in_reach : (h : Hole) (n : ℕ) → TestNear h n → n < 2 ^ 18 → n < reach_of h
in_reach b n t l = omega arith
in_reach (b_cond c) n t l = l
in_reach (cb s k rt) n t l = l
in_reach (tb k i rt) n t l = t
in_reach (adr rd) n t l = l
in_reach (ldr rt) n t l = l

pub near_all : {n : Depth} (c : Code n) (d : Var n → ℕ) (x : ℕ) → Tests c d x → ((v : Var n) → d v + words c < 2 ^ 18) → x + words c < 2 ^ 18 → Near c d x
unfolding Tests Near words
near_all (code is) d x t f g = tt
near_all (lit rt v) d x t f g = tt
near_all (to h v) d x t f g = in_reach h (suc (d v)) t (omega (arith, f v))
near_all (exit h) d x t f g = in_reach h (suc x) t (omega arith)
near_all (block c) d x t f g = near_all c (inside 0 d) x t (each (λ v. inside 0 d v + words c < 2 ^ 18) (omega arith) f) g
near_all (start rd c) d x t f g = (omega arith, near_all c (λ v. suc (d v)) (suc x) t (λ v. omega (arith, f v)) (omega arith))
near_all (c then e) d x t f g = (near_all c (λ v. words e + d v) (words e + x) t.0 (λ v. omega (arith, f v)) (omega arith), near_all e d x t.1 (λ v. omega (arith, f v)) (omega arith))

-- ---- code that is near reaches
reach-append : (at : Place → ℕ) (p q : ℕ) (xs ys : List Item) → q ≡ p + size xs → Reach at p xs → Reach at q ys → Reach at p (xs ++ ys)
unfolding Reach size
reach-append at p q [] ys e h k = subst (λ n. Reach at n ys) (e ∙ omega arith) k
reach-append at p q (ins i ∷ xs) ys e h k = reach-append at (suc p) q xs ys (omega arith) h k
reach-append at p q (go g t ∷ xs) ys e h k = (h.0, reach-append at (suc p) q xs ys (omega arith) h.1 k)
reach-append at p q (new ∷ xs) ys e h k = reach-append at p q xs ys e h k
reach-append at p q (bind l ∷ xs) ys e h k = reach-append at p q xs ys e h k

reach-ins : (at : Place → ℕ) (p : ℕ) (is : List Instr) → Reach at p (map ins is)
unfolding Reach
reach-ins at p [] = tt
reach-ins at p (i ∷ is) = reach-ins at (suc p) is

within-minus : (n half : ℕ) → n < half → Within half (minus n)
within-minus zero half h = h
within-minus (suc n) half h = omega arith

-- the pool stands behind all, and ends below `top`
module _ (at : Place → ℕ) (all : ℕ) (far : (v : ℕ) → all ≤ at (literal v)) (short : (v : ℕ) → at (literal v) < 2 ^ 18) where
  literal_in : (p v : ℕ) → p < all → Within (2 ^ 18) (dist (at (literal v)) p)
  literal_in p v h = rw (le-ltb (at (literal v)) p (omega (arith, far v))) (omega (arith, short v))

  pub reaches : {n : Depth} (c : Code n) (e : Var n → ℕ) (x l p : ℕ) (d : Var n → ℕ) (y : ℕ) → Near c d y → p + words c ≤ all → Placed (λ k. at (label k)) p (items c e x l)
      → ((v : Var n) → at (label (e v)) ≡ p + words c + d v) → at (label x) ≡ p + words c + y → Reach at p (items c e x l)
  unfolding items words Near Reach Placed
  reaches (code is) e x l p d y m w h f g = reach-ins at p is
  reaches (lit rt v) e x l p d y m w h f g = (literal_in p v (omega arith), tt)
  reaches (to k v) e x l p d y m w h f g = (subst (Within (reach_of k)) (sym (ahead (at (label (e v))) (d v) p (f v ∙ omega arith))) m, tt)
  reaches (exit k) e x l p d y m w h f g = (subst (Within (reach_of k)) (sym (ahead (at (label x)) y p (g ∙ omega arith))) m, tt)
  reaches (block c) e x l p d y m w h f g =
      let is : List Item = items c (inside l e) x (suc l) in
      let q : p + words c ≡ p + size is = ap (λ k. p + k) (sym (items-size c (inside l e) x (suc l))) in
      let r = placed-split (λ k. at (label k)) p (p + words c) is (bind l ∷ []) q h in
      reach-append at p (p + words c) is (bind l ∷ []) q
      (reaches c (inside l e) x (suc l) p (inside 0 d) y m w r.0 (each (λ v. at (label (inside l e v)) ≡ p + words c + inside 0 d v) (r.1.0 ∙ omega arith) f) g) tt
  reaches (start rd c) e x l p d y m w h f g =
      let is : List Item = items c e x (suc l) in
      let q : p + words c ≡ p + size is = ap (λ k. p + k) (sym (items-size c e x (suc l))) in
      let r = placed-split (λ k. at (label k)) p (p + words c) is (go (adr rd) (label l) ∷ []) q h.1 in
      reach-append at p (p + words c) is (go (adr rd) (label l) ∷ []) q
      (reaches c e x (suc l) p (λ v. suc (d v)) (suc y) m.1 (omega arith) r.0 (λ v. f v ∙ omega arith) (g ∙ omega arith))
      (subst (Within (2 ^ 18)) (sym (behind (at (label l)) (p + words c) (words c) (ap (λ k. k + words c) (sym h.0)))) (within-minus (words c) (2 ^ 18) m.0), tt)
  reaches (c then k) e x l p d y m w h f g =
      let is : List Item = items c e x l in
      let js : List Item = items k e x (after c l) in
      let q : p + words c ≡ p + size is = ap (λ m. p + m) (sym (items-size c e x l)) in
      let r = placed-split (λ m. at (label m)) p (p + words c) is js q h in
      reach-append at p (p + words c) is js q
      (reaches c e x l p (λ v. words k + d v) (words k + y) m.0 (omega arith) r.0 (λ v. f v ∙ omega arith) (g ∙ omega arith))
      (reaches k e x (after c l) (p + words c) d y m.1 (omega arith) r.1 (λ v. f v ∙ omega arith) (g ∙ omega arith))

pub index_le : (v : ℕ) (ps : List ℕ) → index v ps ≤ length ps
unfolding index
index_le v [] = omega arith
index_le v (x ∷ xs) = by (index_le v xs) (eqb v x)
  where
    by : index v xs ≤ length xs → (t : Bool) → pick t 0 (suc (index v xs)) ≤ suc (length xs)
    by h true = omega arith
    by h false = omega arith

near-places : (at : Place → ℕ) (c : Code top) (end : List Instr) (pool : List ℕ) → Tests c nowhere 0 → words c + length end + 1 + 2 * length pool < 2 ^ 18
    → ((v : ℕ) → words c + length end ≤ at (literal v)) → ((v : ℕ) → at (literal v) ≤ words c + length end + 1 + 2 * length pool) → Placed (λ l. at (label l)) 0 (whole_items c end) → Reach at 0 (whole_items c end)
unfolding whole_items Reach Placed
near-places at c end pool t s far near h =
    let q : words c ≡ 0 + size (items c nowhere 0 1) = sym (items-size c nowhere 0 1) ∙ omega arith in
    let r = placed-split (λ k. at (label k)) 0 (words c) (items c nowhere 0 1) (bind 0 ∷ map ins end) q h in
    reach-append at 0 (words c) (items c nowhere 0 1) (bind 0 ∷ map ins end) q
    (reaches at (words c + length end) far (λ v. omega (arith, near v)) c nowhere 0 1 0 nowhere 0 (near_all c nowhere 0 t (elim [ ]) (omega arith)) (omega arith) r.0 (elim [ ]) (r.1.0 ∙ omega arith))
    (reach-ins at (words c) end)

-- two words a literal
pub halves-length : (xs : List ℕ) → length (halves xs) ≡ 2 * length xs
unfolding halves
halves-length [] = refl
halves-length (x ∷ xs) = omega (arith, halves-length xs)

pub pad_le : (n : ℕ) (ps : List ℕ) → length (pad_of n ps) ≤ 1
unfolding pad_of
pad_le n [] = omega arith
pad_le n (v ∷ vs) = by (eqb (n % 2) 0)
  where
    by : (t : Bool) → length (pick t [] (encode Instr.Nop ∷ [])) ≤ 1
    by true = omega arith
    by false = omega arith

-- IN A SHORT BLOCK WHOSE TESTS ARE NEAR, EVERY DISTANCE REACHES
pub whole-reach : (c : Code top) (end : List Instr) → Tests c nowhere 0 → words c + length end + 1 + 2 * length (pool_of [] (whole_items c end)) < 2 ^ 18 → Reach (places_of (whole_items c end)) 0 (whole_items c end)
unfolding places_of base_of
whole-reach c end t s =
    let is : List Item = whole_items c end in
    let pool : List ℕ = pool_of [] is in
    let n : size is ≡ words c + length end = whole-size c end in
    near-places (places_of is) c end pool t s (λ v. omega (arith, n)) (λ v. omega (arith, n, pad_le (size is) pool, index_le v pool)) (whole-placed c end)

-- ---- so each instruction is carried by its word
sound-append : (xs ys : List Instr) → Sound xs → Sound ys → Sound (xs ++ ys)
unfolding Sound
sound-append [] ys h k = k
sound-append (x ∷ xs) ys h k = (h.0, sound-append xs ys h.1 k)

sound-plain : (find : ℕ → ℕ) (p : ℕ) (is : List Instr) → Sound is → Sound (instrs find p (map plain is))
unfolding Sound instrs
sound-plain find p [] h = tt
sound-plain find p (i ∷ is) h = (h.0, sound-plain find (suc p) is h.1)

-- the pool stands behind `all`, near enough
module _ (find : ℕ → ℕ) (all : ℕ) (far : (v : ℕ) → all ≤ find v) (short : (v : ℕ) → find v < 2 ^ 18) where
  pub sound : {n : Depth} (c : Code n) (p : ℕ) (d : Var n → ℕ) (x : ℕ) → Fine c → Near c d x → p + words c ≤ all → Sound (instrs find p (lines c d x))
  unfolding Fine Near words lines instrs Sound
  sound (code is) p d x f m w = sound-plain find p is f
  sound (lit rt v) p d x f m w = (carried (ldr rt) (dist (find v) p) (rw (le-ltb (find v) p (omega (arith, far v))) (omega (arith, short v))) f, tt)
  sound (to h v) p d x f m w = (carried h (pos (suc (d v))) m f, tt)
  sound (exit h) p d x f m w = (carried h (pos (suc x)) m f, tt)
  sound (block c) p d x f m w = sound c p (inside 0 d) x f m w
  sound (start rd c) p d x f m w =
      subst Sound (sym (instrs-append find p (p + words c) (lines c (λ v. suc (d v)) (suc x)) (back rd (words c) ∷ []) (ap (λ k. p + k) (sym (lines-length c (λ v. suc (d v)) (suc x))))))
      (sound-append (instrs find p (lines c (λ v. suc (d v)) (suc x))) (fill (adr rd) (minus (words c)) ∷ []) (sound c p (λ v. suc (d v)) (suc x) f.1 m.1 (omega arith)) (carried (adr rd) (minus (words c)) (within-minus (words c) (2 ^ 18) m.0) f.0, tt))
  sound (c then k) p d x f m w =
      subst Sound (sym (instrs-append find p (p + words c) (lines c (λ v. words k + d v) (words k + x)) (lines k d x) (ap (λ n. p + n) (sym (lines-length c (λ v. words k + d v) (words k + x))))))
      (sound-append (instrs find p (lines c (λ v. words k + d v) (words k + x))) (instrs find (p + words c) (lines k d x)) (sound c p (λ v. words k + d v) (words k + x) f.0 m.0 (omega arith)) (sound k (p + words c) d x f.1 m.1 (omega arith)))

pub whole-sound : (c : Code top) (end : List Instr) → Fine c → Sound end → Tests c nowhere 0 → length (whole_lines c end) + 1 + 2 * length (pool_in [] (whole_lines c end)) < 2 ^ 18 → Sound (instrs (find_in (whole_lines c end)) 0 (whole_lines c end))
unfolding find_in base_of whole_lines
whole-sound c end f s t l =
    let ls : List Line = whole_lines c end in
    let n : length ls ≡ words c + length end = sym (whole_length c end) ∙ whole-size c end in
    let far : (v : ℕ) → words c + length end ≤ find_in ls v = λ v. omega (arith, n) in
    let near : (v : ℕ) → find_in ls v < 2 ^ 18 = λ v. omega (arith, n, pad_le (length ls) (pool_in [] ls), index_le v (pool_in [] ls)) in
    split ls far near n
  where
    split : (ls : List Line) → ((v : ℕ) → words c + length end ≤ find_in ls v) → ((v : ℕ) → find_in ls v < 2 ^ 18) → length (whole_lines c end) ≡ words c + length end → Sound (instrs (find_in ls) 0 (whole_lines c end))
    split ls far near n =
        subst Sound (sym (instrs-append (find_in ls) 0 (words c) (lines c nowhere 0) (map plain end) (sym (lines-length c nowhere 0) ∙ omega arith)))
        (sound-append (instrs (find_in ls) 0 (lines c nowhere 0)) (instrs (find_in ls) (words c) (map plain end)) (sound (find_in ls) (words c + length end) far near c 0 nowhere 0 f (near_all c nowhere 0 t (elim [ ]) (omega arith)) (omega arith)) (sound-plain (find_in ls) (words c) end s))

-- EMITTED AND PATCHED ARE THE LINES' WORDS, for any structured code whose operands fit, whose tests are near, and that is short
pub emitted : (table : List ℕ) (c : Code top) (end : List Instr) → labels c < length table → Fine c → Sound end → Tests c nowhere 0
    → length (whole_lines c end) + 1 + 2 * length (pool_in [] (whole_lines c end)) < 2 ^ 18 → finish (run (whole_items c end) (begin table)) ≡ lines_words (whole_lines c end)
emitted table c end h f s t l = finish-lines table c end h (whole-sound c end f s t l)
