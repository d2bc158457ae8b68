-- The items of structured code: their listing is the lines' instructions, and they are well formed. By induction over the code.
use mathlib.Core.Path.{◌≡◌, refl, sym, ap, ap₂, subst, fun_ext, ◌∙◌}
use mathlib.Core.Logic.{◌≢◌}
use mathlib.Core.Bool.{Bool, true, false}
use mathlib.Core.List.{List, [], ◌∷◌, ◌++◌, map, append-nil, append_assoc}
use Prim.Native.Nat.{ℕ, zero, suc, ◌+◌, ◌-◌, ◌*◌, ◌/◌, ◌%◌, ◌^◌, ◌<◌, ◌≤◌}
use native.Mathlib.Omega.{arith}
use lib.Dec.{eqb, ltb}
use lib.IntN.{ℤ, pos, negsuc, sub_ℕ}
use lib.ListN.{length, get_or, set, length-append, length-map, replicate, length-replicate}
use borrow.Author.Tests.{eqb-true, eqb-false, eq-eqb, ne_eqb, lt-ltb, le-ltb}
use Rattle.arm.specs.declared.Instr.{Instr}
use Rattle.arm.specs.Instr.{encode}
use Rattle.code.specs.Items.{pick, Hole, adr, ldr, fill, Place, label, literal, Item, ins, go, new, bind, dist, resolve, size, place_of, binds, index, add, pool_of, halves, pad_of, base_of, places_of, listing, Once, Met, Below, Sound}
use Rattle.code.specs.Emit.{run, finish}
use Rattle.code.specs.Emit.{start as begin}
use Rattle.code.specs.Tree.{Depth, top, under, Var, inner, outer, Code, code, lit, to, exit, block, start, ◌then◌, words, Line, plain, over, back, load, inside, lines, minus, instrs, labels, items, after, nowhere, whole_items, whole_lines, pool_in, find_in, lines_words}
use Rattle.code.proofs.Emit.{Placed, table_of, table_places, table-placed, placed_is, finish-listing}

pub after_is : {n : Depth} (c : Code n) (l : ℕ) → after c l ≡ labels c + l
unfolding after labels
after_is (code is) l = omega arith
after_is (lit rt v) l = omega arith
after_is (to h v) l = omega arith
after_is (exit h) l = omega arith
after_is (block c) l = after_is c (suc l) ∙ omega arith
after_is (start rd c) l = after_is c (suc l) ∙ omega arith
after_is (c then d) l = after_is d (after c l) ∙ ap (λ k. labels d + k) (after_is c l) ∙ omega arith

-- ---- distances
pub ahead : (a n p : ℕ) → a ≡ p + suc n → dist a p ≡ pos (suc n)
ahead a n p e = rw (e, le-ltb (p + suc n) p (omega arith)) (ap pos (omega arith))

pub behind : (a p n : ℕ) → p ≡ a + n → dist a p ≡ minus n
behind a p zero e = rw (e, le-ltb a (a + 0) (omega arith)) (ap pos (omega arith))
behind a p (suc n) e = rw (e, lt-ltb a (a + suc n) (omega arith)) (ap negsuc (omega arith))

-- ---- lists of items one behind the other
pub size-append : (xs ys : List Item) → size (xs ++ ys) ≡ size xs + size ys
unfolding size
size-append [] ys = omega arith
size-append (ins i ∷ xs) ys = ap suc (size-append xs ys) ∙ omega arith
size-append (go h t ∷ xs) ys = ap suc (size-append xs ys) ∙ omega arith
size-append (new ∷ xs) ys = size-append xs ys
size-append (bind l ∷ xs) ys = size-append xs ys

pub placed-split : (at : ℕ → ℕ) (p q : ℕ) (xs ys : List Item) → q ≡ p + size xs → Placed at p (xs ++ ys) → Placed at p xs × Placed at q ys
unfolding Placed size
placed-split at p q [] ys e h = (tt, subst (λ n. Placed at n ys) (sym (e ∙ omega arith)) h)
placed-split at p q (ins i ∷ xs) ys e h = placed-split at (suc p) q xs ys (omega arith) h
placed-split at p q (go k t ∷ xs) ys e h = placed-split at (suc p) q xs ys (omega arith) h
placed-split at p q (new ∷ xs) ys e h = placed-split at p q xs ys e h
placed-split at p q (bind l ∷ xs) ys e h = let r = placed-split at p q xs ys e h.1 in ((h.0, r.0), r.1)

resolve-append : (at : Place → ℕ) (p q : ℕ) (xs ys : List Item) → q ≡ p + size xs → resolve at p (xs ++ ys) ≡ resolve at p xs ++ resolve at q ys
unfolding resolve size
resolve-append at p q [] ys e = ap (λ n. resolve at n ys) (sym (e ∙ omega arith))
resolve-append at p q (ins i ∷ xs) ys e = ap {B = List Instr} (λ r. i ∷ r) (resolve-append at (suc p) q xs ys (omega arith))
resolve-append at p q (go k t ∷ xs) ys e = ap {B = List Instr} (λ r. fill k (dist (at t) p) ∷ r) (resolve-append at (suc p) q xs ys (omega arith))
resolve-append at p q (new ∷ xs) ys e = resolve-append at p q xs ys e
resolve-append at p q (bind l ∷ xs) ys e = resolve-append at p q xs ys e

pub instrs-append : (find : ℕ → ℕ) (p q : ℕ) (xs ys : List Line) → q ≡ p + length xs → instrs find p (xs ++ ys) ≡ instrs find p xs ++ instrs find q ys
unfolding instrs
instrs-append find p q [] ys e = ap (λ n. instrs find n ys) (sym (e ∙ omega arith))
instrs-append find p q (plain i ∷ xs) ys e = ap {B = List Instr} (λ r. i ∷ r) (instrs-append find (suc p) q xs ys (omega arith))
instrs-append find p q (over h n ∷ xs) ys e = ap {B = List Instr} (λ r. fill h (pos (suc n)) ∷ r) (instrs-append find (suc p) q xs ys (omega arith))
instrs-append find p q (back rd n ∷ xs) ys e = ap {B = List Instr} (λ r. fill (adr rd) (minus n) ∷ r) (instrs-append find (suc p) q xs ys (omega arith))
instrs-append find p q (load rt v ∷ xs) ys e = ap {B = List Instr} (λ r. fill (ldr rt) (dist (find v) p) ∷ r) (instrs-append find (suc p) q xs ys (omega arith))

-- ---- straight code
size-ins : (is : List Instr) → size (map ins is) ≡ length is
unfolding size
size-ins [] = refl
size-ins (i ∷ is) = ap suc (size-ins is)

resolve-ins : (at : Place → ℕ) (p : ℕ) (is : List Instr) → resolve at p (map ins is) ≡ is
unfolding resolve
resolve-ins at p [] = refl
resolve-ins at p (i ∷ is) = ap {B = List Instr} (λ r. i ∷ r) (resolve-ins at (suc p) is)

instrs-plain : (find : ℕ → ℕ) (p : ℕ) (is : List Instr) → instrs find p (map plain is) ≡ is
unfolding instrs
instrs-plain find p [] = refl
instrs-plain find p (i ∷ is) = ap {B = List Instr} (λ r. i ∷ r) (instrs-plain find (suc p) is)

-- ---- sizes
pub lines-length : {n : Depth} (c : Code n) (d : Var n → ℕ) (x : ℕ) → length (lines c d x) ≡ words c
unfolding lines words
lines-length (code is) d x = length-map is plain
lines-length (lit rt v) d x = refl
lines-length (to h v) d x = refl
lines-length (exit h) d x = refl
lines-length (block c) d x = lines-length c (inside 0 d) x
lines-length (start rd c) d x = length-append (lines c (λ v. suc (d v)) (suc x)) (back rd (words c) ∷ []) ∙ omega (arith, lines-length c (λ v. suc (d v)) (suc x))
lines-length (c then e) d x =
    length-append (lines c (λ v. words e + d v) (words e + x)) (lines e d x) ∙ ap₂ ◌+◌ (lines-length c (λ v. words e + d v) (words e + x)) (lines-length e d x)

pub items-size : {n : Depth} (c : Code n) (e : Var n → ℕ) (x l : ℕ) → size (items c e x l) ≡ words c
unfolding items words size
items-size (code is) e x l = size-ins is
items-size (lit rt v) e x l = refl
items-size (to h v) e x l = refl
items-size (exit h) e x l = refl
items-size (block c) e x l = size-append (items c (inside l e) x (suc l)) (bind l ∷ []) ∙ omega (arith, items-size c (inside l e) x (suc l))
items-size (start rd c) e x l = size-append (items c e x (suc l)) (go (adr rd) (label l) ∷ []) ∙ omega (arith, items-size c e x (suc l))
items-size (c then d) e x l = size-append (items c e x l) (items d e x (after c l)) ∙ ap₂ ◌+◌ (items-size c e x l) (items-size d e x (after c l))

-- one more block around
pub each : {n : Depth} (P : Var (under n) → Type 0) → P inner → ((v : Var n) → P (outer v)) → (v : Var (under n)) → P v
each P a f inner = a
each P a f (outer v) = f v

-- ---- each jump passes over what stands between it and its label
module _ (at : Place → ℕ) where
  pub agree : {n : Depth} (c : Code n) (e : Var n → ℕ) (x l p : ℕ) (d : Var n → ℕ) (y : ℕ) → Placed (λ k. at (label k)) p (items c e x l)
      → ((v : Var n) → at (label (e v)) ≡ p + words c + d v) → at (label x) ≡ p + words c + y
      → resolve at p (items c e x l) ≡ instrs (λ v. at (literal v)) p (lines c d y)
  unfolding items lines words resolve instrs Placed
  agree (code is) e x l p d y h f g = resolve-ins at p is ∙ sym (instrs-plain (λ v. at (literal v)) p is)
  agree (lit rt v) e x l p d y h f g = refl
  agree (to h v) e x l p d y k f g = ap {B = List Instr} (λ z. fill h z ∷ []) (ahead (at (label (e v))) (d v) p (f v ∙ omega arith))
  agree (exit h) e x l p d y k f g = ap {B = List Instr} (λ z. fill h z ∷ []) (ahead (at (label x)) y p (g ∙ omega arith))
  agree {n} (block c) e x l p d y h f g =
      let is : List Item = items c (inside l e) x (suc l) in
      let q : p + words c ≡ p + size is = ap (λ k. p + k) (sym (items-size c (inside l e) x (suc l))) in
      let r = placed-split (λ k. at (label k)) p (p + words c) is (bind l ∷ []) q h in
      resolve-append at p (p + words c) is (bind l ∷ []) q ∙ append-nil (resolve at p is)
      ∙ agree c (inside l e) x (suc l) p (inside 0 d) y r.0 (each (λ v. at (label (inside l e v)) ≡ p + words c + inside 0 d v) (r.1.0 ∙ omega arith) f) g
  agree (start rd c) e x l p d y h f g =
      let is : List Item = items c e x (suc l) in
      let q : p + words c ≡ p + size is = ap (λ k. p + k) (sym (items-size c e x (suc l))) in
      let r = placed-split (λ k. at (label k)) p (p + words c) is (go (adr rd) (label l) ∷ []) q h.1 in
      resolve-append at p (p + words c) is (go (adr rd) (label l) ∷ []) q
      ∙ ap₂ (λ (a b : List Instr). a ++ b)
      (agree c e x (suc l) p (λ v. suc (d v)) (suc y) r.0 (λ v. f v ∙ omega arith) (g ∙ omega arith))
      (ap {B = List Instr} (λ z. fill (adr rd) z ∷ []) (behind (at (label l)) (p + words c) (words c) (ap (λ k. k + words c) (sym h.0))))
      ∙ sym (instrs-append (λ v. at (literal v)) p (p + words c) (lines c (λ v. suc (d v)) (suc y)) (back rd (words c) ∷ []) (ap (λ k. p + k) (sym (lines-length c (λ v. suc (d v)) (suc y)))))
  agree (c then b) e x l p d y h f g =
      let is : List Item = items c e x l in
      let js : List Item = items b e x (after c l) in
      let q : p + words c ≡ p + size is = ap (λ k. p + k) (sym (items-size c e x l)) in
      let r = placed-split (λ k. at (label k)) p (p + words c) is js q h in
      resolve-append at p (p + words c) is js q
      ∙ ap₂ (λ (a b : List Instr). a ++ b)
      (agree c e x l p (λ v. words b + d v) (words b + y) r.0 (λ v. f v ∙ omega arith) (g ∙ omega arith))
      (agree b e x (after c l) (p + words c) d y r.1 (λ v. f v ∙ omega arith) (g ∙ omega arith))
      ∙ sym (instrs-append (λ v. at (literal v)) p (p + words c) (lines c (λ v. words b + d v) (words b + y)) (lines b d y) (ap (λ k. p + k) (sym (lines-length c (λ v. words b + d v) (words b + y)))))

-- ---- which labels are bound: those from lo to below hi
unfoldable pub Ranged : ℕ → ℕ → List Item → Type 0
Ranged lo hi [] = Unit {0}
Ranged lo hi (ins i ∷ is) = Ranged lo hi is
Ranged lo hi (go h t ∷ is) = Ranged lo hi is
Ranged lo hi (new ∷ is) = Ranged lo hi is
Ranged lo hi (bind l ∷ is) = (lo ≤ l) × (l < hi) × Ranged lo hi is

wider : (a b lo hi : ℕ) (is : List Item) → a ≤ lo → hi ≤ b → Ranged lo hi is → Ranged a b is
unfolding Ranged
wider a b lo hi [] u w h = tt
wider a b lo hi (ins i ∷ is) u w h = wider a b lo hi is u w h
wider a b lo hi (go k t ∷ is) u w h = wider a b lo hi is u w h
wider a b lo hi (new ∷ is) u w h = wider a b lo hi is u w h
wider a b lo hi (bind l ∷ is) u w h = (omega (arith, h.0), omega (arith, h.1), wider a b lo hi is u w h.2)

ranged-append : (lo hi : ℕ) (xs ys : List Item) → Ranged lo hi xs → Ranged lo hi ys → Ranged lo hi (xs ++ ys)
unfolding Ranged
ranged-append lo hi [] ys h k = k
ranged-append lo hi (ins i ∷ xs) ys h k = ranged-append lo hi xs ys h k
ranged-append lo hi (go g t ∷ xs) ys h k = ranged-append lo hi xs ys h k
ranged-append lo hi (new ∷ xs) ys h k = ranged-append lo hi xs ys h k
ranged-append lo hi (bind l ∷ xs) ys h k = (h.0, h.1, ranged-append lo hi xs ys h.2 k)

-- a label outside is not bound
data Outside (m lo hi : ℕ) : Type 0 where
  low : m < lo → Outside m lo hi
  high : hi ≤ m → Outside m lo hi

outside_ne : (m l lo hi : ℕ) → Outside m lo hi → lo ≤ l → l < hi → m ≢ l
outside_ne m l lo hi (low a) u w = omega arith
outside_ne m l lo hi (high a) u w = omega arith

unbound : (m lo hi : ℕ) (is : List Item) → Outside m lo hi → Ranged lo hi is → binds m is ≡ false
unfolding Ranged binds
unbound m lo hi [] o h = refl
unbound m lo hi (ins i ∷ is) o h = unbound m lo hi is o h
unbound m lo hi (go g t ∷ is) o h = unbound m lo hi is o h
unbound m lo hi (new ∷ is) o h = unbound m lo hi is o h
unbound m lo hi (bind l ∷ is) o h = rw (ne_eqb m l (outside_ne m l lo hi o h.0 h.1)) (unbound m lo hi is o h.2)

ranged-ins : (lo hi : ℕ) (is : List Instr) → Ranged lo hi (map ins is)
unfolding Ranged
ranged-ins lo hi [] = tt
ranged-ins lo hi (i ∷ is) = ranged-ins lo hi is

pub ranged : {n : Depth} (c : Code n) (e : Var n → ℕ) (x l : ℕ) → Ranged l (l + labels c) (items c e x l)
unfolding Ranged items labels
ranged (code is) e x l = ranged-ins l (l + 0) is
ranged (lit rt v) e x l = tt
ranged (to h v) e x l = tt
ranged (exit h) e x l = tt
ranged (block c) e x l = ranged-append l (l + suc (labels c)) (items c (inside l e) x (suc l)) (bind l ∷ []) (wider l (l + suc (labels c)) (suc l) (suc l + labels c) (items c (inside l e) x (suc l)) (omega arith) (omega arith) (ranged c (inside l e) x (suc l))) (omega arith, omega arith, tt)
ranged (start rd c) e x l = (omega arith, omega arith, ranged-append l (l + suc (labels c)) (items c e x (suc l)) (go (adr rd) (label l) ∷ []) (wider l (l + suc (labels c)) (suc l) (suc l + labels c) (items c e x (suc l)) (omega arith) (omega arith) (ranged c e x (suc l))) tt)
ranged (c then d) e x l = ranged-append l (l + (labels c + labels d)) (items c e x l) (items d e x (after c l))
    (wider l (l + (labels c + labels d)) l (l + labels c) (items c e x l) (omega arith) (omega arith) (ranged c e x l))
    (wider l (l + (labels c + labels d)) (after c l) (after c l + labels d) (items d e x (after c l)) (omega (arith, after_is c l)) (omega (arith, after_is c l)) (ranged d e x (after c l)))

-- ---- each label is bound once
binds-append : (m : ℕ) (xs ys : List Item) → binds m (xs ++ ys) ≡ pick (binds m xs) true (binds m ys)
unfolding binds
binds-append m [] ys = refl
binds-append m (ins i ∷ xs) ys = binds-append m xs ys
binds-append m (go h t ∷ xs) ys = binds-append m xs ys
binds-append m (new ∷ xs) ys = binds-append m xs ys
binds-append m (bind l ∷ xs) ys = by (binds-append m xs ys) (eqb m l)
  where
    by : binds m (xs ++ ys) ≡ pick (binds m xs) true (binds m ys) → (r : Bool) → pick r true (binds m (xs ++ ys)) ≡ pick (pick r true (binds m xs)) true (binds m ys)
    by h true = refl
    by h false = h

once-append : (lo hi : ℕ) (xs ys : List Item) → Ranged lo hi xs → Once xs → Once ys → ((m : ℕ) → lo ≤ m → m < hi → binds m ys ≡ false) → Once (xs ++ ys)
unfolding Ranged Once
once-append lo hi [] ys r o k f = k
once-append lo hi (ins i ∷ xs) ys r o k f = once-append lo hi xs ys r o k f
once-append lo hi (go h t ∷ xs) ys r o k f = once-append lo hi xs ys r o k f
once-append lo hi (new ∷ xs) ys r o k f = once-append lo hi xs ys r o k f
once-append lo hi (bind l ∷ xs) ys r o k f = (rw (binds-append l xs ys, o.0) (f l r.0 r.1), once-append lo hi xs ys r.2 o.1 k f)

once-ins : (is : List Instr) → Once (map ins is)
unfolding Once
once-ins [] = tt
once-ins (i ∷ is) = once-ins is

pub once : {n : Depth} (c : Code n) (e : Var n → ℕ) (x l : ℕ) → Once (items c e x l)
unfolding Once Ranged items labels binds
once (code is) e x l = once-ins is
once (lit rt v) e x l = tt
once (to h v) e x l = tt
once (exit h) e x l = tt
once (block c) e x l = once-append (suc l) (suc l + labels c) (items c (inside l e) x (suc l)) (bind l ∷ []) (ranged c (inside l e) x (suc l)) (once c (inside l e) x (suc l)) (refl, tt) (λ m u w. rw (ne_eqb m l (omega arith)))
once (start rd c) e x l = (
  rw (binds-append l (items c e x (suc l)) (go (adr rd) (label l) ∷ []), unbound l (suc l) (suc l + labels c) (items c e x (suc l)) (low (omega arith)) (ranged c e x (suc l))),
  once-append (suc l) (suc l + labels c) (items c e x (suc l)) (go (adr rd) (label l) ∷ []) (ranged c e x (suc l)) (once c e x (suc l)) tt (λ m u w. refl),
)
once (c then d) e x l = once-append l (l + labels c) (items c e x l) (items d e x (after c l)) (ranged c e x l) (once c e x l) (once d e x (after c l))
    (λ m u w. unbound m (after c l) (after c l + labels d) (items d e x (after c l)) (low (omega (arith, after_is c l))) (ranged d e x (after c l)))

-- ---- each label that is used is bound
met_append : (all xs ys : List Item) → Met all xs → Met all ys → Met all (xs ++ ys)
unfolding Met
met_append all [] ys h k = k
met_append all (ins i ∷ xs) ys h k = met_append all xs ys h k
met_append all (go g (label l) ∷ xs) ys h k = (h.0, met_append all xs ys h.1 k)
met_append all (go g (literal v) ∷ xs) ys h k = met_append all xs ys h k
met_append all (new ∷ xs) ys h k = met_append all xs ys h k
met_append all (bind l ∷ xs) ys h k = met_append all xs ys h k

met_ins : (all : List Item) (is : List Instr) → Met all (map ins is)
unfolding Met
met_ins all [] = tt
met_ins all (i ∷ is) = met_ins all is

pub met : {n : Depth} (all : List Item) (c : Code n) (e : Var n → ℕ) (x l : ℕ) → ((m : ℕ) → binds m (items c e x l) ≡ true → binds m all ≡ true) → ((v : Var n) → binds (e v) all ≡ true) → binds x all ≡ true → Met all (items c e x l)
unfolding Met items binds
met all (code is) e x l s f g = met_ins all is
met all (lit rt v) e x l s f g = tt
met all (to h v) e x l s f g = (f v, tt)
met all (exit h) e x l s f g = (g, tt)
met all (block c) e x l s f g =
    met_append all (items c (inside l e) x (suc l)) (bind l ∷ []) (met all c (inside l e) x (suc l) (λ m h. s m (rw (binds-append m (items c (inside l e) x (suc l)) (bind l ∷ []), h))) (each (λ v. binds (inside l e v) all ≡ true) (s l (last l)) f) g) tt
  where
    right : (r : Bool) → pick r true true ≡ true
    right true = refl
    right false = refl

    last : (k : ℕ) → binds k (items c (inside l e) x (suc l) ++ (bind k ∷ [])) ≡ true
    last k = rw (binds-append k (items c (inside l e) x (suc l)) (bind k ∷ []), eq-eqb k k refl) (right (binds k (items c (inside l e) x (suc l))))
met all (start rd c) e x l s f g =
    met_append all (items c e x (suc l)) (go (adr rd) (label l) ∷ []) (met all c e x (suc l) (λ m h. s m (by (eqb m l) (rw (binds-append m (items c e x (suc l)) (go (adr rd) (label l) ∷ []), h)))) f g) (s l (rw (eq-eqb l l refl)), tt)
  where
    by : (r : Bool) {t : Bool} → t ≡ true → pick r true t ≡ true
    by true h = refl
    by false h = h
met all (c then d) e x l s f g =
    met_append all (items c e x l) (items d e x (after c l))
    (met all c e x l (λ m h. s m (rw (binds-append m (items c e x l) (items d e x (after c l)), h))) f g)
    (met all d e x (after c l) (λ m h. s m (rw (binds-append m (items c e x l) (items d e x (after c l)), h) (right (binds m (items c e x l))))) f g)
  where
    right : (r : Bool) → pick r true true ≡ true
    right true = refl
    right false = refl

-- ---- a whole block
below-ranged : (n lo hi : ℕ) (is : List Item) → hi ≤ n → Ranged lo hi is → Below n is
unfolding Ranged Below
below-ranged n lo hi [] u h = tt
below-ranged n lo hi (ins i ∷ is) u h = below-ranged n lo hi is u h
below-ranged n lo hi (go g t ∷ is) u h = below-ranged n lo hi is u h
below-ranged n lo hi (new ∷ is) u h = below-ranged n lo hi is u h
below-ranged n lo hi (bind l ∷ is) u h = (omega (arith, h.1), below-ranged n lo hi is u h.2)

none_ins : (m : ℕ) (is : List Instr) → binds m (map ins is) ≡ false
unfolding binds
none_ins m [] = refl
none_ins m (i ∷ is) = none_ins m is

pub whole-once : (c : Code top) (end : List Instr) → Once (whole_items c end)
unfolding Once whole_items binds
whole-once c end =
    once-append 1 (1 + labels c) (items c nowhere 0 1) (bind 0 ∷ map ins end) (ranged c nowhere 0 1) (once c nowhere 0 1) (none_ins 0 end, once-ins end)
    (λ m u w. rw (ne_eqb m 0 (omega arith)) (none_ins m end))

pub whole_below : (n : ℕ) (c : Code top) (end : List Instr) → labels c < n → Below n (whole_items c end)
unfolding Below whole_items Ranged
whole_below n c end h =
    below-ranged n 0 n (items c nowhere 0 1 ++ (bind 0 ∷ map ins end)) (omega arith)
    (ranged-append 0 n (items c nowhere 0 1) (bind 0 ∷ map ins end) (wider 0 n 1 (1 + labels c) (items c nowhere 0 1) (omega arith) (omega arith) (ranged c nowhere 0 1)) (omega arith, omega arith, ranged-ins 0 n end))

pub whole_met : (c : Code top) (end : List Instr) → Met (whole_items c end) (whole_items c end)
unfolding Met whole_items binds
whole_met c end =
    met_append (whole_items c end) (items c nowhere 0 1) (bind 0 ∷ map ins end)
    (met (whole_items c end) c nowhere 0 1 (λ m h. rw (binds-append m (items c nowhere 0 1) (bind 0 ∷ map ins end), h)) (elim [ ]) (rw (binds-append 0 (items c nowhere 0 1) (bind 0 ∷ map ins end)) (right (binds 0 (items c nowhere 0 1)))))
    (met_ins (whole_items c end) end)
  where
    right : (r : Bool) → pick r true true ≡ true
    right true = refl
    right false = refl

pub whole-size : (c : Code top) (end : List Instr) → size (whole_items c end) ≡ words c + length end
unfolding size whole_items
whole-size c end = size-append (items c nowhere 0 1) (bind 0 ∷ map ins end) ∙ ap₂ ◌+◌ (items-size c nowhere 0 1) (size-ins end)

-- the words of the lines, and the pool behind them
pub whole_agree : (at : Place → ℕ) (c : Code top) (end : List Instr) → Placed (λ l. at (label l)) 0 (whole_items c end)
    → resolve at 0 (whole_items c end) ≡ instrs (λ v. at (literal v)) 0 (whole_lines c end)
unfolding whole_items whole_lines resolve Placed
whole_agree at c end h =
    let q : words c ≡ 0 + size (items c nowhere 0 1) = sym (items-size c nowhere 0 1) ∙ omega arith in
    let r = placed-split (λ k. at (label k)) 0 (words c) (items c nowhere 0 1) (bind 0 ∷ map ins end) q h in
    resolve-append at 0 (words c) (items c nowhere 0 1) (bind 0 ∷ map ins end) q
    ∙ ap₂ (λ (a b : List Instr). a ++ b) (agree at c nowhere 0 1 0 nowhere 0 r.0 (elim [ ]) (r.1.0 ∙ omega arith))
    (resolve-ins at (words c) end ∙ sym (instrs-plain (λ v. at (literal v)) (words c) end))
    ∙ sym (instrs-append (λ v. at (literal v)) 0 (words c) (lines c nowhere 0) (map plain end) (sym (lines-length c nowhere 0) ∙ omega arith))

-- ---- two ways to say where the labels are
transfer : (f g : ℕ → ℕ) (p : ℕ) (is : List Item) → ((l : ℕ) → binds l is ≡ true → f l ≡ g l) → Placed f p is → Placed g p is
unfolding Placed binds
transfer f g p [] s h = tt
transfer f g p (ins i ∷ is) s h = transfer f g (suc p) is s h
transfer f g p (go k t ∷ is) s h = transfer f g (suc p) is s h
transfer f g p (new ∷ is) s h = transfer f g p is s h
transfer f g p (bind l ∷ is) s h = (sym (s l (rw (eq-eqb l l refl))) ∙ h.0, transfer f g p is (λ m k. s m (by (eqb m l) k)) h.1)
  where
    by : (r : Bool) {t : Bool} → t ≡ true → pick r true t ≡ true
    by true k = refl
    by false k = k

-- ---- the pool
pool-append : (ps : List ℕ) (xs ys : List Item) → pool_of ps (xs ++ ys) ≡ pool_of (pool_of ps xs) ys
unfolding pool_of
pool-append ps [] ys = refl
pool-append ps (ins i ∷ xs) ys = pool-append ps xs ys
pool-append ps (go h (label l) ∷ xs) ys = pool-append ps xs ys
pool-append ps (go h (literal v) ∷ xs) ys = pool-append (add v ps) xs ys
pool-append ps (new ∷ xs) ys = pool-append ps xs ys
pool-append ps (bind l ∷ xs) ys = pool-append ps xs ys

pub pool_in-append : (ps : List ℕ) (xs ys : List Line) → pool_in ps (xs ++ ys) ≡ pool_in (pool_in ps xs) ys
unfolding pool_in
pool_in-append ps [] ys = refl
pool_in-append ps (plain i ∷ xs) ys = pool_in-append ps xs ys
pool_in-append ps (over h n ∷ xs) ys = pool_in-append ps xs ys
pool_in-append ps (back rd n ∷ xs) ys = pool_in-append ps xs ys
pool_in-append ps (load rt v ∷ xs) ys = pool_in-append (add v ps) xs ys

pool-ins : (ps : List ℕ) (is : List Instr) → pool_of ps (map ins is) ≡ ps
unfolding pool_of
pool-ins ps [] = refl
pool-ins ps (i ∷ is) = pool-ins ps is

pub pool_in-plain : (ps : List ℕ) (is : List Instr) → pool_in ps (map plain is) ≡ ps
unfolding pool_in
pool_in-plain ps [] = refl
pool_in-plain ps (i ∷ is) = pool_in-plain ps is

pub pool_same : {n : Depth} (ps : List ℕ) (c : Code n) (e : Var n → ℕ) (x l : ℕ) (d : Var n → ℕ) (y : ℕ) → pool_of ps (items c e x l) ≡ pool_in ps (lines c d y)
unfolding pool_of pool_in items lines
pool_same ps (code is) e x l d y = pool-ins ps is ∙ sym (pool_in-plain ps is)
pool_same ps (lit rt v) e x l d y = refl
pool_same ps (to h v) e x l d y = refl
pool_same ps (exit h) e x l d y = refl
pool_same ps (block c) e x l d y = pool-append ps (items c (inside l e) x (suc l)) (bind l ∷ []) ∙ pool_same ps c (inside l e) x (suc l) (inside 0 d) y
pool_same ps (start rd c) e x l d y =
    pool-append ps (items c e x (suc l)) (go (adr rd) (label l) ∷ []) ∙ pool_same ps c e x (suc l) (λ v. suc (d v)) (suc y) ∙ sym (pool_in-append ps (lines c (λ v. suc (d v)) (suc y)) (back rd (words c) ∷ []))
pool_same ps (c then b) e x l d y =
    pool-append ps (items c e x l) (items b e x (after c l))
    ∙ ap (λ qs. pool_of qs (items b e x (after c l))) (pool_same ps c e x l (λ v. words b + d v) (words b + y))
    ∙ pool_same (pool_in ps (lines c (λ v. words b + d v) (words b + y))) b e x (after c l) d y
    ∙ sym (pool_in-append ps (lines c (λ v. words b + d v) (words b + y)) (lines b d y))

pub whole-pool : (c : Code top) (end : List Instr) → pool_of [] (whole_items c end) ≡ pool_in [] (whole_lines c end)
unfolding whole_items whole_lines pool_of
whole-pool c end =
    pool-append [] (items c nowhere 0 1) (bind 0 ∷ map ins end) ∙ pool-ins (pool_of [] (items c nowhere 0 1)) end ∙ pool_same [] c nowhere 0 1 nowhere 0
    ∙ sym (pool_in-plain (pool_in [] (lines c nowhere 0)) end) ∙ sym (pool_in-append [] (lines c nowhere 0) (map plain end))

pub whole_length : (c : Code top) (end : List Instr) → size (whole_items c end) ≡ length (whole_lines c end)
unfolding whole_lines
whole_length c end = whole-size c end ∙ sym (length-append (lines c nowhere 0) (map plain end) ∙ ap₂ ◌+◌ (lines-length c nowhere 0) (length-map end plain))

-- ---- the same instructions in all three views
whole-instrs : (at : Place → ℕ) (c : Code top) (end : List Instr) → Placed (λ l. at (label l)) 0 (whole_items c end) → ((v : ℕ) → at (literal v) ≡ places_of (whole_items c end) (literal v))
    → resolve at 0 (whole_items c end) ≡ instrs (find_in (whole_lines c end)) 0 (whole_lines c end)
unfolding find_in places_of
whole-instrs at c end h f =
    whole_agree at c end h
    ∙ ap (λ g. instrs g 0 (whole_lines c end)) (fun_ext (λ v. f v ∙ rw (whole-pool c end, whole_length c end)))

pub whole-placed : (c : Code top) (end : List Instr) → Placed (λ l. places_of (whole_items c end) (label l)) 0 (whole_items c end)
unfolding places_of
whole-placed c end =
    let is : List Item = whole_items c end in
    let table : List ℕ = replicate (suc (labels c)) 0 in
    let h : labels c < length table = omega (arith, length-replicate {A = ℕ} (suc (labels c)) 0) in
    let t : Placed (λ l. get_or (table_of 0 table is) l 0) 0 is = table-placed 0 table is (whole-once c end) (whole_below (length table) c end h) in
    transfer (λ l. get_or (table_of 0 table is) l 0) (λ l. place_of l 0 is) 0 is (λ l k. placed_is l 0 (λ m. get_or (table_of 0 table is) m 0) is t k) t

pub listing-instrs : (c : Code top) (end : List Instr) → resolve (places_of (whole_items c end)) 0 (whole_items c end) ≡ instrs (find_in (whole_lines c end)) 0 (whole_lines c end)
listing-instrs c end = whole-instrs (places_of (whole_items c end)) c end (whole-placed c end) (λ v. refl)

-- THE LISTING IS THE LINES' WORDS, for any structured code
pub listing-lines : (c : Code top) (end : List Instr) → listing (whole_items c end) ≡ lines_words (whole_lines c end)
unfolding listing lines_words
listing-lines c end =
    ap (λ r. map encode r ++ (pad_of (size (whole_items c end)) (pool_of [] (whole_items c end)) ++ halves (pool_of [] (whole_items c end)))) (listing-instrs c end)
    ∙ rw (whole-pool c end, whole_length c end)

-- EMITTED AND PATCHED ARE THE LINES' WORDS, for any structured code whose instructions are carried by words
pub finish-lines : (table : List ℕ) (c : Code top) (end : List Instr) → labels c < length table → Sound (instrs (find_in (whole_lines c end)) 0 (whole_lines c end))
    → finish (run (whole_items c end) (begin table)) ≡ lines_words (whole_lines c end)
finish-lines table c end h s =
    finish-listing table (whole_items c end) (whole-once c end) (whole_met c end) (whole_below (length table) c end h) (subst Sound (sym (listing-instrs c end)) s) ∙ listing-lines c end
