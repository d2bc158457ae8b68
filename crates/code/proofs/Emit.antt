-- What is emitted and patched is the listing of the items.
use mathlib.Core.Path.{◌≡◌, refl, sym, ap, ap₂, subst, ◌∙◌}
use mathlib.Core.Bool.{Bool, true, false}
use mathlib.Core.List.{List, [], ◌∷◌, ◌++◌, map, append-nil}
use Prim.Native.Nat.{ℕ, suc, ◌+◌, ◌-◌, ◌*◌, ◌%◌, ◌^◌}
use native.Mathlib.Omega.{arith}
use lib.Dec.{eqb}
use lib.IntN.{pos}
use lib.ListN.{length, get_or, set, length-append, length-set}
use lib.Seq.{set_at, get_or_at, get_or-set_same, get_or-set_other, append_snoc}
use borrow.Author.Tests.{eqb-true, eqb-false, eq-eqb}
use Rattle.arm.specs.declared.Instr.{Instr}
use Rattle.arm.specs.Instr.{encode, Carried}
use Rattle.code.specs.Items.{pick, Hole, fill, Place, label, literal, Item, ins, go, new, bind, dist, resolve, size, place_of, binds}
use Rattle.code.specs.Items.{index, add, pool_of, halves, pad_of, base_of, places_of, listing, Once, Met, Below, Sound}
use Rattle.code.specs.Emit.{kind, patch, Goal, to_label, to_entry, Fixup, St, fixed, put, run, start, lead, patched, patch_all, finish}
use Rattle.code.proofs.Field.{patch-word}

-- ---- what the items leave, by each part of the state
unfoldable pub raw : List Item → List ℕ
raw [] = []
raw (ins i ∷ is) = encode i ∷ raw is
raw (go h t ∷ is) = encode (fill h (pos 0)) ∷ raw is
raw (new ∷ is) = raw is
raw (bind l ∷ is) = raw is

pub raw-size : (is : List Item) → length (raw is) ≡ size is
unfolding raw size
raw-size [] = refl
raw-size (ins i ∷ is) = ap suc (raw-size is)
raw-size (go h t ∷ is) = ap suc (raw-size is)
raw-size (new ∷ is) = raw-size is
raw-size (bind l ∷ is) = raw-size is

unfoldable pub table_of : ℕ → List ℕ → List Item → List ℕ
table_of p t [] = t
table_of p t (ins i ∷ is) = table_of (suc p) t is
table_of p t (go h g ∷ is) = table_of (suc p) t is
table_of p t (new ∷ is) = table_of p t is
table_of p t (bind l ∷ is) = table_of p (set t l p) is

unfoldable pub fixes_of : ℕ → List ℕ → List Item → List Fixup
fixes_of p ps [] = []
fixes_of p ps (ins i ∷ is) = fixes_of (suc p) ps is
fixes_of p ps (go h (label l) ∷ is) = record { at = p; goal = to_label l; field = kind h } ∷ fixes_of (suc p) ps is
fixes_of p ps (go h (literal v) ∷ is) = record { at = p; goal = to_entry (index v ps); field = kind h } ∷ fixes_of (suc p) (add v ps) is
fixes_of p ps (new ∷ is) = fixes_of p ps is
fixes_of p ps (bind l ∷ is) = fixes_of p ps is

length-snoc : (ws : List ℕ) (w : ℕ) → length (ws ++ (w ∷ [])) ≡ suc (length ws)
length-snoc ws w = length-append ws (w ∷ []) ∙ omega arith

pub run-words : (is : List Item) (s : St) → (run is s).words ≡ s.words ++ raw is
unfolding run put fixed raw
run-words [] s = sym (append-nil s.words)
run-words (ins i ∷ is) s = run-words is (put (ins i) s) ∙ append_snoc s.words (encode i) (raw is)
run-words (go h (label l) ∷ is) s = run-words is (put (go h (label l)) s) ∙ append_snoc s.words (encode (fill h (pos 0))) (raw is)
run-words (go h (literal v) ∷ is) s = run-words is (put (go h (literal v)) s) ∙ append_snoc s.words (encode (fill h (pos 0))) (raw is)
run-words (new ∷ is) s = run-words is (put new s)
run-words (bind l ∷ is) s = run-words is (put (bind l) s)

pub run-labels : (is : List Item) (s : St) → (run is s).labels ≡ table_of (length s.words) s.labels is
unfolding run put fixed table_of
run-labels [] s = refl
run-labels (ins i ∷ is) s = run-labels is (put (ins i) s) ∙ ap (λ n. table_of n s.labels is) (length-snoc s.words _)
run-labels (go h (label l) ∷ is) s = run-labels is (put (go h (label l)) s) ∙ ap (λ n. table_of n s.labels is) (length-snoc s.words _)
run-labels (go h (literal v) ∷ is) s = run-labels is (put (go h (literal v)) s) ∙ ap (λ n. table_of n s.labels is) (length-snoc s.words _)
run-labels (new ∷ is) s = run-labels is (put new s)
run-labels (bind l ∷ is) s = run-labels is (put (bind l) s)

pub run-pool : (is : List Item) (s : St) → (run is s).pool ≡ pool_of s.pool is
unfolding run put fixed pool_of
run-pool [] s = refl
run-pool (ins i ∷ is) s = run-pool is (put (ins i) s)
run-pool (go h (label l) ∷ is) s = run-pool is (put (go h (label l)) s)
run-pool (go h (literal v) ∷ is) s = run-pool is (put (go h (literal v)) s)
run-pool (new ∷ is) s = run-pool is (put new s)
run-pool (bind l ∷ is) s = run-pool is (put (bind l) s)

pub run-fixes : (is : List Item) (s : St) → (run is s).fixes ≡ s.fixes ++ fixes_of (length s.words) s.pool is
unfolding run put fixed fixes_of
run-fixes [] s = sym (append-nil s.fixes)
run-fixes (ins i ∷ is) s = run-fixes is (put (ins i) s) ∙ ap (λ n. s.fixes ++ fixes_of n s.pool is) (length-snoc s.words _)
run-fixes (go h (label l) ∷ is) s =
    run-fixes is (put (go h (label l)) s) ∙ append_snoc s.fixes _ _
    ∙ ap (λ n. s.fixes ++ (record { at = length s.words; goal = to_label l; field = kind h } ∷ fixes_of n s.pool is)) (length-snoc s.words _)
run-fixes (go h (literal v) ∷ is) s =
    run-fixes is (put (go h (literal v)) s) ∙ append_snoc s.fixes _ _
    ∙ ap (λ n. s.fixes ++ (record { at = length s.words; goal = to_entry (index v s.pool); field = kind h } ∷ fixes_of n (add v s.pool) is)) (length-snoc s.words _)
run-fixes (new ∷ is) s = run-fixes is (put new s)
run-fixes (bind l ∷ is) s = run-fixes is (put (bind l) s)

-- ---- the pool: an entry's index stays
unfoldable pub has : ℕ → List ℕ → Bool
has v [] = false
has v (x ∷ xs) = pick (eqb v x) true (has v xs)

-- v stands in the pool, at i
pub record Kept (v i : ℕ) (ps : List ℕ) : Type 0 where
  pub here : has v ps ≡ true
  pub place : index v ps ≡ i

pub kept_new : (v : ℕ) (ps : List ℕ) → Kept v (index v ps) (add v ps)
unfolding has index add
kept_new v [] = record { here = rw (eq-eqb v v refl); place = rw (eq-eqb v v refl) }
kept_new v (x ∷ xs) = by (kept_new v xs) (eqb v x) refl
  where
    by : Kept v (index v xs) (add v xs) → (t : Bool) → eqb v x ≡ t → Kept v (pick t 0 (suc (index v xs))) (pick t (x ∷ xs) (x ∷ add v xs))
    by k true e = record { here = rw e; place = rw e }
    by k false e = record { here = rw e k.here; place = rw e (ap suc k.place) }

pub kept-add : (v u i : ℕ) (ps : List ℕ) → Kept v i ps → Kept v i (add u ps)
unfolding has index add
kept-add v u i [] k = absurd (let z : true ≡ false = sym k.here in let y : ◌≡◌ {A = ℕ} 0 1 = cc in omega arith)
kept-add v u i (x ∷ xs) k = by (λ y. kept-add v u (index v xs) xs y) (eqb u x) (eqb v x) refl k.here k.place
  where
    by : (Kept v (index v xs) xs → Kept v (index v xs) (add u xs)) → (t r : Bool) → eqb v x ≡ r → pick r true (has v xs) ≡ true → pick r 0 (suc (index v xs)) ≡ i → Kept v i (pick t (x ∷ xs) (x ∷ add u xs))
    by rec true r e p q = record { here = rw e p; place = rw e q }
    by rec false true e p q = record { here = rw e; place = rw e q }
    by rec false false e p q =
        let z : Kept v (index v xs) (add u xs) = rec (record { here = p; place = refl }) in
        record { here = rw e z.here; place = rw e (ap suc z.place ∙ q) }

pub kept-pool : (v i : ℕ) (ps : List ℕ) (is : List Item) → Kept v i ps → Kept v i (pool_of ps is)
unfolding pool_of
kept-pool v i ps [] k = k
kept-pool v i ps (ins j ∷ is) k = kept-pool v i ps is k
kept-pool v i ps (go h (label l) ∷ is) k = kept-pool v i ps is k
kept-pool v i ps (go h (literal u) ∷ is) k = kept-pool v i (add u ps) is (kept-add v u i ps k)
kept-pool v i ps (new ∷ is) k = kept-pool v i ps is k
kept-pool v i ps (bind l ∷ is) k = kept-pool v i ps is k

-- ---- the patches complete the words, one after the other
module _ (to : Goal → ℕ) (at : Place → ℕ) (pool : List ℕ) (labels_same : (l : ℕ) → to (to_label l) ≡ at (label l)) (entries-same : (v i : ℕ) → Kept v i pool → to (to_entry i) ≡ at (literal v)) where
  unfoldable pub Patches : ℕ → List ℕ → List Item → Type 0
  Patches p ps is = Sound (resolve at p is) → (pre post : List ℕ) → length pre ≡ p → patch_all to (fixes_of p ps is) (pre ++ (raw is ++ post)) ≡ pre ++ (map encode (resolve at p is) ++ post)

  -- the head's word is complete, and the rest goes on behind it
  behind : (p : ℕ) (ps : List ℕ) (is : List Item) (pre post : List ℕ) (w : ℕ) → length pre ≡ p → Patches (suc p) ps is → Sound (resolve at (suc p) is)
      → patch_all to (fixes_of (suc p) ps is) (pre ++ (w ∷ (raw is ++ post))) ≡ pre ++ (w ∷ (map encode (resolve at (suc p) is) ++ post))
  unfolding Patches
  behind p ps is pre post w e rec c =
      ap (patch_all to (fixes_of (suc p) ps is)) (sym (append_snoc pre w (raw is ++ post)))
      ∙ rec c (pre ++ (w ∷ [])) post (length-snoc pre w ∙ ap suc e) ∙ append_snoc pre w (map encode (resolve at (suc p) is) ++ post)

  one : (p : ℕ) (h : Hole) (g : Goal) (t : Place) (pre tail : List ℕ) → length pre ≡ p → to g ≡ at t → Carried (fill h (dist (at t) p))
      → patched to (record { at = p; goal = g; field = kind h }) (pre ++ (encode (fill h (pos 0)) ∷ tail)) ≡ pre ++ (encode (fill h (dist (at t) p)) ∷ tail)
  unfolding patched
  one p h g t pre tail e q c =
      let w : ℕ = encode (fill h (pos 0)) in
      ap₂ (λ (n m : ℕ). set (pre ++ (w ∷ tail)) p ((n + patch (kind h) (dist m p)) % 2 ^ 32)) (get_or_at pre w tail 0 p e) q
      ∙ ap (λ n. set (pre ++ (w ∷ tail)) p n) (patch-word h (dist (at t) p) c) ∙ set_at pre w tail (encode (fill h (dist (at t) p))) p e

  pub patches : (p : ℕ) (ps : List ℕ) (is : List Item) → pool_of ps is ≡ pool → Patches p ps is
  unfolding Patches patch_all fixes_of raw resolve pool_of Sound
  patches p ps [] q c pre post e = refl
  patches p ps (ins i ∷ is) q c pre post e = behind p ps is pre post (encode i) e (patches (suc p) ps is q) c.1
  patches p ps (go h (label l) ∷ is) q c pre post e =
      ap (patch_all to (fixes_of (suc p) ps is)) (one p h (to_label l) (label l) pre (raw is ++ post) e (labels_same l) c.0)
      ∙ behind p ps is pre post (encode (fill h (dist (at (label l)) p))) e (patches (suc p) ps is q) c.1
  patches p ps (go h (literal v) ∷ is) q c pre post e =
      ap (patch_all to (fixes_of (suc p) (add v ps) is))
      (one p h (to_entry (index v ps)) (literal v) pre (raw is ++ post) e
      (entries-same v (index v ps) (subst (Kept v (index v ps)) q (kept-pool v (index v ps) (add v ps) is (kept_new v ps)))) c.0)
      ∙ behind p (add v ps) is pre post (encode (fill h (dist (at (literal v)) p))) e (patches (suc p) (add v ps) is q) c.1
  patches p ps (new ∷ is) q c pre post e = patches p ps is q c pre post e
  patches p ps (bind l ∷ is) q c pre post e = patches p ps is q c pre post e

-- ---- the table of labels
-- `at` says of each label that is bound where it stands
unfoldable pub Placed : (ℕ → ℕ) → ℕ → List Item → Type 0
Placed at p [] = Unit {0}
Placed at p (ins i ∷ is) = Placed at (suc p) is
Placed at p (go h t ∷ is) = Placed at (suc p) is
Placed at p (new ∷ is) = Placed at p is
Placed at p (bind l ∷ is) = (at l ≡ p) × Placed at p is

kept_entry : (l p d : ℕ) (t : List ℕ) (is : List Item) → binds l is ≡ false → get_or (table_of p t is) l d ≡ get_or t l d
unfolding binds table_of
kept_entry l p d t [] q = refl
kept_entry l p d t (ins i ∷ is) q = kept_entry l (suc p) d t is q
kept_entry l p d t (go h g ∷ is) q = kept_entry l (suc p) d t is q
kept_entry l p d t (new ∷ is) q = kept_entry l p d t is q
kept_entry l p d t (bind m ∷ is) q = by (λ y. kept_entry l p d (set t m p) is y) (eqb l m) refl q
  where
    by : (binds l is ≡ false → get_or (table_of p (set t m p) is) l d ≡ get_or (set t m p) l d) → (r : Bool) → eqb l m ≡ r → pick r true (binds l is) ≡ false → get_or (table_of p (set t m p) is) l d ≡ get_or t l d
    by rec true e x = absurd (let y : ◌≡◌ {A = ℕ} 0 1 = cc in omega arith)
    by rec false e x = rec x ∙ get_or-set_other t m l p d (eqb-false l m e)

pub table-placed : (p : ℕ) (t : List ℕ) (is : List Item) → Once is → Below (length t) is → Placed (λ l. get_or (table_of p t is) l 0) p is
unfolding Once Below Placed table_of
table-placed p t [] o w = tt
table-placed p t (ins i ∷ is) o w = table-placed (suc p) t is o w
table-placed p t (go h g ∷ is) o w = table-placed (suc p) t is o w
table-placed p t (new ∷ is) o w = table-placed p t is o w
table-placed p t (bind l ∷ is) o w =
    (kept_entry l p 0 (set t l p) is o.0 ∙ get_or-set_same t l p 0 w.0, table-placed p (set t l p) is o.1 (subst (λ n. Below n is) (sym (length-set t l p)) w.1))

-- two ways to say where the labels are agree on those that are bound
pub placed_is : (l p : ℕ) (at : ℕ → ℕ) (is : List Item) → Placed at p is → binds l is ≡ true → at l ≡ place_of l p is
unfolding Placed binds place_of
placed_is l p at [] h q = absurd (let y : ◌≡◌ {A = ℕ} 0 1 = cc in omega arith)
placed_is l p at (ins i ∷ is) h q = placed_is l (suc p) at is h q
placed_is l p at (go k g ∷ is) h q = placed_is l (suc p) at is h q
placed_is l p at (new ∷ is) h q = placed_is l p at is h q
placed_is l p at (bind m ∷ is) h q = by (λ y. placed_is l p at is h.1 y) (eqb l m) refl q
  where
    by : (binds l is ≡ true → at l ≡ place_of l p is) → (r : Bool) → eqb l m ≡ r → pick r true (binds l is) ≡ true → at l ≡ pick r p (place_of l p is)
    by rec true e x = ap at (eqb-true l m e) ∙ h.0
    by rec false e x = rec x

-- the instructions are the same for two such ways
pub resolve_same : (at at' : Place → ℕ) (all : List Item) (p : ℕ) (is : List Item) → Met all is → ((l : ℕ) → binds l all ≡ true → at (label l) ≡ at' (label l)) → ((v : ℕ) → at (literal v) ≡ at' (literal v)) → resolve at p is ≡ resolve at' p is
unfolding Met resolve
resolve_same at at' all p [] m f g = refl
resolve_same at at' all p (ins i ∷ is) m f g = ap {B = List Instr} (λ r. i ∷ r) (resolve_same at at' all (suc p) is m f g)
resolve_same at at' all p (go h (label l) ∷ is) m f g =
    ap₂ (λ (n : ℕ) (r : List Instr). fill h (dist n p) ∷ r) (f l m.0) (resolve_same at at' all (suc p) is m.1 f g)
resolve_same at at' all p (go h (literal v) ∷ is) m f g =
    ap₂ (λ (n : ℕ) (r : List Instr). fill h (dist n p) ∷ r) (g v) (resolve_same at at' all (suc p) is m f g)
resolve_same at at' all p (new ∷ is) m f g = resolve_same at at' all p is m f g
resolve_same at at' all p (bind l ∷ is) m f g = resolve_same at at' all p is m f g

-- where the finished code has each place, by the table of labels
unfoldable pub table_places : List ℕ → List Item → Place → ℕ
table_places table is (label l) = get_or (table_of 0 table is) l 0
table_places table is (literal v) = base_of (size is) (pool_of [] is) + 2 * index v (pool_of [] is)

-- what is emitted and patched, by the table of labels
pub finished : (table : List ℕ) (is : List Item) → Sound (resolve (table_places table is) 0 is)
    → finish (run is (start table)) ≡ map encode (resolve (table_places table is) 0 is) ++ (pad_of (size is) (pool_of [] is) ++ halves (pool_of [] is))
unfolding finish start lead table_places Patches
finished table is c =
    let s : St = start table in
    rw (run-words is s, run-labels is s, run-fixes is s, run-pool is s, raw-size is)
    (patches (lead (table_of 0 table is) (base_of (size is) (pool_of [] is))) (table_places table is) (pool_of [] is) (λ l. refl) (λ v i k. ap (λ n. base_of (size is) (pool_of [] is) + 2 * n) (sym k.place))
    0 [] is refl c [] (pad_of (size is) (pool_of [] is) ++ halves (pool_of [] is)) refl)

-- EMITTED AND PATCHED IS THE LISTING
pub finish-listing : (table : List ℕ) (is : List Item) → Once is → Met is is → Below (length table) is → Sound (resolve (places_of is) 0 is) → finish (run is (start table)) ≡ listing is
unfolding listing places_of table_places
finish-listing table is o m w c =
    let e : resolve (table_places table is) 0 is ≡ resolve (places_of is) 0 is = resolve_same (table_places table is) (places_of is) is 0 is m (λ l h. placed_is l 0 (λ k. get_or (table_of 0 table is) k 0) is (table-placed 0 table is o w) h) (λ v. refl) in
    finished table is (subst Sound (sym e) c) ∙ ap (λ r. map encode r ++ (pad_of (size is) (pool_of [] is) ++ halves (pool_of [] is))) e
