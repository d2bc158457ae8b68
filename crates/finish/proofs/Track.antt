-- The invariant of emitting: the lent words and the table hold the assembler's state (code, Emit), entry by entry.
use Rattle.std.proofs.Common.{◌≡◌, ℕ, suc, ◌+◌, ◌<◌, ◌≤◌, Bool, true, false, eqb, ltb, ◌≢◌, List, [], ◌∷◌, ◌++◌, length, get_or, set, pos, sym, refl, ap, ◌∙◌, subst, ap₂, arith, length-append, length-set, get_or-set_other, get_or-set_same, ltb-false, ltb-true, le-ltb, lt-ltb, eqb-true}
use lib.ListN.{get_or-append}
use lib.Seq.{get_or-append_seam}
use borrow.Author.Tests.{eqb-false}
use Rattle.arm.specs.declared.Instr.{Instr}
use Rattle.arm.specs.Instr.{encode}
use Rattle.code.specs.Items.{pick, Hole, fill, label, literal, Item, ins, go, new, bind, size, index, add, pool_of, Below}
use Rattle.code.specs.declared.Fix.{Fix}
use Rattle.code.specs.declared.Fix.TheVariants.{B26}
use Rattle.code.specs.Emit.{kind, Goal, to_label, to_entry, Fixup, St, lay}
use Rattle.code.specs.Emit.{fixed as fixed_e, put as put_e, run as run_e}
use Rattle.code.specs.Calls.{bumped}
use Rattle.code.proofs.Calls.{bump}
use Rattle.code.proofs.Order.{lay-put}
use Rattle.asm.specs.declared.Reference.{Reference}
use Rattle.asm.specs.declared.Reference.TheVariants.{ToLabel, ToPool}
use Rattle.asm.specs.State.{label_room, literal_room, fixup_room, literals_at, fixups_at, table_room}
use Rattle.asm.specs.State.{State, parts, counts, at_most, labelled, label_of, packed, fixup, literals_from, word, made, fixed, kept, held}
use Rattle.asm.specs.State.{keep_at, put, run}

-- a fix-up's reference as the code has it, and its number in the table
abbrev pub reference_to : Goal → Fix → Reference
reference_to (to_label l) f = ToLabel (label_of l) f
reference_to (to_entry i) f = ToPool i

unfoldable pub number : Fixup → ℕ
number f = packed f.at (reference_to f.goal f.field)

abbrev pub nobody : Fixup
nobody = record { at = 0; goal = to_label 0; field = B26 }

pub record Tracks (lent : List ℕ) (s : State) (p : St) : Type 0 where
  pub words : s.words ≡ lay p.words lent
  pub at : s.asm.at ≡ length p.words
  pub made : s.asm.labels ≡ p.made
  pub fixups : s.asm.fixups ≡ length p.fixes
  pub literals : s.asm.literals ≡ length p.pool
  pub table : length s.tab ≡ table_room
  pub labels_length : length p.labels ≡ label_room
  pub few : length p.pool ≤ literal_room
  pub labels : (l : ℕ) → l < label_room → get_or s.tab l 0 ≡ get_or p.labels l 0
  pub pool : (i : ℕ) → i < length p.pool → get_or s.tab (literals_at + i) 0 ≡ get_or p.pool i 0
  pub fixes : (n : ℕ) → n < length p.fixes → get_or s.tab (fixups_at + n) 0 ≡ number (get_or p.fixes n nobody)

-- ---- lists and counts
snoc : {A : Type 0} (xs : List A) (a : A) → length (xs ++ (a ∷ [])) ≡ suc (length xs)
snoc xs a = length-append xs (a ∷ []) ∙ omega arith

counted : {A : Type 0} (n : ℕ) (xs : List A) (a : A) → n ≡ length xs → length xs < 1048576 → bumped n ≡ length (xs ++ (a ∷ []))
counted n xs a e h = ap bumped e ∙ bump (length xs) h ∙ sym (snoc xs a)

-- an entry of a list with one more behind
snoc_at : {A : Type 0} (P : ℕ → A → Type 0) (xs : List A) (a d : A) → ((n : ℕ) → n < length xs → P n (get_or xs n d)) → P (length xs) a → (n : ℕ) → n < length (xs ++ (a ∷ [])) → P n (get_or (xs ++ (a ∷ [])) n d)
snoc_at P xs a d f q n h = by (ltb n (length xs)) refl
  where
    by : (t : Bool) → ltb n (length xs) ≡ t → P n (get_or (xs ++ (a ∷ [])) n d)
    by true e = let l : n < length xs = ltb-true n (length xs) e in subst (P n) (sym (get_or-append xs (a ∷ []) d n l)) (f n l)
    by false e =
        let m : n ≡ length xs = omega (arith, ltb-false n (length xs) e, snoc xs a) in
        subst (λ k. P k (get_or (xs ++ (a ∷ [])) k d)) (sym m) (subst (P (length xs)) (sym (get_or-append_seam xs a [] d)) q)

-- ---- each step keeps the invariant
module _ (lent : List ℕ) where
  tracks-ins : (i : Instr) (s : State) (p : St) → Tracks lent s p → length p.words < 1048576 → Tracks lent (put (ins i) s) (put_e (ins i) p)
  unfolding put put_e word
  tracks-ins i s p t h = record {
    words = ap₂ (λ (x : List ℕ) (n : ℕ). set x n (encode i)) t.words t.at ∙ lay-put p.words lent (encode i);
    at = counted s.asm.at p.words (encode i) t.at h;
    made = t.made;
    fixups = t.fixups;
    literals = t.literals;
    table = t.table;
    labels_length = t.labels_length;
    few = t.few;
    labels = t.labels;
    pool = t.pool;
    fixes = t.fixes;
  }

  tracks-new : (s : State) (p : St) → Tracks lent s p → p.made < 1048576 → Tracks lent (put new s) (put_e new p)
  unfolding put put_e made
  tracks-new s p t h = record {
    words = t.words;
    at = t.at;
    made = ap bumped t.made ∙ bump p.made h;
    fixups = t.fixups;
    literals = t.literals;
    table = t.table;
    labels_length = t.labels_length;
    few = t.few;
    labels = t.labels;
    pool = t.pool;
    fixes = t.fixes;
  }

  -- a store into one part of the table leaves the others
  other : (t : List ℕ) (i j v : ℕ) → j ≢ i → get_or (set t i v) j 0 ≡ get_or t j 0
  other t i j v n = get_or-set_other t i j v 0 n

  label_at : (t ls : List ℕ) (l v : ℕ) → length t ≡ table_room → length ls ≡ label_room → l < label_room → ((k : ℕ) → k < label_room → get_or t k 0 ≡ get_or ls k 0) → (k : ℕ) → k < label_room → get_or (set t l v) k 0 ≡ get_or (set ls l v) k 0
  label_at t ls l v a c h f k m = by (eqb k l) refl
    where
      by : (r : Bool) → eqb k l ≡ r → get_or (set t l v) k 0 ≡ get_or (set ls l v) k 0
      by true e =
          let q : k ≡ l = eqb-true k l e in
          ap (λ x. get_or (set t l v) x 0) q ∙ get_or-set_same t l v 0 (omega arith) ∙ sym (get_or-set_same ls l v 0 (omega arith)) ∙ ap (λ x. get_or (set ls l v) x 0) (sym q)
      by false e = other t l k v (eqb-false k l e) ∙ f k m ∙ sym (other ls l k v (eqb-false k l e))

  tracks_bind : (l : ℕ) (s : State) (p : St) → Tracks lent s p → l < label_room → Tracks lent (put (bind l) s) (put_e (bind l) p)
  unfolding put put_e labelled
  tracks_bind l s p t h = rw (lt-ltb l label_room h) (record {
    words = t.words;
    at = t.at;
    made = t.made;
    fixups = t.fixups;
    literals = t.literals;
    table = length-set s.tab l s.asm.at ∙ t.table;
    labels_length = length-set p.labels l (length p.words) ∙ t.labels_length;
    few = t.few;
    labels = λ k m. label_at s.tab p.labels l s.asm.at t.table t.labels_length h t.labels k m ∙ ap (λ x. get_or (set p.labels l x) k 0) t.at;
    pool = λ i m. other s.tab l (literals_at + i) s.asm.at (omega arith) ∙ t.pool i m;
    fixes = λ n m. other s.tab l (fixups_at + n) s.asm.at (omega arith) ∙ t.fixes n m;
  })

  -- a word with its fix-up
  tracks-fixed : (h : Hole) (g : Goal) (s : State) (p : St) → Tracks lent s p → length p.words < 1048576 → length p.fixes < fixup_room
      → Tracks lent (fixed (reference_to g (kind h)) (encode (fill h (pos 0))) s) (fixed_e h g p.pool p)
  unfolding fixed fixed_e fixup number
  tracks-fixed h g s p t a c =
      let w : ℕ = encode (fill h (pos 0)) in
      let f : Fixup = record { at = length p.words; goal = g; field = kind h } in
      let v : ℕ = packed s.asm.at (reference_to g (kind h)) in
      let n : ℕ = s.asm.fixups in
      let e : n ≡ length p.fixes = t.fixups in
      rw (lt-ltb n fixup_room (omega arith)) (record {
        words = ap₂ (λ (x : List ℕ) (k : ℕ). set x k w) t.words t.at ∙ lay-put p.words lent w;
        at = counted s.asm.at p.words w t.at a;
        made = t.made;
        fixups = counted n p.fixes f e (omega arith);
        literals = t.literals;
        table = length-set s.tab (fixups_at + n) v ∙ t.table;
        labels_length = t.labels_length;
        few = t.few;
        labels = λ k m. other s.tab (fixups_at + n) k v (omega arith) ∙ t.labels k m;
        pool = λ i m. other s.tab (fixups_at + n) (literals_at + i) v (omega (arith, t.few)) ∙ t.pool i m;
        fixes = snoc_at (λ k x. get_or (set s.tab (fixups_at + n) v) (fixups_at + k) 0 ≡ number x) p.fixes f nobody
            (λ k m. other s.tab (fixups_at + n) (fixups_at + k) v (omega arith) ∙ t.fixes k m)
            (ap (λ k. get_or (set s.tab (fixups_at + n) v) (fixups_at + k) 0) (sym e)
            ∙ get_or-set_same s.tab (fixups_at + n) v 0 (omega (arith, t.table))
            ∙ ap (λ k. packed k (reference_to g (kind h))) t.at);
      })

-- ---- literals
literals_are : (i : ℕ) (xs t : List ℕ) → ((j : ℕ) → j < length xs → get_or t (literals_at + (i + j)) 0 ≡ get_or xs j 0) → literals_from i (length xs) t ≡ xs
unfolding literals_from
literals_are i [] t f = refl
literals_are i (x ∷ xs) t f =
    ap₂ (λ (a : ℕ) (r : List ℕ). a ∷ r) (ap (λ n. get_or t (literals_at + n) 0) (let e : i ≡ i + 0 = omega arith in e) ∙ f 0 (omega arith))
    (literals_are (suc i) xs t (λ j h. ap (λ n. get_or t (literals_at + n) 0) (let e : suc i + j ≡ i + suc j = omega arith in e) ∙ f (suc j) (omega arith)))

most : (m n : ℕ) → n ≤ m → at_most m n ≡ n
most m n h = rw (le-ltb m n h)

add_there : (v : ℕ) (ps : List ℕ) → index v ps < length ps → add v ps ≡ ps
unfolding index add
add_there v [] h = absurd (omega arith)
add_there v (x ∷ xs) h = by (λ y. add_there v xs y) (eqb v x) h
  where
    by : (index v xs < length xs → add v xs ≡ xs) → (t : Bool) → pick t 0 (suc (index v xs)) < suc (length xs) → pick t (x ∷ xs) (x ∷ add v xs) ≡ x ∷ xs
    by rec true k = refl
    by rec false k = ap {B = List ℕ} (λ r. x ∷ r) (rec (omega arith))

add-behind : (v : ℕ) (ps : List ℕ) → length ps ≤ index v ps → add v ps ≡ ps ++ (v ∷ [])
unfolding index add
add-behind v [] h = refl
add-behind v (x ∷ xs) h = by (λ y. add-behind v xs y) (eqb v x) h
  where
    by : (length xs ≤ index v xs → add v xs ≡ xs ++ (v ∷ [])) → (t : Bool) → suc (length xs) ≤ pick t 0 (suc (index v xs)) → pick t (x ∷ xs) (x ∷ add v xs) ≡ x ∷ (xs ++ (v ∷ []))
    by rec true k = absurd (omega arith)
    by rec false k = ap {B = List ℕ} (λ r. x ∷ r) (rec (omega arith))

abbrev pooled : St → List ℕ → St
pooled p ps = record { words = p.words; labels = p.labels; made = p.made; fixes = p.fixes; pool = ps }

module _ (lent : List ℕ) (s : State) (p : St) (t : Tracks lent s p) where
  pub kept_is : kept s ≡ length p.pool
  kept_is = ap (at_most literal_room) t.literals ∙ most literal_room (length p.pool) t.few

  pub held_is : held s ≡ p.pool
  unfolding held
  held_is = ap (λ n. literals_from 0 n s.tab) kept_is ∙ literals_are 0 p.pool s.tab (λ j h. ap (λ n. get_or s.tab (literals_at + n) 0) (let e : 0 + j ≡ j = omega arith in e) ∙ t.pool j h)

  -- one literal more
  kept_new : (v : ℕ) → length p.pool < literal_room
      → Tracks lent (parts s.words (set s.tab (literals_at + kept s) v) (counts s.asm.at s.asm.labels s.asm.fixups (suc (kept s)))) (pooled p (p.pool ++ (v ∷ [])))
  kept_new v h =
      let k : ℕ = kept s in
      let e : k ≡ length p.pool = kept_is in
      record {
        words = t.words;
        at = t.at;
        made = t.made;
        fixups = t.fixups;
        literals = ap suc e ∙ sym (snoc p.pool v);
        table = length-set s.tab (literals_at + k) v ∙ t.table;
        labels_length = t.labels_length;
        few = omega (arith, snoc p.pool v);
        labels = λ l m. other lent s.tab (literals_at + k) l v (omega arith) ∙ t.labels l m;
        pool = snoc_at (λ i x. get_or (set s.tab (literals_at + k) v) (literals_at + i) 0 ≡ x) p.pool v 0
            (λ i m. other lent s.tab (literals_at + k) (literals_at + i) v (omega arith) ∙ t.pool i m)
            (ap (λ i. get_or (set s.tab (literals_at + k) v) (literals_at + i) 0) (sym e) ∙ get_or-set_same s.tab (literals_at + k) v 0 (omega (arith, t.table)));
        fixes = λ n m. other lent s.tab (literals_at + k) (fixups_at + n) v (omega arith) ∙ t.fixes n m;
      }

  tracks-keep : (v : ℕ) → length (add v p.pool) ≤ literal_room → Tracks lent (keep_at (index v p.pool) v s) (pooled p (add v p.pool))
  unfolding keep_at
  tracks-keep v h = by (ltb (index v p.pool) (kept s)) refl
    where
      by : (r : Bool) → ltb (index v p.pool) (kept s) ≡ r → Tracks lent (keep_at (index v p.pool) v s) (pooled p (add v p.pool))
      by true e =
          let l : index v p.pool < length p.pool = omega (arith, ltb-true (index v p.pool) (kept s) e, kept_is) in
          rw (e, add_there v p.pool l) t
      by false e =
          let l : length p.pool ≤ index v p.pool = omega (arith, ltb-false (index v p.pool) (kept s) e, kept_is) in
          let a : add v p.pool ≡ p.pool ++ (v ∷ []) = add-behind v p.pool l in
          let m : length p.pool < literal_room = omega (arith, h, ap length a, snoc p.pool v) in
          rw (e, lt-ltb (kept s) literal_room (omega (arith, kept_is)), a) (kept_new v m)

-- ---- ITEMS IN ORDER
unfoldable pub news : List Item → ℕ
news [] = 0
news (ins i ∷ is) = news is
news (go h t ∷ is) = news is
news (new ∷ is) = suc (news is)
news (bind l ∷ is) = news is

unfoldable pub goes : List Item → ℕ
goes [] = 0
goes (ins i ∷ is) = goes is
goes (go h t ∷ is) = suc (goes is)
goes (new ∷ is) = goes is
goes (bind l ∷ is) = goes is

-- the counts and the tables have room for these items
pub record Roomy (is : List Item) (p : St) : Type 0 where
  pub words : length p.words + size is ≤ 1048576
  pub made : p.made + news is ≤ 1048576
  pub fixes : length p.fixes + goes is ≤ fixup_room
  pub pool : length (pool_of p.pool is) ≤ literal_room
  pub labels : Below label_room is

pub pool_grows : (ps : List ℕ) (is : List Item) → length ps ≤ length (pool_of ps is)
unfolding pool_of
pool_grows ps [] = omega arith
pool_grows ps (ins i ∷ is) = pool_grows ps is
pool_grows ps (go h (label l) ∷ is) = pool_grows ps is
pool_grows ps (go h (literal v) ∷ is) = omega (arith, pool_grows (add v ps) is, add-length v ps)
  where
    add-length : (v : ℕ) (ps : List ℕ) → length ps ≤ length (add v ps)
    add-length v ps = by (ltb (index v ps) (length ps)) refl
      where
        by : (r : Bool) → ltb (index v ps) (length ps) ≡ r → length ps ≤ length (add v ps)
        by true e = omega (arith, ap length (add_there v ps (ltb-true (index v ps) (length ps) e)))
        by false e = omega (arith, ap length (add-behind v ps (ltb-false (index v ps) (length ps) e)), snoc ps v)
pool_grows ps (new ∷ is) = pool_grows ps is
pool_grows ps (bind l ∷ is) = pool_grows ps is

pub tracks-run : (lent : List ℕ) (is : List Item) (s : State) (p : St) → Tracks lent s p → Roomy is p → Tracks lent (run is s) (run_e is p)
unfolding run run_e put put_e fixed_e size news goes pool_of Below
tracks-run lent [] s p t r = t
tracks-run lent (ins i ∷ is) s p t r =
    tracks-run lent is (put (ins i) s) (put_e (ins i) p) (tracks-ins lent i s p t (omega (arith, r.words)))
    (record { words = omega (arith, r.words, snoc p.words (encode i)); made = r.made; fixes = r.fixes; pool = r.pool; labels = r.labels })
tracks-run lent (go h (label l) ∷ is) s p t r =
    tracks-run lent is (put (go h (label l)) s) (put_e (go h (label l)) p) (tracks-fixed lent h (to_label l) s p t (omega (arith, r.words)) (omega (arith, r.fixes)))
    (record { words = omega (arith, r.words, snoc p.words (encode (fill h (pos 0)))); made = r.made; fixes = omega (arith, r.fixes, snoc p.fixes (record { at = length p.words; goal = to_label l; field = kind h })); pool = r.pool; labels = r.labels })
tracks-run lent (go h (literal v) ∷ is) s p t r =
    tracks-run lent is (put (go h (literal v)) s) (put_e (go h (literal v)) p)
    (rw (held_is lent s p t)
    (tracks-fixed lent h (to_entry (index v p.pool)) (keep_at (index v p.pool) v s) (pooled p (add v p.pool))
    (tracks-keep lent s p t v (omega (arith, r.pool, pool_grows (add v p.pool) is))) (omega (arith, r.words)) (omega (arith, r.fixes))))
    (record { words = omega (arith, r.words, snoc p.words (encode (fill h (pos 0)))); made = r.made; fixes = omega (arith, r.fixes, snoc p.fixes (record { at = length p.words; goal = to_entry (index v p.pool); field = kind h })); pool = r.pool; labels = r.labels })
tracks-run lent (new ∷ is) s p t r =
    tracks-run lent is (put new s) (put_e new p) (tracks-new lent s p t (omega (arith, r.made))) (record { words = r.words; made = omega (arith, r.made); fixes = r.fixes; pool = r.pool; labels = r.labels })
tracks-run lent (bind l ∷ is) s p t r =
    tracks-run lent is (put (bind l) s) (put_e (bind l) p) (tracks_bind lent l s p t r.labels.0) (record { words = r.words; made = r.made; fixes = r.fixes; pool = r.pool; labels = r.labels.1 })
