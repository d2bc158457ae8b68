-- The patches in one walk or in the Rust's two give the same words; each patch of the walk leaves the final word in its place; and the
-- same in lent room.
use mathlib.Core.Path.{◌≡◌, refl, sym, ap, ◌∙◌}
use mathlib.Core.Logic.{◌≢◌}
use mathlib.Core.Bool.{Bool, true, false}
use mathlib.Core.List.{List, [], ◌∷◌, ◌++◌}
use Prim.Native.Nat.{ℕ, zero, suc, ◌+◌, ◌-◌, ◌%◌, ◌^◌, ◌<◌, ◌≤◌}
use native.Mathlib.Omega.{arith}
use lib.Dec.{ltb}
use borrow.Author.Tests.{ltb-true, ltb-false}
use lib.ListN.{length, get_or, set, take, drop, length-append, length-set}
use lib.Seq.{get_or-set_same, get_or-set_other, get_or-take, set_comm, take-set-le, set_out, take-suc}
use Rattle.code.specs.Items.{label, literal, Item, ins, go, new, bind, dist, size, add, halves, pad_of, Rise}
use Rattle.code.specs.Emit.{patch, Goal, to_label, to_entry, Fixup, patched_word, patched, patch_all, pooled_words, leads, fixes_at}
use Rattle.code.specs.Emit.{pick_goal, entries_of, branches_of, lay, St, run, start, finish, finish_in_two}
use Rattle.code.specs.Walk.{completed_at}
use Rattle.code.proofs.Emit.{raw, raw-size, fixes_of, run-words, run-fixes}

-- ---- rising positions
pub rise_le : (p q : ℕ) (xs : List ℕ) → Rise p q xs → p ≤ q
rise_le p q [] r = r
rise_le p q (x ∷ xs) r = omega (arith, r.0, rise_le (suc x) q xs r.1)

pub rise_from : (p p' q : ℕ) (xs : List ℕ) → p ≤ p' → Rise p' q xs → Rise p q xs
rise_from p p' q [] h r = omega arith
rise_from p p' q (x ∷ xs) h r = (omega (arith, r.0), r.1)

pub rise_below : (p q q' : ℕ) (xs : List ℕ) → q ≤ q' → Rise p q xs → Rise p q' xs
rise_below p q q' [] h r = omega arith
rise_below p q q' (x ∷ xs) h r = (r.0, rise_below (suc x) q q' xs h r.1)

pub rise_append : (p q r : ℕ) (xs ys : List ℕ) → Rise p q xs → Rise q r ys → Rise p r (xs ++ ys)
rise_append p q r [] ys h k = rise_from p q r ys h k
rise_append p q r (x ∷ xs) ys h k = (h.0, rise_append (suc x) q r xs ys h.1 k)

-- the fix-ups' positions rise as the items are emitted
rising : (p q : ℕ) (ps : List ℕ) (is : List Item) → p + size is ≤ q → Rise p q (fixes_at (fixes_of p ps is))
unfolding fixes_of size
rising p q ps [] h = omega arith
rising p q ps (ins i ∷ is) h = rise_from p (suc p) q (fixes_at (fixes_of (suc p) ps is)) (omega arith) (rising (suc p) q ps is (omega arith))
rising p q ps (go k (label l) ∷ is) h = (omega arith, rising (suc p) q ps is (omega arith))
rising p q ps (go k (literal v) ∷ is) h = (omega arith, rising (suc p) q (add v ps) is (omega arith))
rising p q ps (new ∷ is) h = rising p q ps is h
rising p q ps (bind l ∷ is) h = rising p q ps is h

module _ (to : Goal → ℕ) where
  -- ---- two patches at two places
  swap : (f g : Fixup) (ws : List ℕ) → f.at ≢ g.at → patched to g (patched to f ws) ≡ patched to f (patched to g ws)
  unfolding patched
  swap f g ws n =
      let a : ℕ = patched_word to f ws in
      let c : ℕ = patched_word to g ws in
      ap (λ w. set (set ws f.at a) g.at ((w + patch g.field (dist (to g.goal) g.at)) % 2 ^ 32)) (get_or-set_other ws f.at g.at a 0 (λ e. n (sym e)))
      ∙ set_comm ws f.at g.at a c n
      ∙ ap (λ w. set (set ws g.at c) f.at ((w + patch f.field (dist (to f.goal) f.at)) % 2 ^ 32)) (sym (get_or-set_other ws g.at f.at c 0 n))

  -- a patch before all of a list of later ones, or behind them
  past : (p q : ℕ) (f : Fixup) (gs : List Fixup) (ws : List ℕ) → f.at < p → Rise p q (fixes_at gs)
      → patch_all to gs (patched to f ws) ≡ patched to f (patch_all to gs ws)
  unfolding patch_all
  past p q f [] ws h r = refl
  past p q f (g ∷ gs) ws h r =
      ap (patch_all to gs) (swap f g ws (omega (arith, r.0))) ∙ past (suc g.at) q f gs (patched to g ws) (omega (arith, r.0)) r.1

  rising_entries : (p q : ℕ) (fs : List Fixup) → Rise p q (fixes_at fs) → Rise p q (fixes_at (entries_of fs))
  unfolding entries_of
  rising_entries p q [] r = r
  rising_entries p q (f ∷ fs) r = by (rising_entries (suc f.at) q fs r.1) f.goal
    where
      by : Rise (suc f.at) q (fixes_at (entries_of fs)) → (g : Goal) → Rise p q (fixes_at (pick_goal g (entries_of fs) (f ∷ entries_of fs)))
      by s (to_label l) = rise_from p (suc f.at) q (fixes_at (entries_of fs)) (omega (arith, r.0)) s
      by s (to_entry i) = (r.0, s)

  -- the Rust's order and one walk by rising position give the same words
  one_or_two : (p q : ℕ) (fs : List Fixup) (ws : List ℕ) → Rise p q (fixes_at fs)
      → patch_all to (branches_of fs) (patch_all to (entries_of fs) ws) ≡ patch_all to fs ws
  unfolding patch_all branches_of entries_of
  one_or_two p q [] ws r = refl
  one_or_two p q (f ∷ fs) ws r = by (one_or_two (suc f.at) q fs (patched to f ws) r.1) f.goal
    where
      by : patch_all to (branches_of fs) (patch_all to (entries_of fs) (patched to f ws)) ≡ patch_all to fs (patched to f ws) → (g : Goal)
          → patch_all to (pick_goal g (f ∷ branches_of fs) (branches_of fs)) (patch_all to (pick_goal g (entries_of fs) (f ∷ entries_of fs)) ws) ≡ patch_all to fs (patched to f ws)
      by e (to_label l) =
          let s : Rise (suc f.at) q (fixes_at (entries_of fs)) = rising_entries (suc f.at) q fs r.1 in
          ap (patch_all to (branches_of fs)) (sym (past (suc f.at) q f (entries_of fs) ws (omega arith) s)) ∙ e
      by e (to_entry i) = e

  -- later patches leave the words before them
  later : (p q : ℕ) (fs : List Fixup) (ws : List ℕ) → Rise p q (fixes_at fs) → take p (patch_all to fs ws) ≡ take p ws
  unfolding patch_all patched
  later p q [] ws r = refl
  later p q (f ∷ fs) ws r =
      later p q fs (patched to f ws) (rise_from p (suc f.at) q (fixes_at fs) (omega (arith, r.0)) r.1)
      ∙ take-set-le p ws f.at (patched_word to f ws) r.0

  -- a patch leaves the final word in its place
  patch-final : (p q : ℕ) (f : Fixup) (fs : List Fixup) (ws : List ℕ) → q ≤ length ws → Rise p q (fixes_at (f ∷ fs))
      → patched to f ws ≡ set ws f.at (get_or (patch_all to fs (patched to f ws)) f.at 0)
  unfolding patched
  patch-final p q f fs ws l r =
      let v : ℕ = patched_word to f ws in
      let ws' : List ℕ = patch_all to fs (patched to f ws) in
      ap (set ws f.at)
      (sym (get_or-set_same ws f.at v 0 (omega (arith, rise_le (suc f.at) q (fixes_at fs) r.1)))
      ∙ sym (get_or-take (suc f.at) (patched to f ws) f.at 0 (omega arith))
      ∙ ap (λ xs. get_or xs f.at 0) (sym (later (suc f.at) q fs (patched to f ws) r.1))
      ∙ get_or-take (suc f.at) ws' f.at 0 (omega arith))

  -- THE FIRST n PATCHES OF THE ASSEMBLER are those of a walk over their positions
  patches-walk : (p q n : ℕ) (fs : List Fixup) (ws : List ℕ) → q ≤ length ws → Rise p q (fixes_at fs)
      → patch_all to (take n fs) ws ≡ completed_at (take n (fixes_at fs)) (patch_all to fs ws) ws
  unfolding patch_all completed_at patched
  patches-walk p q zero fs ws l r = refl
  patches-walk p q (suc n) [] ws l r = refl
  patches-walk p q (suc n) (f ∷ fs) ws l r =
      patches-walk (suc f.at) q n fs (patched to f ws) (omega (arith, length-set ws f.at (patched_word to f ws))) r.1
      ∙ ap (completed_at (take n (fixes_at fs)) (patch_all to fs (patched to f ws))) (patch-final p q f fs ws l r)

  pub patch_all-append : (fs gs : List Fixup) (ws : List ℕ) → patch_all to (fs ++ gs) ws ≡ patch_all to gs (patch_all to fs ws)
  unfolding patch_all
  patch_all-append [] gs ws = refl
  patch_all-append (f ∷ fs) gs ws = patch_all-append fs gs (patched to f ws)

  -- ---- a loop over a table of fix-ups: one patch more
  pub patch_next : (d : Fixup) (n : ℕ) (fs : List Fixup) (ws : List ℕ) → n < length fs → patch_all to (take (suc n) fs) ws ≡ patched to (get_or fs n d) (patch_all to (take n fs) ws)
  unfolding patch_all
  patch_next d n fs ws h = ap (λ l. patch_all to l ws) (take-suc fs n d h) ∙ patch_all-append (take n fs) (get_or fs n d ∷ []) ws

-- ---- lent room
pub lay-put : {A : Type 0} (xs lent : List A) (a : A) → set (lay xs lent) (length xs) a ≡ lay (xs ++ (a ∷ [])) lent
lay-put [] [] a = refl
lay-put [] (y ∷ lent) a = refl
lay-put (x ∷ xs) [] a = refl
lay-put (x ∷ xs) (y ∷ lent) a = ap {B = List _} (λ l. x ∷ l) (lay-put xs lent a)

pub lay-set : {A : Type 0} (xs lent : List A) (i : ℕ) (a : A) → i < length xs → set (lay xs lent) i a ≡ lay (set xs i a) lent
lay-set [] lent i a h = absurd (omega arith)
lay-set (x ∷ xs) [] zero a h = refl
lay-set (x ∷ xs) [] (suc i) a h = refl
lay-set (x ∷ xs) (y ∷ lent) zero a h = refl
lay-set (x ∷ xs) (y ∷ lent) (suc i) a h = ap {B = List _} (λ l. x ∷ l) (lay-set xs lent i a (omega arith))

pub lay_get : {A : Type 0} (xs lent : List A) (i : ℕ) (d : A) → i < length xs → i < length lent → get_or (lay xs lent) i d ≡ get_or xs i d
lay_get [] lent i d h k = absurd (omega arith)
lay_get (x ∷ xs) [] i d h k = absurd (omega arith)
lay_get (x ∷ xs) (y ∷ lent) zero d h k = refl
lay_get (x ∷ xs) (y ∷ lent) (suc i) d h k = lay_get xs lent i d (omega arith) (omega arith)

pub lay-length : {A : Type 0} (xs lent : List A) → length (lay xs lent) ≡ length lent
lay-length [] lent = refl
lay-length (x ∷ xs) [] = refl
lay-length (x ∷ xs) (y ∷ lent) = ap suc (lay-length xs lent)

pub lay-fits : {A : Type 0} (xs lent : List A) → length xs ≤ length lent → lay xs lent ≡ xs ++ drop (length xs) lent
lay-fits [] lent h = refl
lay-fits (x ∷ xs) [] h = absurd (omega arith)
lay-fits (x ∷ xs) (y ∷ lent) h = ap {B = List _} (λ l. x ∷ l) (lay-fits xs lent (omega arith))

-- ---- patches in lent room: a word that is not there is not patched
lay-patched : (to : Goal → ℕ) (f : Fixup) (ws lent : List ℕ) → f.at < length ws → patched to f (lay ws lent) ≡ lay (patched to f ws) lent
unfolding patched
lay-patched to f ws lent h = by (ltb f.at (length lent)) refl
  where
    new : ℕ → ℕ
    new w = (w + patch f.field (dist (to f.goal) f.at)) % 2 ^ 32

    by : (t : Bool) → ltb f.at (length lent) ≡ t → set (lay ws lent) f.at (new (get_or (lay ws lent) f.at 0)) ≡ lay (set ws f.at (new (get_or ws f.at 0))) lent
    by true e = ap (λ w. set (lay ws lent) f.at (new w)) (lay_get ws lent f.at 0 h (ltb-true f.at (length lent) e)) ∙ lay-set ws lent f.at (new (get_or ws f.at 0)) h
    by false e =
        let o : length (lay ws lent) ≤ f.at = rw (lay-length ws lent) (ltb-false f.at (length lent) e) in
        set_out (lay ws lent) f.at (new (get_or (lay ws lent) f.at 0)) o ∙ sym (set_out (lay ws lent) f.at (new (get_or ws f.at 0)) o) ∙ lay-set ws lent f.at (new (get_or ws f.at 0)) h

lay_first : (to : Goal → ℕ) (p q n : ℕ) (fs : List Fixup) (ws lent : List ℕ) → q ≤ length ws → Rise p q (fixes_at fs)
    → patch_all to (take n fs) (lay ws lent) ≡ lay (patch_all to (take n fs) ws) lent
unfolding patch_all patched
lay_first to p q zero fs ws lent l r = refl
lay_first to p q (suc n) [] ws lent l r = refl
lay_first to p q (suc n) (f ∷ fs) ws lent l r =
    ap (patch_all to (take n fs)) (lay-patched to f ws lent (omega (arith, rise_le (suc f.at) q (fixes_at fs) r.1)))
    ∙ lay_first to (suc f.at) q n fs (patched to f ws) lent (omega (arith, length-set ws f.at (patched_word to f ws))) r.1

-- ---- of items emitted
module _ (table : List ℕ) (is : List Item) where
  abbrev s : St
  s = run is (start table)

  rising-run : Rise 0 (length (pooled_words s)) (fixes_at s.fixes)
  unfolding start
  rising-run = rw (run-fixes is (start table)) (rising 0 (length (pooled_words s)) [] is size-le)
    where
      size-le : 0 + size is ≤ length (pooled_words s)
      size-le = rw (run-words is (start table), length-append (raw is) (pad_of (length (raw is)) s.pool ++ halves s.pool), raw-size is) (omega arith)

  -- THE RUST'S TWO WALKS leave the same words
  pub two_walks : finish_in_two s ≡ finish s
  unfolding finish_in_two finish
  two_walks = one_or_two (leads s) 0 (length (pooled_words s)) s.fixes (pooled_words s) rising-run

  -- THE WALK IN THE LENT WORDS: behind its first n patches, with no condition on the room
  pub walk-lent : (n : ℕ) (lent : List ℕ)
      → patch_all (leads s) (take n s.fixes) (lay (pooled_words s) lent) ≡ lay (completed_at (take n (fixes_at s.fixes)) (finish s) (pooled_words s)) lent
  unfolding finish
  walk-lent n lent =
      lay_first (leads s) 0 (length (pooled_words s)) n s.fixes (pooled_words s) lent (omega arith) rising-run
      ∙ ap (λ ws. lay ws lent) (patches-walk (leads s) 0 (length (pooled_words s)) n s.fixes (pooled_words s) (omega arith) rising-run)
