-- The sites stand in the one order that rises: `one_order` of lists of any length, `in_order` of a block. Sorting by position leaves a
-- sorted list as it is, and makes the same list of any two rearrangements where no two positions are equal.
use mathlib.Core.Path.{◌≡◌, refl, sym, ap, ap₂, ◌∙◌}
use mathlib.Core.Logic.{◌≢◌, ∥∥₁_elim}
use mathlib.Core.Bool.{Bool, true, false}
use mathlib.Core.HLevel.{¬_prop, Σ_set}
use mathlib.Core.List.{List, [], ◌∷◌, map, Memᴰ, Mem, Nodup, is_set, mem-cons_self}
use mathlib.Core.List.Permᴰ
use mathlib.Core.List.Pairwise
use mathlib.Core.List.{Pairwise, perm_ext_iff_of_Nodup}
use mathlib.Core.List.{Permᴰ}
use mathlib.Core.List.Perm
use mathlib.Core.List.{Perm}
use Prim.Native.Nat.{ℕ, suc, ◌+◌, ◌<◌, ◌≤◌}
use native.Mathlib.Nat.{ℕ_set}
use native.Mathlib.Bridge.{le_prop}
use native.Mathlib.Omega.{arith}
use ghost.Sets.{retract_set}
use lib.Dec.{ltb}
use lib.ListN.{length}
use borrow.Author.Tests.{ltb-true, ltb-false, lt-ltb, le-ltb}
use Rattle.block.specs.declared.Block.{Block}
use Rattle.code.specs.Items.{Rise}
use Rattle.code.specs.Tree.{words}
use Rattle.code.proofs.Order.{rise_below}
use Rattle.code.proofs.Tree.{whole-size, whole_length}
use Rattle.lowering.specs.declared.Site.{Site}
use Rattle.lowering.specs.Fragments.{closing}
use Rattle.lowering.specs.Steps.{block_steps}
use Rattle.lowering.specs.Compile.{block_code, block_lines, block_words, starts, targets, zip_sites, sites}
use Rattle.bounds.proofs.Sites.{sited}
use Rattle.execution.proofs.Steps.{lines-words}
use Rattle.answers.specs.Sites.{positions, ListedOnce, insert_site, by_position, OneOrder, InOrder}

-- ---- where positions rise, each site stands before those behind it
abbrev Before : Site → Site → Type 0
Before s t = s.at < t.at

abbrev Elsewhere : Site → Site → Type 0
Elsewhere s t = s.at ≢ t.at

from : (p q : ℕ) (ss : List Site) (t : Site) → Rise p q (positions ss) → Memᴰ t ss → p ≤ t.at
from p q [] t r m = elim m [ ]
from p q (s ∷ ss) t r (Memᴰ.head e) = omega (arith, r.0, ap (λ (u : Site). u.at) e)
from p q (s ∷ ss) t r (Memᴰ.tail m) = omega (arith, r.0, from (suc s.at) q ss t r.1 m)

before : (p q : ℕ) (ss : List Site) → Rise p q (positions ss) → Pairwise Before ss
before p q [] r = Pairwise.nil
before p q (s ∷ ss) r =
    Pairwise.cons {a = s} (λ t m. ∥∥₁_elim m le_prop (from (suc s.at) q ss t r.1)) (before (suc s.at) q ss r.1)

-- ---- a sorted list is left as it is
insert_first : (s : Site) (ts : List Site) → ((t : Site) → Mem t ts → s.at ≤ t.at) → insert_site s ts ≡ s ∷ ts
insert_first s [] h = refl
insert_first s (t ∷ ts) h = rw (le-ltb t.at s.at (h t mem-cons_self))

sorted-stays : (ss : List Site) → Pairwise (λ s t. s.at ≤ t.at) ss → by_position ss ≡ ss
sorted-stays [] h = refl
sorted-stays (s ∷ ss) (Pairwise.cons h k) = ap (insert_site s) (sorted-stays ss k) ∙ insert_first s ss h

rising_stays : (p q : ℕ) (ss : List Site) → Rise p q (positions ss) → by_position ss ≡ ss
rising_stays p q ss r = sorted-stays ss (Pairwise.imp (λ s t h. omega arith) (before p q ss r))

-- ---- two sites elsewhere are inserted in either order
lower_first : (s t : Site) → Before s t → (us : List Site) → insert_site s (insert_site t us) ≡ insert_site t (insert_site s us)
lower_first s t h [] = rw (le-ltb t.at s.at (omega arith), lt-ltb s.at t.at h)
lower_first s t h (u ∷ us) = by (lower_first s t h us) (ltb u.at s.at) refl (ltb u.at t.at) refl
  where
    by : insert_site s (insert_site t us) ≡ insert_site t (insert_site s us)
        → (x : Bool) → ltb u.at s.at ≡ x → (y : Bool) → ltb u.at t.at ≡ y
        → insert_site s (insert_site t (u ∷ us)) ≡ insert_site t (insert_site s (u ∷ us))
    by rest true e true f = rw (e, f, e) (ap (λ l. u ∷ l) rest)
    by rest true e false f = absurd (omega (arith, ltb-true u.at s.at e, ltb-false u.at t.at f))
    by rest false e true f = rw (e, f, e, lt-ltb s.at t.at h)
    by rest false e false f = rw (e, f, le-ltb t.at s.at (omega arith), lt-ltb s.at t.at h)

either_first : (s t : Site) → Elsewhere s t → (us : List Site) → insert_site s (insert_site t us) ≡ insert_site t (insert_site s us)
either_first s t n us = by (ltb s.at t.at) refl (ltb t.at s.at) refl
  where
    by : (x : Bool) → ltb s.at t.at ≡ x → (y : Bool) → ltb t.at s.at ≡ y
        → insert_site s (insert_site t us) ≡ insert_site t (insert_site s us)
    by true e y f = lower_first s t (ltb-true s.at t.at e) us
    by false e true f = sym (lower_first t s (ltb-true t.at s.at f) us)
    by false e false f = absurd (n (omega (arith, ltb-false s.at t.at e, ltb-false t.at s.at f)))

same_sorted : {ss ts : List Site} → Permᴰ ss ts → Pairwise Elsewhere ss → by_position ss ≡ by_position ts
same_sorted Permᴰ.nil h = refl
same_sorted (Permᴰ.cons e d) (Pairwise.cons h k) = ap₂ insert_site e (same_sorted d k)
same_sorted (Permᴰ.swap {a = s} {b = t} {l = us} e f) (Pairwise.cons h k) =
    either_first s t (h t mem-cons_self) (by_position us) ∙ ap₂ (λ x y. insert_site x (insert_site y (by_position us))) f e
same_sorted (Permᴰ.trans c d) h =
    same_sorted c h ∙ same_sorted d (Permᴰ.pairwise {R = Elsewhere} (λ s t. ¬_prop) (λ s t n e. n (sym e)) c h)

-- ---- of a list whose positions rise
site_set : IsSet Site
site_set = retract_set (λ (s : Site). (s.at, s.target)) (λ p. record { at = p.0; target = p.1 }) (λ s. refl) (Σ_set ℕ_set (λ _. ℕ_set))

module _ (p q : ℕ) (all : List Site) (r : Rise p q (positions all)) where
  elsewhere : Pairwise Elsewhere all
  elsewhere = Pairwise.imp (λ s t h e. omega arith) (before p q all r)

  once : Nodup all
  once = Pairwise.imp (λ s t n e. n (ap (λ (u : Site). u.at) e)) elsewhere

  perm_sorted : (ss : List Site) → Perm ss all → by_position ss ≡ all
  perm_sorted ss m =
      ∥∥₁_elim m (is_set site_set (by_position ss) all)
      (λ d. sym (same_sorted (Permᴰ.symm d) elsewhere) ∙ rising_stays p q all r)

  perm_of : (ss : List Site) → ListedOnce all ss → Perm ss all
  perm_of ss l = (perm_ext_iff_of_Nodup l.once once).1 (λ s. (l.nothing_else s, l.each s))

  pub one_order : OneOrder all
  one_order =
      record {
        listed-once = record { each = λ s m. m; nothing_else = λ s m. m; once = once };
        rearranged = perm_of;
        was_free = λ ss m.
            record { each = λ s. (Perm.mem_iff m).1; nothing_else = λ s. (Perm.mem_iff m).0; once = Perm.nodup (Perm.symm m) once };
        only_rising = λ ss l i j k. sym (rising_stays i j ss k) ∙ perm_sorted ss (perm_of ss l);
        sorted = λ ss l. perm_sorted ss (perm_of ss l);
        any_sort = λ ss ts l m h. sym (sorted-stays ts h) ∙ perm_sorted ts (Perm.trans m (perm_of ss l));
      }

-- ---- of a block
zip-positions : (ps ts : List ℕ) → length ps ≡ length ts → positions (zip_sites ps ts) ≡ ps
zip-positions [] ts e = refl
zip-positions (p ∷ ps) [] e = absurd (omega arith)
zip-positions (p ∷ ps) (t ∷ ts) e = ap (λ l. p ∷ l) (zip-positions ps ts (omega arith))

zip-targets : (ps ts : List ℕ) → length ps ≡ length ts → map (λ (s : Site). s.target) (zip_sites ps ts) ≡ ts
zip-targets [] [] e = refl
zip-targets [] (t ∷ ts) e = absurd (omega arith)
zip-targets (p ∷ ps) [] e = absurd (omega arith)
zip-targets (p ∷ ps) (t ∷ ts) e = ap (λ l. t ∷ l) (zip-targets ps ts (omega arith))

-- the closing words stand behind the code
words_in : (b : Block) → words (block_code b) + 7 ≤ length (block_words b)
unfolding block_words block_lines closing
words_in b = omega (arith, lines-words (block_lines b), whole-size (block_code b) closing, whole_length (block_code b) closing)

pub some_words : (b : Block) → 0 < length (block_words b)
some_words b = omega (arith, words_in b)

module _ (b : Block) where
  all_positions : positions (sites b) ≡ starts (block_code b) 0
  unfolding sites
  all_positions = zip-positions (starts (block_code b) 0) (targets (block_steps b)) (sited b).all

  all_targets : map (λ (s : Site). s.target) (sites b) ≡ targets (block_steps b)
  unfolding sites
  all_targets = zip-targets (starts (block_code b) 0) (targets (block_steps b)) (sited b).all

  rising : Rise 0 (length (block_words b)) (positions (sites b))
  rising =
      rw all_positions
      (rise_below 0 (words (block_code b)) (length (block_words b)) (starts (block_code b) 0) (omega (arith, words_in b)) (sited b).rising)

  pub in_order : InOrder b
  in_order =
      record {
        rising = rising;
        all_positions = all_positions;
        all_targets = all_targets;
        one_order = one_order 0 (length (block_words b)) (sites b) rising;
      }
