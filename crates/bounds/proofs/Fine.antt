-- Every instruction of a step's code fits its word: the numbers of the step, the offsets of the processor record, and the guest
-- registers that the cache holds.
use mathlib.Core.Path.{◌≡◌, refl}
use mathlib.Core.Bool.{Bool, true, false, not}
use mathlib.Core.List.{List, [], ◌∷◌, ◌++◌}
use Prim.Native.Nat.{ℕ, zero, suc, ◌+◌, ◌/◌, ◌%◌, ◌<◌, ◌≤◌}
use native.Mathlib.Omega.{arith}
use lib.Dec.{eqb, ltb, ltb→lt}
use lib.ListN.{length, get_or, set, length-set}
use borrow.Author.Tests.{ltb-true, ltb-false, eqb-true, eqb-false}
use Rattle.arm.specs.declared.Instr.{Instr}
use Rattle.arm.specs.Instr.{Carried}
use Rattle.block.specs.declared.Layout.{Layout}
use Rattle.code.specs.Items.{pick, Sound}
use Rattle.lowering.specs.declared.RegCache.{RegCache}
use Rattle.lowering.specs.Instrs.{CPU, mov, mov32, add_i, add, ldr, str}
use Rattle.lowering.specs.Cache.{POOL, host, FREE, empty_cache, off_reg, position, oldest, is_held, chosen, spill, slot_for, seated, stored, ld_reg, st_reg, flush_from, flush, reload_from, reload}
use Rattle.lowering.specs.Fragments.{minus, add_imm}
use Rattle.bounds.specs.Sound.{Host, Number}

-- ---- lists
pub sound-append : (xs ys : List Instr) → Sound xs → Sound ys → Sound (xs ++ ys)
unfolding Sound
sound-append [] ys h k = k
sound-append (x ∷ xs) ys h k = (h.0, sound-append xs ys h.1 k)

-- every number is below k
abbrev pub Below : ℕ → List ℕ → Type 0
Below k [] = Unit {0}
Below k (x ∷ xs) = (x < k) × Below k xs

below_at : (k : ℕ) (xs : List ℕ) (i : ℕ) → 0 < k → Below k xs → get_or xs i 0 < k
below_at k [] i z h = z
below_at k (x ∷ xs) zero z h = h.0
below_at k (x ∷ xs) (suc i) z h = below_at k xs i z h.1

below_set : (k : ℕ) (xs : List ℕ) (i v : ℕ) → v < k → Below k xs → Below k (set xs i v)
below_set k [] i v l h = h
below_set k (x ∷ xs) zero v l h = (l, h.1)
below_set k (x ∷ xs) (suc i) v l h = (h.0, below_set k xs i v l h.1)

-- ---- instructions with numbers to choose
pub is_host : (t : ℕ) → Host t → t < 32
is_host t h = ltb→lt t 32 h

host_lt : (i : ℕ) → host i < 32
host_lt i = below_at 32 POOL i (omega arith) (omega arith)

pub mov-fits : (rd rm : ℕ) → rd < 32 → rm < 32 → Carried (mov rd rm)
mov-fits rd rm h k = omega arith

pub ldr-fits : (rt off : ℕ) → rt < 32 → off < 16384 → Carried (ldr rt CPU off)
ldr-fits rt off h k = omega arith

pub str-fits : (rt off : ℕ) → rt < 32 → off < 16384 → Carried (str rt CPU off)
str-fits rt off h k = omega arith

pub add_i-fits : (rd rn imm : ℕ) → rd < 32 → rn < 32 → imm < 4096 → Carried (add_i rd rn imm)
add_i-fits rd rn imm h k l = omega arith

-- by the test of a choice
sound-pick : (x : Bool) (is js : List Instr) → (x ≡ true → Sound is) → (x ≡ false → Sound js) → Sound (pick x is js)
sound-pick true is js f g = f refl
sound-pick false is js f g = g refl

pub mov32-fits : (rd v : ℕ) → rd < 32 → Number v → Sound (mov32 rd v)
unfolding mov32 Sound
mov32-fits rd v h k =
    sound-pick (eqb (v / 65536) 0) _ _ (λ e. (omega (arith, eqb-true (v / 65536) 0 e), tt))
    (λ e. sound-pick (eqb (v % 65536) 0) _ _ (λ f. (omega arith, tt))
    (λ f. sound-pick (eqb (v / 65536) 65535) _ _ (λ g. (omega arith, tt)) (λ g. (omega arith, (omega arith, tt)))))

pub add_imm-fits : (d s v : ℕ) → d < 32 → s < 32 → Number v → Sound (add_imm d s v)
unfolding add_imm Sound
add_imm-fits d s v h k l =
    sound-pick (eqb v 0) _ _ (λ e. sound-pick (eqb d s) _ _ (λ f. tt) (λ f. (omega arith, tt)))
    (λ e. sound-pick (ltb v 4096) _ _ (λ f. (omega (arith, ltb-true v 4096 f), tt))
    (λ f. sound-pick (ltb (minus v) 4096) _ _ (λ g. (omega (arith, ltb-true (minus v) 4096 g), tt))
    (λ g. sound-append (mov32 9 v) (add d s 9 ∷ []) (mov32-fits 9 v (omega arith) l) (omega arith, tt))))

-- ---- the register cache
-- eight slots at most, each with a guest register or free
pub record CacheFits (rc : RegCache) : Type 0 where
  pub guests : Below 17 rc.guest
  pub slots : length rc.guest ≤ 8

pub empty-fits : CacheFits empty_cache
empty-fits = record { guests = omega arith; slots = omega arith }

-- where no slot is free, each holds a guest register
taken_more : (g : ℕ) (gs : List ℕ) (x : Bool) → g < 17 → (x ≡ false → g ≡ FREE → ⊥) → suc (length gs) ≤ pick x 0 (suc (position FREE gs)) → (i : ℕ)
    → (length gs ≤ position FREE gs → (j : ℕ) → get_or gs j 0 < 16) → get_or (g ∷ gs) i 0 < 16
taken_more g gs true h n l i r = omega arith
taken_more g gs false h n l zero r = let m = n refl in omega arith
taken_more g gs false h n l (suc i) r = r (omega arith) i

taken_at : (gs : List ℕ) (i : ℕ) → Below 17 gs → length gs ≤ position FREE gs → get_or gs i 0 < 16
unfolding position
taken_at [] i h k = omega arith
taken_at (g ∷ gs) i h k = taken_more g gs (eqb g FREE) h.0 (λ e. eqb-false g FREE e) k i (λ l j. taken_at gs j h.1 l)

module _ (lay : Layout) (regs : lay.regs + 60 < 16384) where
  reg_at : (g : ℕ) → g < 16 → off_reg lay g < 16384
  reg_at g h = omega arith

  spill-fits : (rc : RegCache) → CacheFits rc → Sound (spill lay rc)
  unfolding spill Sound
  spill-fits rc h =
      sound-pick (is_held rc FREE) _ _ (λ e. tt)
      (λ e. sound-pick (get_or rc.dirty (oldest rc) false) _ _
      (λ d. (str-fits _ _ (host_lt (oldest rc)) (reg_at _ (taken_at rc.guest (oldest rc) h.guests (omega (arith, ltb-false (position FREE rc.guest) 8 e, h.slots)))), tt)) (λ d. tt))

  pub ld_reg-fits : (rc : RegCache) (t r : ℕ) → CacheFits rc → t < 32 → r < 16 → Sound (ld_reg lay rc t r)
  unfolding ld_reg Sound
  ld_reg-fits rc t r h k l =
      sound-append (pick (is_held rc r) [] (spill lay rc ++ (ldr (host (chosen rc)) CPU (off_reg lay r) ∷ []))) _
      (sound-pick (is_held rc r) _ _ (λ e. tt) (λ e. sound-append (spill lay rc) _ (spill-fits rc h) (ldr-fits _ _ (host_lt (chosen rc)) (reg_at r l), tt)))
      (mov-fits t _ k (host_lt (slot_for rc r)), tt)

  pub st_reg-fits : (rc : RegCache) (t r : ℕ) → CacheFits rc → t < 32 → r < 16 → Sound (st_reg lay rc t r)
  unfolding st_reg Sound
  st_reg-fits rc t r h k l =
      sound-append (pick (is_held rc r) [] (spill lay rc)) _ (sound-pick (is_held rc r) _ _ (λ e. tt) (λ e. spill-fits rc h)) (mov-fits _ t (host_lt (slot_for rc r)) k, tt)

  flush_more : (x g : ℕ) (is : List Instr) (y : Bool) → x < 32 → Sound is → (y ≡ false → off_reg lay g < 16384) → Sound (pick (not y) (str x CPU (off_reg lay g) ∷ is) is)
  unfolding Sound
  flush_more x g is true h s o = s
  flush_more x g is false h s o = (str-fits x _ h (o refl), s)

  flush-from : (hs gs : List ℕ) (ds : List Bool) → Below 32 hs → Below 17 gs → Sound (flush_from lay hs gs ds)
  unfolding flush_from Sound
  flush-from [] gs ds h k = tt
  flush-from (x ∷ hs) [] ds h k = tt
  flush-from (x ∷ hs) (g ∷ gs) [] h k = tt
  flush-from (x ∷ hs) (g ∷ gs) (false ∷ ds) h k = flush-from hs gs ds h.1 k.1
  flush-from (x ∷ hs) (g ∷ gs) (true ∷ ds) h k =
      let rest = flush-from hs gs ds h.1 k.1 in
      flush_more x g (flush_from lay hs gs ds) (eqb g FREE) h.0 rest (λ e. reg_at g (let m = eqb-false g FREE e in omega (arith, k.0)))

  pub flush-fits : (rc : RegCache) → CacheFits rc → Sound (flush lay rc)
  unfolding flush
  flush-fits rc h = flush-from POOL rc.guest rc.dirty (omega arith) h.guests

  reload-from : (hs gs : List ℕ) → Below 32 hs → Below 17 gs → Sound (reload_from lay hs gs)
  unfolding reload_from Sound
  reload-from [] gs h k = tt
  reload-from (x ∷ hs) [] h k = tt
  reload-from (x ∷ hs) (g ∷ gs) h k =
      sound-pick (eqb g FREE) _ _ (λ e. reload-from hs gs h.1 k.1)
      (λ e. (ldr-fits x _ h.0 (reg_at g (let m = eqb-false g FREE e in omega (arith, k.0))), reload-from hs gs h.1 k.1))

  pub reload-fits : (rc : RegCache) → CacheFits rc → Sound (reload lay rc)
  unfolding reload
  reload-fits rc h = reload-from POOL rc.guest (omega arith) h.guests

-- ---- the cache behind a step
cache-pick : (x : Bool) (q r : RegCache) → CacheFits q → CacheFits r → CacheFits (pick x q r)
cache-pick true q r h k = h
cache-pick false q r h k = k

pub seated-fits : (rc : RegCache) (r : ℕ) → r < 16 → CacheFits rc → CacheFits (seated rc r)
unfolding seated
seated-fits rc r l h =
    cache-pick (is_held rc r) _ _ (record { guests = h.guests; slots = h.slots })
    (record { guests = below_set 17 rc.guest (chosen rc) r (omega arith) h.guests; slots = simp length-set h.slots })

pub stored-fits : (rc : RegCache) (r : ℕ) → r < 16 → CacheFits rc → CacheFits (stored rc r)
unfolding stored
stored-fits rc r l h = let q = seated-fits rc r l h in record { guests = q.guests; slots = q.slots }
