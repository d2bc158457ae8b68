-- The walk over the table's fix-ups is the walk over the assembler's: each comes back whole, and each distance reaches.
use Rattle.std.proofs.Common.{◌≡◌, ℕ, zero, suc, ◌+◌, ◌-◌, ◌*◌, ◌/◌, ◌%◌, ◌^◌, ◌<◌, ◌≤◌, Bool, true, false, cond, ltb, List, [], ◌∷◌, length, get_or, take, ℤ, pos, negsuc, sym, refl, ap, ◌∙◌, subst, ap₂, mod-eq_of_lt, arith, ltb-false, ltb-true, lt-ltb, ne_eqb}
use Rattle.code.specs.Items.{Hole, b, b_cond, cb, tb, adr, ldr, reach_of, Within, twos, bytes, Place, label, literal, Item, ins, go, new}
use Rattle.code.specs.Items.{bind, dist, size, binds, index, add, pool_of, Met, Reach}
use Rattle.code.specs.declared.Fix.{Fix}
use Rattle.code.specs.declared.Fix.TheVariants.{B26, B19, B14, Adr21}
use Rattle.code.specs.Emit.{kind, patch, Goal, to_label, to_entry, Fixup, lead, patched, patch_all}
use Rattle.code.proofs.Emit.{fixes_of, Kept, kept_new, kept-pool}
use Rattle.code.proofs.Order.{patch_next}
use Rattle.code.proofs.Reach.{index_le}
use Rattle.asm.specs.declared.Reference.{Reference}
use Rattle.asm.specs.declared.Reference.TheVariants.{ToLabel, ToPool}
use Rattle.asm.specs.State.{label_room, literal_room, fixups_at, fix_no, kind_no, goal_no, ref_no, packed, fix_of, ref_of}
use Rattle.finish.specs.Finish.{field_of, patch_in, label_in, lead_in, field_in, patched_with, patched_cell, patched_at, patched_to}
use Rattle.finish.proofs.Track.{reference_to, number, nobody}

-- ---- a distance in reach has the same field with the test and without it
abbrev pub reach_fix : Fix → ℕ
reach_fix B26 = 2 ^ 25
reach_fix B19 = 2 ^ 18
reach_fix B14 = 2 ^ 13
reach_fix Adr21 = 2 ^ 18

reach-kind : (h : Hole) → reach_of h ≡ reach_fix (kind h)
unfolding kind
reach-kind b = refl
reach-kind (b_cond c) = refl
reach-kind (cb s t rt) = refl
reach-kind (tb t n rt) = refl
reach-kind (adr rd) = refl
reach-kind (ldr rt) = refl

field_held : (half : ℕ) (z : ℤ) → Within half z → field_of half z ≡ twos (2 * half) z
unfolding field_of
field_held half (pos n) h = rw (lt-ltb n half h)
field_held half (negsuc n) h = rw (lt-ltb n half h)

bytes_in : (z : ℤ) → Within (2 ^ 18) z → Within (2 ^ 20) (bytes z)
bytes_in (pos n) h = omega arith
bytes_in (negsuc n) h = omega arith

patch-in : (f : Fix) (z : ℤ) → Within (reach_fix f) z → patch_in f z ≡ patch f z
unfolding patch_in patch
patch-in B26 z h = field_held (2 ^ 25) z h
patch-in B19 z h = ap (λ n. n * 32) (field_held (2 ^ 18) z h)
patch-in B14 z h = ap (λ n. n * 32) (field_held (2 ^ 13) z h)
patch-in Adr21 z h = ap (λ n. n % 4 * 2 ^ 29 + n / 4 * 32) (field_held (2 ^ 20) (bytes z) (bytes_in z h))

-- what reaches is near
near : (half t h : ℕ) → Within half (dist t h) → t < h + suc half
near half t h w = by (ltb t h) refl w
  where
    by : (r : Bool) → ltb t h ≡ r → Within half (cond r (negsuc (h - suc t)) (pos (t - h))) → t < h + suc half
    by true e w = omega (arith, ltb-true t h e)
    by false e w = omega (arith, ltb-false t h e)

-- ---- what holds of each fix-up of a block
abbrev pub Whole : Goal → Fix → Type 0
Whole (to_label l) f = Unit {0}
Whole (to_entry i) f = f ≡ B19

pub record Good (to : Goal → ℕ) (f : Fixup) : Type 0 where
  pub low : f.at < 1048576
  pub goal : goal_no (reference_to f.goal f.field) < label_room
  pub whole : Whole f.goal f.field
  pub reach : Within (reach_fix f.field) (dist (to f.goal) f.at)

unfoldable pub Goods : (Goal → ℕ) → List Fixup → Type 0
Goods to [] = Unit {0}
Goods to (f ∷ fs) = Good to f × Goods to fs

good_at : (to : Goal → ℕ) (fs : List Fixup) (n : ℕ) → n < length fs → Goods to fs → Good to (get_or fs n nobody)
unfolding Goods
good_at to [] n h g = absurd (omega arith)
good_at to (f ∷ fs) zero h g = g.0
good_at to (f ∷ fs) (suc n) h g = good_at to fs n (omega arith) g.1

-- ---- a fix-up comes back from its number
field-low : (f : Fix) → fix_no f < 4
field-low B26 = omega arith
field-low B19 = omega arith
field-low B14 = omega arith
field-low Adr21 = omega arith

field_back : (f : Fix) → fix_of (fix_no f) ≡ f
unfolding fix_of
field_back B26 = refl
field_back B19 = refl
field_back B14 = refl
field_back Adr21 = refl

kind-low : (r : Reference) → kind_no r < 8
kind-low (ToLabel l f) = omega (arith, field-low f)
kind-low (ToPool i) = omega arith

packed_at : (p : ℕ) (r : Reference) → packed p r / 2 ^ 32 ≡ p
unfolding packed ref_no
packed_at p r = omega (arith, kind-low r)

packed-low : (p : ℕ) (r : Reference) → packed p r % 2 ^ 32 ≡ ref_no r
unfolding packed ref_no
packed-low p r = omega (arith, kind-low r)

ref_back : (r : Reference) → goal_no r < label_room → ref_of (ref_no r) ≡ r
unfolding ref_of ref_no
ref_back (ToLabel l f) h =
    let n : ℕ = l.0 % 2 ^ 29 * 8 + fix_no f in
    let z : l.0 % 2 ^ 29 ≡ l.0 = mod-eq_of_lt (omega (arith, h)) in
    let k : n % 8 ≡ fix_no f = omega (arith, field-low f) in
    let g : n / 8 ≡ l.0 = omega (arith, z, field-low f) in
    rw (k, g, ne_eqb (fix_no f) 4 (omega (arith, field-low f)), field_back f)
ref_back (ToPool i) h =
    let n : ℕ = i % 2 ^ 29 * 8 + 4 in
    let z : i % 2 ^ 29 ≡ i = mod-eq_of_lt (omega (arith, h)) in
    let k : n % 8 ≡ 4 = omega arith in
    let g : n / 8 ≡ i = omega (arith, z) in
    rw (k, g)

module _ (t labels : List ℕ) (base : ℕ) (same : (l : ℕ) → l < label_room → get_or t l 0 ≡ get_or labels l 0) where
  field_is : (g : Goal) (f : Fix) → Whole g f → field_in (reference_to g f) ≡ f
  field_is (to_label l) f w = refl
  field_is (to_entry i) f w = sym w

  lead-back : (g : Goal) (f : Fix) → goal_no (reference_to g f) < label_room → lead labels base g < 4294967296
      → lead_in t base (reference_to g f) ≡ lead labels base g
  unfolding lead lead_in label_in
  lead-back (to_label l) f h m = rw (lt-ltb l label_room h, same l h) (omega arith)
  lead-back (to_entry i) f h m = refl

  -- one fix-up
  reach-low : (f : Fix) → reach_fix f ≤ 33554432
  reach-low B26 = omega arith
  reach-low B19 = omega arith
  reach-low B14 = omega arith
  reach-low Adr21 = omega arith

  patched-back : (f : Fixup) (ws : List ℕ) → Good (lead labels base) f
      → patched_cell t base (number f) ws ≡ patched (lead labels base) f ws
  unfolding patched_cell patched_with patched number
  patched-back f ws g =
      let r : Reference = reference_to f.goal f.field in
      let l : lead labels base f.goal < 4294967296 = omega (arith, near (reach_fix f.field) (lead labels base f.goal) f.at g.reach, reach-low f.field, g.low) in
      rw (
        packed_at f.at r,
        packed-low f.at r,
        ref_back r g.goal,
        field_is f.goal f.field g.whole,
        lead-back f.goal f.field g.goal l,
        patch-in f.field (dist (lead labels base f.goal) f.at) g.reach,
      )

  -- THE WALK OVER THE TABLE
  pub walk : (fs : List Fixup) (n : ℕ) (ws : List ℕ) → n ≤ length fs → Goods (lead labels base) fs → ((m : ℕ) → m < length fs → get_or t (fixups_at + m) 0 ≡ number (get_or fs m nobody))
      → patched_to t base n ws ≡ patch_all (lead labels base) (take n fs) ws
  unfolding patched_to patched_at patch_all
  walk fs zero ws h g e = refl
  walk fs (suc n) ws h g e =
      ap₂ (λ (x : ℕ) (y : List ℕ). patched_cell t base x y) (e n (omega arith)) (walk fs n ws (omega arith) g e)
      ∙ patched-back (get_or fs n nobody) (patch_all (lead labels base) (take n fs) ws) (good_at (lead labels base) fs n (omega arith) g)
      ∙ sym (patch_next (lead labels base) nobody n fs ws (omega arith))

-- ---- the fix-ups of items are good
-- literals are loaded, and by nothing else than a load
unfoldable pub Loads : List Item → Type 0
Loads [] = Unit {0}
Loads (ins i ∷ is) = Loads is
Loads (go h (label l) ∷ is) = Loads is
Loads (go h (literal v) ∷ is) = (kind h ≡ B19) × Loads is
Loads (new ∷ is) = Loads is
Loads (bind l ∷ is) = Loads is

module _ (to : Goal → ℕ) (at : Place → ℕ) (pool : List ℕ) (all : List Item) (labels_same : (l : ℕ) → binds l all ≡ true → to (to_label l) ≡ at (label l)) (entries-same : (v i : ℕ) → Kept v i pool → to (to_entry i) ≡ at (literal v))
    (bound : (l : ℕ) → binds l all ≡ true → l < label_room) (few : length pool ≤ literal_room) where
  good : (h : Hole) (g : Goal) (x : Place) (p : ℕ) → p < 1048576 → goal_no (reference_to g (kind h)) < label_room → Whole g (kind h)
      → to g ≡ at x → Within (reach_of h) (dist (at x) p) → Good to (record { at = p; goal = g; field = kind h })
  good h g x p a c w e r = record { low = a; goal = c; whole = w; reach = subst (λ n. Within n (dist (to g) p)) (reach-kind h) (subst (λ n. Within (reach_of h) (dist n p)) (sym e) r) }

  pub goods : (p : ℕ) (ps : List ℕ) (is : List Item) → pool_of ps is ≡ pool → p + size is ≤ 1048576 → Reach at p is → Loads is → Met all is → Goods to (fixes_of p ps is)
  unfolding Goods fixes_of pool_of size Reach Loads Met
  goods p ps [] q n r l m = tt
  goods p ps (ins i ∷ is) q n r l m = goods (suc p) ps is q (omega arith) r l m
  goods p ps (go h (label x) ∷ is) q n r l m = (good h (to_label x) (label x) p (omega arith) (bound x m.0) tt (labels_same x m.0) r.0, goods (suc p) ps is q (omega arith) r.1 l m.1)
  goods p ps (go h (literal v) ∷ is) q n r l m =
      let k : Kept v (index v ps) pool = subst (Kept v (index v ps)) q (kept-pool v (index v ps) (add v ps) is (kept_new v ps)) in
      let i : index v ps < label_room = subst (λ x. x < label_room) k.place (omega (arith, index_le v pool, few)) in
      (good h (to_entry (index v ps)) (literal v) p (omega arith) i l.0 (entries-same v (index v ps) k) r.0, goods (suc p) (add v ps) is q (omega arith) r.1 l.1 m)
  goods p ps (new ∷ is) q n r l m = goods p ps is q n r l m
  goods p ps (bind x ∷ is) q n r l m = goods p ps is q n r l m
