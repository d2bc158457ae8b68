-- What each way through the code of `finish` leaves.
use Rattle.std.proofs.Common.{◌≡◌, ℕ, zero, suc, ◌+◌, ◌*◌, ◌/◌, ◌%◌, ◌^◌, ◌<◌, ◌≤◌, Bool, true, false, ltb, ◌≢◌, List, [], ◌∷◌, ◌++◌, length, get_or, drop, set, replicate, ℤ, pos, negsuc, sym, refl, ap, ◌∙◌, ap₂, append-nil, add-one, arith, length-set, drop_of_length-le, Ok, Err, ltb-false, ltb-true, le-ltb, lt-ltb, ne_eqb}
use Rattle.code.specs.Items.{dist, bytes, halves, pad_of, base_of}
use Rattle.code.specs.declared.Fix.{Fix}
use Rattle.code.specs.declared.Fix.TheVariants.{B26, B19, B14, Adr21}
use Rattle.code.proofs.Reach.{halves-length}
use Rattle.asm.specs.declared.Reference.{Reference}
use Rattle.asm.specs.declared.Reference.TheVariants.{ToPool}
use Rattle.asm.specs.State.{fixup_room, literals_at, fixups_at, ref_of, State, at_most, kept, held, literals_from}
use Rattle.asm.proofs.Cases.{literals-length}
use Rattle.finish.specs.Finish.{field_of, patch_in, field_in, lead_in, patched_with, patched_cell, patched_at, patched_to}
use Rattle.finish.specs.Finish.{write, zeros, written, needed, short_of, before_walk, walked_to, finished, finished_words}

-- ---- the field of each kind
bytes-dist : (t h : ℕ) → dist (4 * t) (4 * h) ≡ bytes (dist t h)
bytes-dist t h = by (ltb t h) refl
  where
    by : (r : Bool) → ltb t h ≡ r → dist (4 * t) (4 * h) ≡ bytes (dist t h)
    by true e = let l : t < h = ltb-true t h e in rw (e, lt-ltb (4 * t) (4 * h) (omega arith)) (ap negsuc (omega arith))
    by false e = let l : h ≤ t = ltb-false t h e in rw (e, le-ltb (4 * t) (4 * h) (omega arith)) (ap pos (omega arith))

module _ (f : Fix) (t h r : ℕ) (z : ℤ) (d : z ≡ dist t h) where
  pub patch_b26 : f ≡ B26 → r ≡ field_of 33554432 z → r ≡ patch_in f (dist t h)
  unfolding patch_in
  patch_b26 e q = rw e (q ∙ ap (field_of 33554432) d)

  pub patch_b19 : f ≡ B19 → r ≡ field_of 262144 z → r * 32 ≡ patch_in f (dist t h)
  unfolding patch_in
  patch_b19 e q = rw e (ap (λ n. n * 32) (q ∙ ap (field_of 262144) d))

  pub patch_b14 : f ≡ B14 → r ≡ field_of 8192 z → r * 32 ≡ patch_in f (dist t h)
  unfolding patch_in
  patch_b14 e q = rw e (ap (λ n. n * 32) (q ∙ ap (field_of 8192) d))

pub patch_adr21 : (f : Fix) (t h r : ℕ) (z : ℤ) → z ≡ dist (4 * t) (4 * h) → f ≡ Adr21 → r ≡ field_of 1048576 z
    → r % 4 * 536870912 + r / 4 * 32 ≡ patch_in f (dist t h)
unfolding patch_in
patch_adr21 f t h r z d e q = rw e (ap (λ n. n % 4 * 536870912 + n / 4 * 32) (q ∙ ap (field_of 1048576) (d ∙ bytes-dist t h)))

pub patch-pool : (t : List ℕ) (base i here r : ℕ) (to : Reference) (z : ℤ) → to ≡ ToPool i → z ≡ dist (base + 2 * i) here → r ≡ field_of 262144 z
    → r * 32 ≡ patch_in (field_in to) (dist (lead_in t base to) here)
unfolding lead_in
patch-pool t base i here r to z e d q = rw e (patch_b19 B19 (base + 2 * i) here r z d refl q)

-- ---- one fix-up from its number, and one more of them
pub patched_is : (t ws ws' : List ℕ) (base n at low f : ℕ) (r : Reference)
    → at ≡ get_or t (fixups_at + n) 0 / 2 ^ 32 → low ≡ get_or t (fixups_at + n) 0 % 2 ^ 32 → r ≡ ref_of low
    → f ≡ patch_in (field_in r) (dist (lead_in t base r) at) → ws' ≡ set ws at ((get_or ws at 0 + f) % 2 ^ 32) → ws' ≡ patched_at t base n ws
unfolding patched_at patched_cell patched_with
patched_is t ws ws' base n at low f r a l e q s =
    rw (← a, ← l, ← e, ← q) s

pub patched_more : (t ws ws' ws'' : List ℕ) (base n : ℕ) → ws' ≡ patched_to t base n ws → ws'' ≡ patched_at t base n ws' → ws'' ≡ patched_to t base (n + 1) ws
unfolding patched_to
patched_more t ws ws' ws'' base n p q = rw (add-one n) (q ∙ ap (patched_at t base n) p)

-- ---- the pad
module _ (n k : ℕ) (t ws : List ℕ) where
  pub pad_none : k ≡ 0 → (n ≡ base_of n (literals_from 0 k t)) × (ws ≡ write n (pad_of n (literals_from 0 k t)) ws)
  unfolding base_of pad_of literals_from write
  pad_none e = rw e (omega arith, refl)

  pub pad-even : k ≢ 0 → n % 2 ≡ 0 → (n ≡ base_of n (literals_from 0 k t)) × (ws ≡ write n (pad_of n (literals_from 0 k t)) ws)
  unfolding base_of pad_of literals_from write
  pad-even h e = by k h
    where
      by : (k : ℕ) → k ≢ 0 → (n ≡ base_of n (literals_from 0 k t)) × (ws ≡ write n (pad_of n (literals_from 0 k t)) ws)
      by zero h = absurd (h refl)
      by (suc k) h = rw e (omega arith, refl)

  pub pad_odd : (ws' : List ℕ) → k ≢ 0 → n % 2 ≢ 0 → ws' ≡ set ws n 0xd503201f → (n + 1 ≡ base_of n (literals_from 0 k t)) × (ws' ≡ write n (pad_of n (literals_from 0 k t)) ws)
  unfolding base_of pad_of literals_from write
  pad_odd ws' h o e = by k h
    where
      by : (k : ℕ) → k ≢ 0 → (n + 1 ≡ base_of n (literals_from 0 k t)) × (ws' ≡ write n (pad_of n (literals_from 0 k t)) ws)
      by zero h = absurd (h refl)
      by (suc k) h = rw (ne_eqb (n % 2) 0 o) (refl, e)

-- ---- the pool, one literal more
pub write-append : (p : ℕ) (xs ys ws : List ℕ) → write p (xs ++ ys) ws ≡ write (p + length xs) ys (write p xs ws)
unfolding write
write-append p [] ys ws = ap (λ n. write n ys ws) (let e : p ≡ p + 0 = omega arith in e)
write-append p (x ∷ xs) ys ws = write-append (suc p) xs ys (set ws p x) ∙ ap (λ n. write n ys (write (suc p) xs (set ws p x))) (omega arith)

literals-snoc : (i k : ℕ) (t : List ℕ) → literals_from i (suc k) t ≡ literals_from i k t ++ (get_or t (literals_at + (i + k)) 0 ∷ [])
unfolding literals_from
literals-snoc i zero t = ap (λ n. get_or t (literals_at + n) 0 ∷ []) (let e : i ≡ i + 0 = omega arith in e)
literals-snoc i (suc k) t =
    ap {B = List ℕ} (λ r. get_or t (literals_at + i) 0 ∷ r) (literals-snoc (suc i) k t ∙ ap (λ n. literals_from (suc i) k t ++ (get_or t (literals_at + n) 0 ∷ [])) (let e : suc i + k ≡ i + suc k = omega arith in e))

halves-append : (xs ys : List ℕ) → halves (xs ++ ys) ≡ halves xs ++ halves ys
unfolding halves
halves-append [] ys = refl
halves-append (x ∷ xs) ys = ap {B = List ℕ} (λ r. x % 2 ^ 32 ∷ x / 2 ^ 32 ∷ r) (halves-append xs ys)

pool-step : (base i v : ℕ) (t ws ws' ws₁ ws₂ : List ℕ) → ws' ≡ write base (halves (literals_from 0 i t)) ws → v ≡ get_or t (literals_at + i) 0
    → ws₁ ≡ set ws' (base + 2 * i) (v % 4294967296) → ws₂ ≡ set ws₁ (base + 2 * i + 1) (v / 4294967296) → ws₂ ≡ write base (halves (literals_from 0 (i + 1) t)) ws
unfolding write halves
pool-step base i v t ws ws' ws₁ ws₂ p e q r =
    let l : length (halves (literals_from 0 i t)) ≡ 2 * i = halves-length (literals_from 0 i t) ∙ ap (λ n. 2 * n) (literals-length 0 i t) in
    let s : halves (literals_from 0 (i + 1) t) ≡ halves (literals_from 0 i t) ++ (v % 2 ^ 32 ∷ v / 2 ^ 32 ∷ []) =
    ap (λ n. halves (literals_from 0 n t)) (add-one i) ∙ ap halves (literals-snoc 0 i t) ∙ halves-append (literals_from 0 i t) (get_or t (literals_at + (0 + i)) 0 ∷ [])
    ∙ ap (λ x. halves (literals_from 0 i t) ++ (x % 2 ^ 32 ∷ x / 2 ^ 32 ∷ [])) (ap (λ n. get_or t (literals_at + n) 0) (let z : 0 + i ≡ i = omega arith in z) ∙ sym e) in
    let w : ℕ → List ℕ = λ n. set (set ws' n (v % 4294967296)) (suc n) (v / 4294967296) in
    r ∙ ap (λ x. set x (base + 2 * i + 1) (v / 4294967296)) q ∙ ap (λ n. set (set ws' (base + 2 * i) (v % 4294967296)) n (v / 4294967296)) (add-one (base + 2 * i))
    ∙ ap w (let z : base + 2 * i ≡ base + length (halves (literals_from 0 i t)) = omega (arith, l) in z)
    ∙ ap (λ x. write (base + length (halves (literals_from 0 i t))) (v % 2 ^ 32 ∷ v / 2 ^ 32 ∷ []) x) p
    ∙ sym (write-append base (halves (literals_from 0 i t)) (v % 2 ^ 32 ∷ v / 2 ^ 32 ∷ []) ws) ∙ ap (λ x. write base x ws) (sym s)

pub pool_more : (base i low high : ℕ) (t ws ws' ws₁ ws₂ : List ℕ) → ws' ≡ write base (halves (literals_from 0 i t)) ws → low ≡ get_or t (literals_at + i) 0 % 2 ^ 32 → high ≡ get_or t (literals_at + i) 0 / 2 ^ 32
    → ws₁ ≡ set ws' (base + 2 * i) low → ws₂ ≡ set ws₁ (base + 2 * i + 1) high → ws₂ ≡ write base (halves (literals_from 0 (i + 1) t)) ws
pool_more base i low high t ws ws' ws₁ ws₂ p l h q r =
    pool-step base i (get_or t (literals_at + i) 0) t ws ws' ws₁ ws₂ p refl (q ∙ ap (set ws' (base + 2 * i)) l) (r ∙ ap (set ws₁ (base + 2 * i + 1)) h)

-- ---- the whole
pub write-length : (p : ℕ) (xs ws : List ℕ) → length (write p xs ws) ≡ length ws
unfolding write
write-length p [] ws = refl
write-length p (x ∷ xs) ws = write-length (suc p) xs (set ws p x) ∙ length-set ws p x

-- what the calls before the test leave
pub record Pooled (s : State) (k n base : ℕ) (ws₁ ws₂ : List ℕ) : Type 0 where
  pub count : k ≡ kept s
  pub at : n ≡ written s
  pub base_is : base ≡ base_of n (literals_from 0 k s.tab)
  pub padded : ws₁ ≡ write n (pad_of n (literals_from 0 k s.tab)) s.words
  pub pooled : ws₂ ≡ write base (halves (literals_from 0 k s.tab)) ws₁

module _ (s : State) (k n base : ℕ) (ws₁ ws₂ : List ℕ) (h : Pooled s k n base ws₁ ws₂) where
  held_is : literals_from 0 k s.tab ≡ held s
  unfolding held
  held_is = ap (λ x. literals_from 0 x s.tab) h.count

  base-held : base ≡ base_of (written s) (held s)
  base-held = h.base_is ∙ ap₂ base_of h.at held_is

  needed_is : base + 2 * k ≡ needed s
  unfolding needed
  needed_is = ap₂ (λ (x y : ℕ). x + 2 * y) base-held h.count

  words_are : ws₂ ≡ before_walk s
  unfolding base_of
  words_are =
      h.pooled ∙ ap₂ (λ (x : ℕ) (y : List ℕ). write x (halves y) ws₁) base-held held_is
      ∙ ap (λ x. write (base_of (written s) (held s)) (halves (held s)) x) (h.padded ∙ ap₂ (λ (x : ℕ) (y : List ℕ). write x (pad_of x y) s.words) h.at held_is)
      ∙ sym (write-append (written s) (pad_of (written s) (held s)) (halves (held s)) s.words)

  length_is : length ws₂ ≡ length s.words
  length_is = ap length words_are ∙ write-length (written s) (pad_of (written s) (held s) ++ halves (held s)) s.words

  pub finish-short : (upto : ℕ) (ws₃ : List ℕ) → length ws₂ < base + 2 * k → ws₃ ≡ zeros ws₂
      → (Err (short_of (base + 2 * k)) ≡ finished s) × (ws₃ ≡ finished_words upto s)
  unfolding finished finished_words zeros
  finish-short upto ws₃ l z =
      let t : ltb (length s.words) (needed s) ≡ true = lt-ltb (length s.words) (needed s) (omega (arith, needed_is, length_is)) in
      (rw (t, ← needed_is), rw t (z ∙ ap (λ n. replicate n 0) length_is))

  pub finish_long : (upto f : ℕ) (ws₃ : List ℕ) → base + 2 * k ≤ length ws₂ → f ≡ at_most s.asm.fixups upto
      → ws₃ ≡ patched_to s.tab base (at_most fixup_room f) ws₂ → (Ok (base + 2 * k) ≡ finished s) × (ws₃ ≡ finished_words upto s)
  unfolding finished finished_words
  finish_long upto f ws₃ l e z =
      let t : ltb (length s.words) (needed s) ≡ false = le-ltb (length s.words) (needed s) (omega (arith, needed_is, length_is)) in
      let w : ws₃ ≡ walked_to (at_most fixup_room (at_most s.asm.fixups upto)) s =
      z ∙ ap₂ (λ (x y : ℕ). patched_to s.tab x (at_most fixup_room y) ws₂) base-held e
      ∙ ap (patched_to s.tab (base_of (written s) (held s)) (at_most fixup_room (at_most s.asm.fixups upto))) words_are in
      (rw (t, ← needed_is), rw t w)
