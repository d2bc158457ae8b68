-- Loads and stores in regions that lie apart. The address is given as a place in a region, and no address arithmetic is left behind.
--     At                     n bytes from address a on are those from place o on of region k; at_offset, at_part, at_alike give it
--     locate_ok              they are found there
--     load_ok, store_ok      so that a load gives them, and a store writes them; store-refused: not into code or flash
--     load_code              a load from the code, whatever the other regions
--     bytes_same, bytes_other, base_with, size_with, length_with     regions with other bytes in one of them
--     Alike, apart-alike     memories of the same shape; lying apart passes from one to the other
--     alike-store            a store keeps the shape
-- Assumes nothing.
use mathlib.Core.Path.{◌≡◌, refl, ap, ap₂, ◌∙◌}
use mathlib.Core.Logic.{◌≢◌, ◌⊎◌, inl, inr}
use mathlib.Core.Bool.{Bool, true, false, ◌&&◌}
use mathlib.Core.Option.{none, some}
use mathlib.Core.List.{List, [], ◌∷◌}
use Prim.Native.Nat.{ℕ, zero, suc, ◌+◌, ◌-◌, ◌%◌, ◌^◌, ◌≤◌, ◌<◌}
use native.Mathlib.Nat.{mod-eq_of_lt}
use native.Mathlib.Omega.{arith}
use borrow.Author.Tests.{le-leb, lt-leb}
use lib.Dec.{leb}
use lib.ListN.{length, get_or, set, drop, length-set}
use lib.Seq.{get_or-set_same, get_or-set_other}
use Rattle.machine.specs.State.{Region, code, xip}
use Rattle.machine.specs.Memory.{read_le, write_le, within, locate, nowhere, bytes_of, base_of, size_of, with_bytes, loaded, load, writable, stored, store, Disjoint, Apart}
use Rattle.machine.proofs.Bytes.{length-write_le}

-- ---- which region holds an address
pub within_yes : (r : Region) (a n : ℕ) → r.base ≤ a → a + n ≤ r.base + length r.bytes → within r a n ≡ true
unfolding within
within_yes r a n h k = rw (le-leb r.base a h, le-leb (a + n) (r.base + length r.bytes) k)

within_no : (r : Region) (a n : ℕ) → (a + n ≤ r.base) ⊎ (r.base + length r.bytes ≤ a) → 0 < n → within r a n ≡ false
unfolding within
within_no r a n (inl h) p = rw (lt-leb r.base a (omega arith))
within_no r a n (inr h) p = rw (lt-leb (a + n) (r.base + length r.bytes) (omega arith)) (and-false (leb r.base a))
  where
    and-false : (b : Bool) → (b && false) ≡ false
    and-false true = refl
    and-false false = refl

-- the first region that holds the access
locate_first : (i : ℕ) (m : List Region) (a n k : ℕ) → k < length m → within (get_or m k nowhere) a n ≡ true
    → ((j : ℕ) → j < k → within (get_or m j nowhere) a n ≡ false) → locate i m a n ≡ some (record { region = i + k; at = a - base_of m k })
unfolding locate
locate_first i [] a n k l h f = absurd (omega arith)
locate_first i (r ∷ rs) a n zero l h f = rw h (ap (λ q. some (record { region = q; at = a - r.base })) (omega arith))
locate_first i (r ∷ rs) a n (suc k) l h f =
    rw (f 0 (omega arith)) (locate_first (suc i) rs a n k (omega arith) h (λ j z. f (suc j) (omega arith))
    ∙ ap (λ q. some (record { region = q; at = a - base_of rs k })) (omega arith))

-- the code is the first region, so that a load from it needs no more
pub load_code : (m : List Region) (a o n : ℕ) → code < length m → a ≡ base_of m code + o → o + n ≤ size_of m code → load m a n ≡ some (read_le (bytes_of m code) o n)
unfolding load
load_code m a o n l e f =
    ap (loaded m n)
    (locate_first 0 m a n code l (within_yes (get_or m code nowhere) a n (omega arith) (omega arith)) (λ j z. absurd (omega arith))
    ∙ ap₂ (λ p q. some (record { region = p; at = q })) (omega arith) (omega arith))

-- n bytes from address a on are those from place o on of region k
pub record At (m : List Region) (a k o n : ℕ) : Type 0 where
  pub region : k < length m
  pub address : a ≡ base_of m k + o
  pub fits : o + n ≤ size_of m k
  pub positive : 0 < n

module _ {m : List Region} (apart : Apart m) {a k o n : ℕ} (here : At m a k o n) where
  elsewhere : (j : ℕ) → j < k → within (get_or m j nowhere) a n ≡ false
  elsewhere j h = go (apart.disjoint k j here.region (omega arith) (omega arith))
    where
      go : Disjoint (base_of m k) (size_of m k) (base_of m j) (size_of m j) → within (get_or m j nowhere) a n ≡ false
      go (inl d) = within_no (get_or m j nowhere) a n (inl (omega arith)) here.positive
      go (inr d) = within_no (get_or m j nowhere) a n (inr (omega arith)) here.positive

  pub locate_ok : locate 0 m a n ≡ some (record { region = k; at = o })
  locate_ok =
      locate_first 0 m a n k here.region (within_yes (get_or m k nowhere) a n (omega arith) (omega arith)) elsewhere
      ∙ ap₂ (λ p q. some (record { region = p; at = q })) (omega arith) (omega arith)

  pub load_ok : load m a n ≡ some (read_le (bytes_of m k) o n)
  unfolding load
  load_ok = ap (loaded m n) locate_ok

  pub store_ok : (v : ℕ) → writable k ≡ true → store m a n v ≡ some (with_bytes k (write_le (bytes_of m k) o n v) m)
  unfolding store
  store_ok v w = ap (stored m n v) locate_ok ∙ rw w

  -- code and flash are not written
  pub store-refused : (v : ℕ) → (k ≡ code) ⊎ (k ≡ xip) → store m a n v ≡ none
  unfolding store
  store-refused v (inl e) = ap (stored m n v) locate_ok ∙ rw e
  store-refused v (inr e) = ap (stored m n v) locate_ok ∙ rw e

  -- the addresses do not pass 2 ^ 64
  pub address_end : a + n ≤ 2 ^ 64
  address_end = omega (arith, apart.ends k here.region)

  -- so that the address of a part needs no wrapping
  pub at_part : (p q : ℕ) → p + q ≤ n → 0 < q → At m ((a + p) % 2 ^ 64) k (o + p) q
  at_part p q h l =
      let e : a + n ≤ 2 ^ 64 = address_end in
      record { region = here.region; address = mod-eq_of_lt (omega arith) ∙ omega arith; fits = omega arith; positive = l }

-- an address that is a register's and an offset
pub at_offset : {m : List Region} → Apart m → (b k o d n : ℕ) → k < length m → b ≡ base_of m k + o → o + d + n ≤ size_of m k → 0 < n → At m ((b + d) % 2 ^ 64) k (o + d) n
at_offset {m} apart b k o d n l e h p =
    at_part apart {a = b} {k = k} {o = o} {n = d + n} (record { region = l; address = e; fits = omega arith; positive = omega arith }) d n (omega arith) p

-- ---- other bytes in one region
pub length_with : (k : ℕ) (l : List ℕ) (m : List Region) → length (with_bytes k l m) ≡ length m
length_with k l m = length-set m k (record { base = base_of m k; bytes = l })

pub bytes_same : (k : ℕ) (l : List ℕ) (m : List Region) → k < length m → bytes_of (with_bytes k l m) k ≡ l
bytes_same k l m h = ap (λ (r : Region). r.bytes) (get_or-set_same m k (record { base = base_of m k; bytes = l }) nowhere h)

pub bytes_other : (k : ℕ) (l : List ℕ) (m : List Region) (j : ℕ) → j ≢ k → bytes_of (with_bytes k l m) j ≡ bytes_of m j
bytes_other k l m j h = ap (λ (r : Region). r.bytes) (get_or-set_other m k j (record { base = base_of m k; bytes = l }) nowhere h)

pub base_with : (k : ℕ) (l : List ℕ) (m : List Region) (j : ℕ) → base_of (with_bytes k l m) j ≡ base_of m j
base_with zero l [] j = refl
base_with (suc k) l [] j = refl
base_with zero l (r ∷ m) zero = refl
base_with zero l (r ∷ m) (suc j) = refl
base_with (suc k) l (r ∷ m) zero = refl
base_with (suc k) l (r ∷ m) (suc j) = base_with k l m j

pub size_with : (k : ℕ) (l : List ℕ) (m : List Region) (j : ℕ) → length l ≡ size_of m k → size_of (with_bytes k l m) j ≡ size_of m j
size_with zero l [] j e = refl
size_with (suc k) l [] j e = refl
size_with zero l (r ∷ m) zero e = e
size_with zero l (r ∷ m) (suc j) e = refl
size_with (suc k) l (r ∷ m) zero e = refl
size_with (suc k) l (r ∷ m) (suc j) e = size_with k l m j e

-- ---- memories of the same shape
pub record Alike (m m' : List Region) : Type 0 where
  pub count : length m' ≡ length m
  pub base : (i : ℕ) → base_of m' i ≡ base_of m i
  pub size : (i : ℕ) → size_of m' i ≡ size_of m i

pub alike_refl : (m : List Region) → Alike m m
alike_refl m = record { count = refl; base = λ i. refl; size = λ i. refl }

pub alike_trans : {m m' m'' : List Region} → Alike m m' → Alike m' m'' → Alike m m''
alike_trans p q = record { count = q.count ∙ p.count; base = λ i. q.base i ∙ p.base i; size = λ i. q.size i ∙ p.size i }

pub alike_with : (k : ℕ) (l : List ℕ) (m : List Region) → length l ≡ size_of m k → Alike m (with_bytes k l m)
alike_with k l m e = record { count = length_with k l m; base = base_with k l m; size = λ j. size_with k l m j e }

-- a store's
pub alike-store : (k o n v : ℕ) (m : List Region) → Alike m (with_bytes k (write_le (bytes_of m k) o n v) m)
alike-store k o n v m = alike_with k (write_le (bytes_of m k) o n v) m (length-write_le (bytes_of m k) o n v)

pub apart-alike : {m m' : List Region} → Alike m m' → Apart m → Apart m'
apart-alike {m} {m'} q p =
    record {
      ends = λ i h. rw (q.base i, q.size i) (p.ends i (omega (arith, q.count)));
      disjoint = λ i j h l d. rw (q.base i, q.size i, q.base j, q.size j) (p.disjoint i j (omega (arith, q.count)) (omega (arith, q.count)) d);
    }

pub at_alike : {m m' : List Region} {a k o n : ℕ} → Alike m m' → At m a k o n → At m' a k o n
at_alike {m} {m'} {a} {k} {o} {n} q p =
    record { region = omega (arith, q.count); address = omega (arith, q.base k); fits = omega (arith, q.size k); positive = p.positive }

-- the last bytes put into a region are its bytes
pub with_with : (k : ℕ) (l l' : List ℕ) (m : List Region) → with_bytes k l' (with_bytes k l m) ≡ with_bytes k l' m
with_with zero l l' [] = refl
with_with (suc k) l l' [] = refl
with_with zero l l' (r ∷ m) = refl
with_with (suc k) l l' (r ∷ m) = ap (λ q. r ∷ q) (with_with k l l' m)

-- regions behind the one whose bytes are others
drop-set : {A : Type 0} (n k : ℕ) (x : A) (l : List A) → k < n → drop n (set l k x) ≡ drop n l
drop-set zero k x l h = absurd (omega arith)
drop-set (suc n) k x [] h = refl
drop-set (suc n) zero x (a ∷ l) h = refl
drop-set (suc n) (suc k) x (a ∷ l) h = drop-set n k x l (omega arith)

pub drop_with : (n k : ℕ) (l : List ℕ) (m : List Region) → k < n → drop n (with_bytes k l m) ≡ drop n m
drop_with n k l m h = drop-set n k (record { base = base_of m k; bytes = l }) m h
