-- Memory in regions: little-endian, any alignment, each access wholly in one region (B2, alignment and endian support; document 01).
use Rattle.std.specs.Prelude.{Bool, cond, not, ◌&&◌, List, [], ◌∷◌, ◌⊎◌, ◌≢◌, ℕ, zero, suc, ◌+◌, ◌-◌, ◌*◌, ◌/◌, ◌%◌, ◌^◌, ◌≤◌, ◌<◌, leb, eqb, length, get_or, set}
use Rattle.std.proofs.Math.Option.{Option, none, some}
use Rattle.machine.specs.Bits.{byte}
use Rattle.machine.specs.State.{Region, code, xip}

-- n bytes from place o on, as a number. A byte is read as its lowest eight bits, as a register is as its width
unfoldable pub read_le : List ℕ → ℕ → ℕ → ℕ
read_le l o zero = 0
read_le l o (suc n) = get_or l o 0 % 256 + 256 * read_le l (suc o) n

unfoldable pub write_le : List ℕ → ℕ → ℕ → ℕ → List ℕ
write_le l o zero v = l
write_le l o (suc n) v = write_le (set l o (v % 256)) (suc o) n (v / 256)

-- the bytes of words, as code holds them
unfoldable pub bytes_of_words : List ℕ → List ℕ
bytes_of_words [] = []
bytes_of_words (w ∷ ws) = byte w 0 ∷ byte w 1 ∷ byte w 2 ∷ byte w 3 ∷ bytes_of_words ws

-- a region's number and the place in it
pub record Place : Type 0 where
  pub region : ℕ
  pub at : ℕ

-- n bytes from address a on are the region's
unfoldable pub within : Region → ℕ → ℕ → Bool
within r a n = leb r.base a && leb (a + n) (r.base + length r.bytes)

-- the first region, counted from i, that holds n bytes from address a on
unfoldable pub locate : ℕ → List Region → ℕ → ℕ → Option Place
locate i [] a n = none
locate i (r ∷ rs) a n = cond (within r a n) (some (record { region = i; at = a - r.base })) (locate (suc i) rs a n)

abbrev pub nowhere : Region
nowhere = record { base = 0; bytes = [] }

abbrev pub bytes_of : List Region → ℕ → List ℕ
bytes_of m i = (get_or m i nowhere).bytes

abbrev pub base_of : List Region → ℕ → ℕ
base_of m i = (get_or m i nowhere).base

abbrev pub size_of : List Region → ℕ → ℕ
size_of m i = length (bytes_of m i)

abbrev pub with_bytes : ℕ → List ℕ → List Region → List Region
with_bytes i l m = set m i (record { base = base_of m i; bytes = l })

-- Mem[a, n]; none where it is not wholly in one region
abbrev pub loaded : List Region → ℕ → Option Place → Option ℕ
loaded m n none = none
loaded m n (some p) = some (read_le (bytes_of m p.region) p.at n)

unfoldable pub load : List Region → ℕ → ℕ → Option ℕ
load m a n = loaded m n (locate 0 m a n)

-- code and flash are not written
abbrev pub writable : ℕ → Bool
writable i = not (eqb i code) && not (eqb i xip)

-- Mem[a, n] = v
abbrev pub stored : List Region → (n v : ℕ) → Option Place → Option (List Region)
stored m n v none = none
stored m n v (some p) = cond (writable p.region) (some (with_bytes p.region (write_le (bytes_of m p.region) p.at n v) m)) none

unfoldable pub store : List Region → ℕ → ℕ → ℕ → Option (List Region)
store m a n v = stored m n v (locate 0 m a n)

-- ---- "lie apart": no two regions share an address, and none passes the end of the 64 bits
abbrev pub Disjoint : (a n b m : ℕ) → Type 0
Disjoint a n b m = (a + n ≤ b) ⊎ (b + m ≤ a)

pub record Apart (m : List Region) : Type 0 where
  pub ends : (i : ℕ) → i < length m → base_of m i + size_of m i ≤ 2 ^ 64
  pub disjoint : (i j : ℕ) → i < length m → j < length m → i ≢ j → Disjoint (base_of m i) (size_of m i) (base_of m j) (size_of m j)
