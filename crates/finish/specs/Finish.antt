-- What `finish` leaves: the pool behind the words, then each distance in its field, patch by patch; or zeros where the room is short.
use Rattle.std.specs.Prelude.{ℕ, zero, suc, ◌+◌, ◌*◌, ◌/◌, ◌%◌, ◌^◌, Bool, List, [], ◌∷◌, ◌++◌, length, replicate, ℤ, pos, negsuc, nat_lt, slice_index, slice_set, Result, Ok, Err}
use Rattle.code.specs.Items.{pick, twos, bytes, dist, halves, pad_of, base_of}
use Rattle.code.specs.declared.Fix.{Fix}
use Rattle.code.specs.declared.Fix.TheVariants.{B26, B19, B14, Adr21}
use Rattle.asm.specs.declared.Reference.{Reference}
use Rattle.asm.specs.declared.Reference.TheVariants.{ToLabel, ToPool}
use Rattle.asm.specs.State.{label_room, fixup_room, fixups_at, ref_of, State, at_most, kept, held}
use Rattle.finish.specs.declared.Short.{Short}

-- ---- a distance in its field, tested for its range
abbrev pub within : ℕ → ℤ → Bool
within half (pos n) = nat_lt n half
within half (negsuc n) = nat_lt n half

unfoldable pub field_of : ℕ → ℤ → ℕ
field_of half z = pick (within half z) (twos (2 * half) z) 0

unfoldable pub patch_in : Fix → ℤ → ℕ
patch_in B26 z = field_of (2 ^ 25) z
patch_in B19 z = field_of (2 ^ 18) z * 32
patch_in B14 z = field_of (2 ^ 13) z * 32
patch_in Adr21 z = field_of (2 ^ 20) (bytes z) % 4 * 2 ^ 29 + field_of (2 ^ 20) (bytes z) / 4 * 32

-- ---- fix-up n of the table, on the words
unfoldable pub label_in : List ℕ → (l : ℕ) → ℕ
label_in t l = pick (nat_lt l label_room) (slice_index t l % 2 ^ 32) 0

-- to a label, or to a literal of the pool at `base`
unfoldable pub lead_in : List ℕ → (base : ℕ) → Reference → ℕ
lead_in t base (ToLabel l f) = label_in t l.0
lead_in t base (ToPool i) = base + 2 * i

abbrev pub field_in : Reference → Fix
field_in (ToLabel l f) = f
field_in (ToPool i) = B19

unfoldable pub patched_with : List ℕ → (base at : ℕ) → Reference → List ℕ → List ℕ
patched_with t base at r ws = slice_set ws at ((slice_index ws at + patch_in (field_in r) (dist (lead_in t base r) at)) % 2 ^ 32)

-- position and reference, as they were packed
unfoldable pub patched_cell : List ℕ → (base cell : ℕ) → List ℕ → List ℕ
patched_cell t base e ws = patched_with t base (e / 2 ^ 32) (ref_of (e % 2 ^ 32)) ws

unfoldable pub patched_at : List ℕ → (base n : ℕ) → List ℕ → List ℕ
patched_at t base n ws = patched_cell t base (slice_index t (fixups_at + n)) ws

unfoldable pub patched_to : List ℕ → (base n : ℕ) → List ℕ → List ℕ
patched_to t base zero ws = ws
patched_to t base (suc n) ws = patched_at t base n (patched_to t base n ws)

-- ---- words one after the other, from position p on, where there is room
unfoldable pub write : ℕ → List ℕ → List ℕ → List ℕ
write p [] ws = ws
write p (x ∷ xs) ws = write (suc p) xs (slice_set ws p x)

unfoldable pub zeros : List ℕ → List ℕ
zeros ws = replicate (length ws) 0

-- ---- the whole
abbrev pub written : State → ℕ
written s = at_most 1048576 s.asm.at

unfoldable pub needed : State → ℕ
needed s = base_of (written s) (held s) + 2 * kept s

-- fewer words are lent than these
abbrev pub short_of : ℕ → Short
short_of n = record { 0 = n }

unfoldable pub finished : State → Result ℕ Short
finished s = pick (nat_lt (length s.words) (needed s)) (Err (short_of (needed s))) (Ok (needed s))

-- before the walk: the pool behind the words
abbrev pub before_walk : State → List ℕ
before_walk s = write (written s) (pad_of (written s) (held s) ++ halves (held s)) s.words

-- behind the first n fix-ups of the table
abbrev pub walked_to : ℕ → State → List ℕ
walked_to n s = patched_to s.tab (base_of (written s) (held s)) n (before_walk s)

-- behind the first n patches, or behind all where there are fewer
unfoldable pub finished_words : ℕ → State → List ℕ
finished_words n s =
    pick (nat_lt (length s.words) (needed s)) (zeros s.words)
    (walked_to (at_most fixup_room (at_most s.asm.fixups n)) s)
