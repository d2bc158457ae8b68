-- The faults of reading have the listed numbers (`Told`), and 10 is none of them, so that 10 has one meaning.
use mathlib.Core.Path.{◌≡◌, refl}
use mathlib.Core.Bool.{true}
use mathlib.Core.List.{List}
use Prim.Native.Nat.{ℕ}
use Rattle.record.specs.Record.{Answer, Accepted, Refused, reading, reading_faults, among}
use Rattle.record.proofs.Faults.{none_listed, told}

abbrev pub Early : Answer → Type 0
Early Accepted = Unit {0}
Early (Refused number place) = (among number reading_faults ≡ true) × (number ≡ 10 → ⊥)

pub early : (s : List ℕ) → Early (reading s).answer
early s = by (reading s).answer (told s).known
  where
    by : (a : Answer) → ((number place : ℕ) → a ≡ Refused number place → among number reading_faults ≡ true) → Early a
    by Accepted h = tt
    by (Refused number place) h = let listed = h number place refl in (listed, none_listed 10 refl number listed)
