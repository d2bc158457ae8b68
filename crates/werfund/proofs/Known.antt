-- The numbers that the host may get: 0, 10 and those of reading's faults.
use mathlib.Core.Path.{◌≡◌, refl}
use mathlib.Core.Bool.{true}
use mathlib.Core.List.{List, ◌∷◌}
use Prim.Native.Nat.{ℕ}
use Rattle.record.specs.Record.{Answer, Accepted, Refused, reading, reading_faults, among}
use Rattle.record.proofs.Faults.{among-behind, told}
use Rattle.answers.specs.Translation.{Told, accepted, refused, translation}
use Rattle.answers.specs.WordsNeeded.{need_behind, words_needed}
use Rattle.answers.proofs.Promises.{translations}
use Rattle.werfund.specs.Answers.{number_of, need_number}

pub translate_known : (bytes lent : List ℕ) → among (number_of (translation bytes lent)) (0 ∷ 10 ∷ reading_faults) ≡ true
translate_known bytes lent = by (translation bytes lent) refl
  where
    by : (t : Told) → translation bytes lent ≡ t → among (number_of t) (0 ∷ 10 ∷ reading_faults) ≡ true
    by (accepted words body ss) e = refl
    by (refused number place) e = among-behind number 0 (10 ∷ reading_faults) ((translations bytes lent).refused-known number place e)

pub need_known : (bytes : List ℕ) → among (need_number (words_needed bytes)) (0 ∷ reading_faults) ≡ true
unfolding words_needed need_behind
need_known bytes = by (reading bytes).answer (told bytes).known
  where
    by : (a : Answer) → ((number place : ℕ) → a ≡ Refused number place → among number reading_faults ≡ true)
        → among (need_number (need_behind a (reading bytes).block)) (0 ∷ reading_faults) ≡ true
    by Accepted h = refl
    by (Refused number place) h = among-behind number 0 reading_faults (h number place refl)
