-- A fault has a number from 1 on, so the number 0 says that the record is accepted, or that the words are counted.
use mathlib.Core.Path.{◌≡◌, refl, subst}
use mathlib.Core.List.{List}
use Prim.Native.Nat.{ℕ, zero, suc, ◌<◌}
use native.Mathlib.Omega.{arith}
use lib.ListN.{length}
use Rattle.record.specs.Record.{Answer, Accepted, Refused, number_of as fault_number, reading}
use Rattle.record.proofs.Faults.{told}
use Rattle.lowering.specs.Compile.{block_words}
use Rattle.answers.specs.Translation.{translation}
use Rattle.answers.specs.WordsNeeded.{takes, need_behind, words_needed}
use Rattle.answers.proofs.Cases.{Fits, Ends, faulty, short, fits, ends}
use Rattle.werfund.specs.Answers.{number_of, need_number}

abbrev Numbered : Answer → Type 0
Numbered Accepted = Unit {0}
Numbered (Refused number place) = 0 < number

numbered : (s : List ℕ) → Numbered (reading s).answer
numbered s = by (reading s).answer (told s).accepted
  where
    by : (a : Answer) → (fault_number a ≡ 0 → a ≡ Accepted) → Numbered a
    by Accepted h = tt
    by (Refused zero place) h = let e = h refl in let z : ◌≡◌ {A = ℕ} 0 1 = cc in absurd (omega arith)
    by (Refused (suc number) place) h = omega arith

pub zero_if : (bytes lent : List ℕ) → Fits bytes lent → number_of (translation bytes lent) ≡ 0
zero_if bytes lent f = rw f.answer

pub zero_only_if : (bytes lent : List ℕ) → number_of (translation bytes lent) ≡ 0 → Fits bytes lent
zero_only_if bytes lent e = by (ends bytes lent)
  where
    by : Ends bytes lent → Fits bytes lent
    by (faulty x) =
        absurd
        (let n : x.number ≡ 0 = subst (λ t. number_of t ≡ 0) x.answer e in
        let l : Numbered (Refused x.number x.place) = subst Numbered x.fault (numbered bytes) in omega arith)
    by (short x) = absurd (let n : ◌≡◌ {A = ℕ} 10 0 = subst (λ t. number_of t ≡ 0) x.answer e in omega arith)
    by (fits x) = x

module _ (bytes : List ℕ) where
  pub counted_if : (reading bytes).answer ≡ Accepted → need_number (words_needed bytes) ≡ 0
  unfolding words_needed need_behind
  counted_if e = rw e

  pub counted_only_if : need_number (words_needed bytes) ≡ 0 → words_needed bytes ≡ takes (length (block_words (reading bytes).block))
  unfolding words_needed need_behind
  counted_only_if z = by (reading bytes).answer (numbered bytes) z
    where
      by : (a : Answer) → Numbered a → need_number (need_behind a (reading bytes).block) ≡ 0
          → need_behind a (reading bytes).block ≡ takes (length (block_words (reading bytes).block))
      by Accepted n e = refl
      by (Refused number place) n e = absurd (omega arith)
