-- WHAT A TRANSLATION PROMISES, from its definition: `translations`; and `promised`: that the sites stand by rising position, each once, and
-- of the words where they stand demand 3, and that they are the instructions meant.
use mathlib.Core.Path.{◌≡◌, sym, ap, subst, ◌∙◌}
use mathlib.Core.Bool.{true}
use mathlib.Core.List.{List, ◌∷◌, ◌++◌}
use Prim.Native.Nat.{ℕ}
use native.Mathlib.Omega.{arith}
use lib.ListN.{length, take, drop}
use lib.Seq.{take-append_seam, drop-append_seam}
use Rattle.block.specs.declared.Block.{Block}
use Rattle.record.specs.Record.{Refused as Fault, reading, reading_faults, among}
use Rattle.record.proofs.Accepted.{Bytes, read-checked}
use Rattle.record.proofs.Faults.{among-behind}
use Rattle.lowering.specs.declared.Site.{Site}
use Rattle.lowering.proofs.Commit.{departs}
use Rattle.lowering.specs.Compile.{block_words, body_offset, sites}
use Rattle.bounds.specs.Whole.{Emitted}
use Rattle.bounds.proofs.Whole.{emitted}
use Rattle.finish.specs.Finish.{zeros}
use Rattle.simulation.proofs.Demand.{demand_3}
use Rattle.answers.specs.Translation.{Told, accepted, refused, translation, lent_after}
use Rattle.answers.specs.Contract.{Sited, RunsAs, Runs, Meant}
use Rattle.answers.specs.Claims.{Translations}
use Rattle.answers.proofs.Faults.{Early, early}
use Rattle.answers.proofs.Sites.{in_order}
use Rattle.answers.proofs.Cases.{Short, Fits, Ends, faulty, short, fits, fault-told, is_short, does-fit, ends}

module _ (bytes lent : List ℕ) where
  abbrev b : Block
  b = (reading bytes).block

  accepted-fits : (n body : ℕ) (ss : List Site) → translation bytes lent ≡ accepted n body ss → Fits bytes lent
  accepted-fits n body ss e = by (ends bytes lent)
    where
      by : Ends bytes lent → Fits bytes lent
      by (faulty x) = absurd (let z : ◌≡◌ {A = ℕ} 0 1 = cc in omega arith)
      by (short x) = absurd (let z : ◌≡◌ {A = ℕ} 0 1 = cc in omega arith)
      by (fits x) = x

  ten-short : (place : ℕ) → translation bytes lent ≡ refused 10 place → Short bytes lent
  ten-short place e = by (ends bytes lent)
    where
      by : Ends bytes lent → Short bytes lent
      by (faulty x) =
          absurd
          (let n : x.number ≡ 10 = cc x.answer in
          let l : Early (Fault x.number x.place) = subst Early x.fault (early bytes) in l.1 n)
      by (short x) = x
      by (fits x) = absurd (let z : ◌≡◌ {A = ℕ} 0 1 = cc in omega arith)

  refused-listed : (number place : ℕ) → translation bytes lent ≡ refused number place → among number (10 ∷ reading_faults) ≡ true
  refused-listed number place e = by (ends bytes lent)
    where
      by : Ends bytes lent → among number (10 ∷ reading_faults) ≡ true
      by (faulty x) =
          let n : x.number ≡ number = cc x.answer in
          let l : Early (Fault x.number x.place) = subst Early x.fault (early bytes) in
          among-behind number 10 reading_faults (subst (λ m. among m reading_faults ≡ true) n l.0)
      by (short x) = let n : 10 ≡ number = cc x.answer in rw (← n)
      by (fits x) = absurd (let z : ◌≡◌ {A = ℕ} 0 1 = cc in omega arith)

  refused-zeros : (number place : ℕ) → translation bytes lent ≡ refused number place → lent_after bytes lent ≡ zeros lent
  refused-zeros number place e = by (ends bytes lent)
    where
      by : Ends bytes lent → lent_after bytes lent ≡ zeros lent
      by (faulty x) = x.words
      by (short x) = x.words
      by (fits x) = absurd (let z : ◌≡◌ {A = ℕ} 0 1 = cc in omega arith)

  module _ (n body : ℕ) (ss : List Site) (e : translation bytes lent ≡ accepted n body ss) where
    fit : Fits bytes lent
    fit = accepted-fits n body ss e

    count_is : n ≡ length (block_words b)
    count_is = cc fit.answer

    first_words : take n (lent_after bytes lent) ≡ block_words b
    first_words =
        ap (take n) fit.words
        ∙ ap (λ m. take m (block_words b ++ drop (length (block_words b)) lent)) count_is
        ∙ take-append_seam (block_words b) (drop (length (block_words b)) lent)

    words-beyond : drop n (lent_after bytes lent) ≡ drop n lent
    words-beyond =
        ap (drop n) fit.words
        ∙ ap (λ m. drop m (block_words b ++ drop (length (block_words b)) lent)) count_is
        ∙ drop-append_seam (block_words b) (drop (length (block_words b)) lent)
        ∙ ap (λ m. drop m lent) (sym count_is)

  pub translations : Translations bytes lent
  translations =
      record {
        fault_first = fault-told bytes lent;
        accepted_if = λ e l. (does-fit bytes lent e l).answer;
        accepted_only_if = λ n body ss e. ((accepted-fits n body ss e).no_fault, (accepted-fits n body ss e).enough);
        ten_if = λ e l. (is_short bytes lent e l).answer;
        ten_only_if = λ place e. ((ten-short place e).no_fault, (ten-short place e).few);
        refused-known = refused-listed;
        refused-words = refused-zeros;
        accepted-words = first_words;
        flag_0_words = λ n body ss e off. first_words n body ss e ∙ ((departs (reading bytes).block).flag_0 off).words_same;
        accepted-beyond = words-beyond;
      }

  -- ---- each site once, by rising word position
  pub sited-told : Sited (translation bytes lent) bytes
  sited-told = by (ends bytes lent)
    where
      by : Ends bytes lent → Sited (translation bytes lent) bytes
      by (faulty x) = rw x.answer tt
      by (short x) = rw x.answer tt
      by (fits x) = rw x.answer ((in_order b).rising, (in_order b).one_order.listed-once)

  -- ---- DEMAND 3, and DEMAND 2 by the Arm manual, of an accepted record's words, where they stand
  demand_3_lent : Bytes bytes → Runs (translation bytes lent) bytes (lent_after bytes lent)
  demand_3_lent are = by (ends bytes lent)
    where
      by : Ends bytes lent → Runs (translation bytes lent) bytes (lent_after bytes lent)
      by (faulty x) = rw x.answer tt
      by (short x) = rw x.answer tt
      by (fits x) =
          subst (λ t. Runs t bytes (lent_after bytes lent)) (sym x.answer)
          (subst (λ ws. RunsAs ws b) (sym (first_words (length (block_words b)) body_offset (sites b) x.answer))
          (λ h entry limit c s. demand_3 b h entry limit c s (read-checked bytes are x.no_fault)))

  meant-lent : Bytes bytes → Meant (translation bytes lent) bytes (lent_after bytes lent)
  meant-lent are = by (ends bytes lent)
    where
      by : Ends bytes lent → Meant (translation bytes lent) bytes (lent_after bytes lent)
      by (faulty x) = rw x.answer tt
      by (short x) = rw x.answer tt
      by (fits x) =
          subst (λ t. Meant t bytes (lent_after bytes lent)) (sym x.answer)
          (subst (λ ws. Emitted ws b) (sym (first_words (length (block_words b)) body_offset (sites b) x.answer))
          (emitted b (read-checked bytes are x.no_fault)))

-- ---- of an answer and of lent words that are the definition's
abbrev pub Promised : (bytes ws : List ℕ) → Told → Type 0
Promised bytes ws t = Sited t bytes × (Runs t bytes ws × Meant t bytes ws)

pub promised : (bytes lent ws : List ℕ) (t : Told) → Bytes bytes → t ≡ translation bytes lent → ws ≡ lent_after bytes lent
    → Promised bytes ws t
promised bytes lent ws t are e q = rw (e, q) (sited-told bytes lent, (demand_3_lent bytes lent are, meant-lent bytes lent are))
