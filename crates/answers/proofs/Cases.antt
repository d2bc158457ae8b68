-- The three ways a translation ends: a fault of reading, too few words, a block in the lent room.
use mathlib.Core.Path.{◌≡◌, refl}
use mathlib.Core.Bool.{Bool, true, false}
use mathlib.Core.List.{List, ◌++◌}
use Prim.Native.Nat.{ℕ, ◌<◌, ◌≤◌}
use lib.Dec.{ltb}
use lib.ListN.{length, drop}
use borrow.Author.Tests.{ltb-true, ltb-false, lt-ltb, le-ltb}
use Rattle.block.specs.declared.Block.{Block}
use Rattle.record.specs.Record.{Answer, Accepted as NoFault, Refused as Fault, reading}
use Rattle.code.proofs.Order.{lay-fits}
use Rattle.lowering.specs.Compile.{block_words, body_offset, sites}
use Rattle.finish.specs.Finish.{zeros}
use Rattle.finish.specs.Whole.{laid}
use Rattle.answers.specs.Translation.{accepted, refused, block_told, told_behind, laid_behind, translation, lent_after}

pub record Faulty (bytes lent : List ℕ) : Type 0 where
  pub number : ℕ
  pub place : ℕ
  pub fault : (reading bytes).answer ≡ Fault number place
  pub answer : translation bytes lent ≡ refused number place
  pub words : lent_after bytes lent ≡ zeros lent

pub record Short (bytes lent : List ℕ) : Type 0 where
  pub no_fault : (reading bytes).answer ≡ NoFault
  pub few : length lent < length (block_words (reading bytes).block)
  pub answer : translation bytes lent ≡ refused 10 (length bytes)
  pub words : lent_after bytes lent ≡ zeros lent

pub record Fits (bytes lent : List ℕ) : Type 0 where
  pub no_fault : (reading bytes).answer ≡ NoFault
  pub enough : length (block_words (reading bytes).block) ≤ length lent
  pub answer : translation bytes lent ≡ accepted (length (block_words (reading bytes).block)) body_offset (sites (reading bytes).block)
  pub words : lent_after bytes lent ≡ block_words (reading bytes).block ++ drop (length (block_words (reading bytes).block)) lent

pub data Ends (bytes lent : List ℕ) : Type 0 where
  faulty : Faulty bytes lent → Ends bytes lent
  short : Short bytes lent → Ends bytes lent
  fits : Fits bytes lent → Ends bytes lent

module _ (bytes lent : List ℕ) where
  abbrev b : Block
  b = (reading bytes).block

  pub fault-told : (number place : ℕ) → (reading bytes).answer ≡ Fault number place → translation bytes lent ≡ refused number place
  unfolding translation told_behind
  fault-told number place e = rw e

  is_faulty : (number place : ℕ) → (reading bytes).answer ≡ Fault number place → Faulty bytes lent
  unfolding lent_after laid_behind
  is_faulty number place e = record { number = number; place = place; fault = e; answer = fault-told number place e; words = rw e }

  pub is_short : (reading bytes).answer ≡ NoFault → length lent < length (block_words b) → Short bytes lent
  unfolding translation lent_after told_behind laid_behind block_told laid
  is_short e l =
      let t = lt-ltb (length lent) (length (block_words b)) l in
      record { no_fault = e; few = l; answer = rw (e, t); words = rw (e, t) }

  pub does-fit : (reading bytes).answer ≡ NoFault → length (block_words b) ≤ length lent → Fits bytes lent
  unfolding translation lent_after told_behind laid_behind block_told laid
  does-fit e l =
      record {
        no_fault = e;
        enough = l;
        answer = rw (e, le-ltb (length lent) (length (block_words b)) l);
        words = rw (e, le-ltb (length lent) (length (block_words b)) l) (lay-fits (block_words b) lent l);
      }

  pub ends : Ends bytes lent
  ends = by (reading bytes).answer refl (ltb (length lent) (length (block_words b))) refl
    where
      by : (a : Answer) → (reading bytes).answer ≡ a → (t : Bool) → ltb (length lent) (length (block_words b)) ≡ t → Ends bytes lent
      by (Fault number place) e t q = faulty (is_faulty number place e)
      by NoFault e true q = short (is_short e (ltb-true (length lent) (length (block_words b)) q))
      by NoFault e false q = fits (does-fit e (ltb-false (length lent) (length (block_words b)) q))
