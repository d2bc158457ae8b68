-- WHAT IS PROMISED of an answer and of the lent words behind it, besides that both are the definition's.
use Rattle.std.specs.Prelude.{◌≡◌, List, ℕ, length, take}
use Rattle.block.specs.declared.Block.{Block}
use Rattle.record.specs.Record.{reading}
use Rattle.code.specs.Items.{Rise}
use Rattle.lowering.specs.Compile.{sites}
use Rattle.machine.specs.State.{State, xip}
use Rattle.machine.specs.Memory.{bytes_of}
use Rattle.machine.specs.Execute.{Helpers}
use Rattle.machine.specs.Machine.{run}
use Rattle.card.specs.Card.{Card}
use Rattle.card.specs.Step.{Way}
use Rattle.card.specs.Run.{left as leaves, run as run_card}
use Rattle.demand.specs.Premises.{Entry, PremisesOn}
use Rattle.demand.specs.Claim.{Meets}
use Rattle.bounds.specs.Whole.{Emitted}
use Rattle.answers.specs.Translation.{Told, accepted, refused}
use Rattle.answers.specs.Sites.{positions, ListedOnce}

-- "Sites are listed by rising word position": from the first word on, each behind the one before, all of them words of the block; and each
-- site of the block once, nothing else. No other list meets it (Sites.antt `only_rising`).
abbrev pub Sited : Told → (bytes : List ℕ) → Type 0
Sited (accepted words body ss) bytes = Rise 0 words (positions ss) × ListedOnce (sites (reading bytes).block) ss
Sited (refused number place) bytes = Unit {0}

-- DEMAND 3 of these words: of every run of them on the Arm model, for this block, start and outside under the premises
abbrev pub RunsAs : (ws : List ℕ) → Block → Type 0
RunsAs ws b = (h : Helpers) (entry : Entry) (limit : ℕ) (c : Card) (s : State) → PremisesOn ws b h entry limit c s
    → (w : Way) (d : Card) → run_card b (bytes_of s.mem xip) limit c ≡ leaves w d
    → Meets b h entry w d s (run (length ws) h s)

-- of an accepted record's words, where they stand: the first of the lent slice, as many as the answer says
abbrev pub Runs : Told → (bytes lent : List ℕ) → Type 0
Runs (accepted words body ss) bytes lent = RunsAs (take words lent) (reading bytes).block
Runs (refused number place) bytes lent = Unit {0}

-- DEMAND 2 by the Arm manual, of an accepted record's words, where they stand: outside the pool each is the encoding of the instruction
-- meant, with each label's true distance
abbrev pub Meant : Told → (bytes lent : List ℕ) → Type 0
Meant (accepted words body ss) bytes lent = Emitted (take words lent) (reading bytes).block
Meant (refused number place) bytes lent = Unit {0}
