-- A run of a block. Document 01: "The card's definition is fed the block record, start, flash and outcomes, not the words."
use Rattle.std.specs.Prelude.{Bool, true, false, cond, not, ◌&&◌, ◌||◌, List, [], ◌∷◌, ℕ, suc, ◌+◌, ltb, eqb, length}
use Rattle.card.specs.Kinds.{BOp, Block, Memory, ops_of, uses_bus, in_flash}
use Rattle.card.specs.Word.{plus}
use Rattle.card.specs.Card.{guard, Card, set_hold, arrive, version_at}
use Rattle.card.specs.Memory.{Access, got, unmet, ask}
use Rattle.card.specs.Step.{Way, exits, chains, After, on, out, starved, op_step}

-- The end: how the block left and the card then; or, where a request found no outcome, the card before that operation or guard.
pub data End : Type 0 where
  left : Way → Card → End
  stopped : Card → End

-- "Kinds 21 to 29 use the bus; each is followed by a break check: on a nonzero break word the block leaves for the address behind the
-- operation, with hold set to 1 if glue is 1."
abbrev pub check_brk : BOp → (i next : ℕ) → Card → After
check_brk o i next c =
    cond (uses_bus o.fast && not (eqb c.brk 0))
    (out exits (arrive next (suc i) (set_hold (cond o.glue 1 c.hold) c)))
    (on c)

abbrev pub checked : BOp → (i next : ℕ) → After → After
checked o i next (on c) = check_brk o i next c
checked o i next (out w c) = out w c
checked o i next starved = starved

-- "each operation takes what the last one left, up to a break check that leaves"; before is the card where it has not run
abbrev pub and_then : After → (before : Card) → (Card → End) → End
and_then (on c) before f = f c
and_then (out w c) before f = left w c
and_then starved before f = stopped before

-- from operation number i on, at guest address pc; behind the last operation a chain goes on
unfoldable pub ops_from : Memory → (flash : List ℕ) → (i pc : ℕ) → List BOp → Card → End
ops_from m flash i pc [] c = left (chains 0) (arrive pc i c)
ops_from m flash i pc (o ∷ os) c =
    let next : ℕ = plus pc o.len in
    and_then (checked o i next (op_step m flash i next o.fast c)) (arrive pc i c) (λ c₁. ops_from m flash (suc i) next os c₁)

-- ---- 2026-06: the guard of a RAM block
-- the answer: "exit with nothing done if the helper answers 0"; before is the card where there is none
abbrev pub guarded : Access → (before : Card) → (pc : ℕ) → (Card → End) → End
guarded unmet before pc f = stopped before
guarded (got v c) before pc f = cond (eqb v 0) (left exits (arrive pc 0 c)) (f c)

-- "straight after the limit test: equal versions .. go on without a request; otherwise the guard's address is the request". A flash
-- block has no guard
abbrev pub guard_test : Block → Card → (Card → End) → End
guard_test b c f =
    cond (in_flash b.pc0 || eqb c.version (version_at c.guards b.guard.at))
    (f c)
    (guarded (ask (guard b.guard.at) c.outcomes c) (arrive b.pc0 0 c) b.pc0 f)

-- "If done plus operations exceeds the start's limit, nothing runs"
unfoldable pub run : Block → (flash : List ℕ) → (limit : ℕ) → Card → End
run b flash limit c =
    cond (ltb limit (c.done + length (ops_of b)))
    (left exits (arrive b.pc0 0 c))
    (guard_test b c (λ c₁. ops_from b.memory flash 0 b.pc0 (ops_of b) c₁))
