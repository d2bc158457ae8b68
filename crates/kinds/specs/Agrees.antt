-- A kind's steps on the machine between, and the card's own step of it: they agree.
use Rattle.std.specs.Prelude.{◌≡◌}
use Rattle.card.specs.Step.{After, on, out, starved}
use Rattle.relation.specs.Abs.{Then, go, off, void}

-- what the machine between ends in where the card's operation ends so; a request that finds no outcome asks nothing
abbrev pub Agrees : After → Then → Type 0
Agrees (on c) (go a) = a.c ≡ c
Agrees (on c) (off w d) = ⊥
Agrees (on c) void = ⊥
Agrees (out w c) (go a) = ⊥
Agrees (out w c) (off v d) = (v ≡ w) × (d ≡ c)
Agrees (out w c) void = ⊥
Agrees starved r = Unit {0}
