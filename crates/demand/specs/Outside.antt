-- The outside, as the card and as the machine see it: the card's outcome has no registers and flags, and the requests are the same.
use Rattle.std.specs.Prelude.{List, [], ◌∷◌}
use Rattle.machine.specs.State.{Outcome, Request, read, write, guard}
use Rattle.card.specs.Card.{Outcome as CardOutcome, Request as CardRequest, read as card_read, write as card_write, guard as card_guard}

abbrev pub as_arm : CardRequest → Request
as_arm (card_read a w d) = read a w d
as_arm (card_write a w d v) = write a w d v
as_arm (card_guard a) = guard a

abbrev pub as_card : Outcome → CardOutcome
as_card o = record { answer = o.answer; brk = o.brk; ram = o.ram; map = o.map; version = o.version; guards = o.guards }

abbrev pub all_arm : List CardRequest → List Request
all_arm [] = []
all_arm (q ∷ qs) = as_arm q ∷ all_arm qs

abbrev pub all_card : List Outcome → List CardOutcome
all_card [] = []
all_card (o ∷ os) = as_card o ∷ all_card os
