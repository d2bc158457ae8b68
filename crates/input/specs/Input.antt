-- What reads of an input give, of a reader whose bytes are known too.
use Rattle.std.specs.Prelude.{ℕ, Some, None, ◌<◌, ◌≤◌, List, [], length, take}
use Rattle.std.specs.declared.option.Option.{Option}
use Rattle.std.specs.Io.KnownBytes.{Consumes, IsAtEnd}

-- what one read gave of the bytes that were left, in a piece: no more than the piece has, or none, at the end
abbrev pub Gives : (old new : Option (List ℕ)) → List ℕ → Option ℕ → Type 0
Gives old new piece (Some n) = (n ≤ length piece) × Consumes old new (take n piece)
Gives old new piece None = Consumes old new [] × (0 < length piece → IsAtEnd new)

-- all the bytes that were left stand at the buffer's start, or they have no room there
abbrev pub HoldsAll : (old : Option (List ℕ)) → List ℕ → Option ℕ → Type 0
HoldsAll old buf (Some n) = (n ≤ length buf) × Consumes old (Some []) (take n buf)
HoldsAll old buf None = (bs : List ℕ) × (new : Option (List ℕ)) × Consumes old new bs × (length buf < length bs)
