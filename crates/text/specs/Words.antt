-- The words of a text, one behind the other.
use Rattle.std.specs.Prelude.{List, ℕ, ◌≡◌, MatchOption}
use Rattle.std.specs.Borrow.{Bor}
use Rattle.std.specs.declared.option.Option.{Option}
use Rattle.text.specs.declared.split.Words.{Words}
use Rattle.text.specs.Split.{IsBlank, IsWord}

-- the next word of a text and what stands behind it, or the end
abbrev pub TakesWord : Words → Option (Bor (List ℕ)) → Words → Type 0
TakesWord s r t = MatchOption r (IsBlank s.0.now × (t ≡ s)) (λ w. IsWord s.0.now w.now t.0.now)
