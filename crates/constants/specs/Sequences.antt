-- What an encoder of several words answers.
use Rattle.std.specs.Prelude.{ℕ, Bool, true, false, List, [], ◌∷◌, Result, Ok, Err}
use Rattle.words.specs.declared.EncodeError.{EncodeError}
use Rattle.words.specs.Answers.{Told, accepted, refused, number}
use Rattle.constants.specs.declared.Sequence.{Sequence}
use Rattle.constants.specs.declared.Sequence.TheVariants.{Empty, One, Two, Three, Four}

abbrev pub listed : Sequence → List ℕ
listed Empty = []
listed (One a) = a ∷ []
listed (Two a b) = a ∷ b ∷ []
listed (Three a b c) = a ∷ b ∷ c ∷ []
listed (Four a b c d) = a ∷ b ∷ c ∷ d ∷ []

-- an answer in document 01's numbers: its words, or a fault's number, place 0 and no word
abbrev pub told_words : Result Sequence EncodeError → Told (List ℕ)
told_words (Ok words) = accepted (listed words)
told_words (Err e) = refused (number e) 0 []

-- the words where the condition holds, and 13 elsewhere
unfoldable pub words_if : Bool → List ℕ → Told (List ℕ)
words_if true ws = accepted ws
words_if false ws = refused 13 0 []
