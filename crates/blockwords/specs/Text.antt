-- THE TEXT OF A RECORD'S TRANSLATION: document 01, "A whole listing".
use Rattle.std.specs.Prelude.{List, ◌++◌, ℕ, take, replicate}
use Rattle.text.specs.Put.{rows}
use Rattle.listing.specs.Listing.{counts, site_lines, refused as refused_text}
use Rattle.answers.specs.Translation.{Told, accepted, refused, translation, lent_after}

-- an answer: the counts, the first words of those lent, as many as it says, five a line, and the sites as they are listed, by rising
-- word position (`Sited`); or a fault's number and place
unfoldable pub text_of : Told → (lent : List ℕ) → List ℕ
text_of (accepted n body ss) lent = counts n body ++ (rows 0 (take n lent) ++ site_lines ss)
text_of (refused number place) lent = refused_text number place

-- 16,384 words are lent, all 0
unfoldable pub lent : List ℕ
lent = replicate 16384 0

unfoldable pub answer_text : (bytes : List ℕ) → List ℕ
answer_text bytes = text_of (translation bytes lent) (lent_after bytes lent)
