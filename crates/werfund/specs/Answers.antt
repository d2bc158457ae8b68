-- AN ANSWER IN NUMBERS, as the host gets it.
use Rattle.std.specs.Prelude.{List, [], ◌∷◌, ◌++◌, ℕ, ◌*◌, ◌^◌, length, take, Result, Ok, Err}
use Rattle.lowering.specs.declared.Site.{Site}
use Rattle.words.specs.declared.EncodeError.{EncodeError}
use Rattle.words.specs.Answers.{number}
use Rattle.answers.specs.Translation.{Told, accepted, refused}
use Rattle.answers.specs.WordsNeeded.{Need, takes, refused_with}

-- the fault's number, 10 or one of reading's; 0 where the record is accepted
abbrev pub number_of : Told → ℕ
number_of (accepted words body ss) = 0
number_of (refused number place) = number

-- word position and guest target of each site, as they are listed (by rising position: `Sited`)
abbrev pub site_cells : List Site → List ℕ
site_cells [] = []
site_cells (s ∷ ss) = s.at ∷ s.target ∷ site_cells ss

-- the fault's place, the words, the body's offset in bytes, the sites, and two of them; 0 for what there is not
abbrev pub cells_of : Told → List ℕ
cells_of (accepted words body ss) = 0 ∷ words ∷ body ∷ length ss ∷ take 4 (site_cells ss ++ (0 ∷ 0 ∷ 0 ∷ 0 ∷ []))
cells_of (refused number place) = place ∷ 0 ∷ 0 ∷ 0 ∷ 0 ∷ 0 ∷ 0 ∷ 0 ∷ []

-- of the words that a block takes: the number of reading's fault; 0 where they are counted
abbrev pub need_number : Need → ℕ
need_number (takes words) = 0
need_number (refused_with number place) = number

-- the fault's place and the words; 0 for what there is not
abbrev pub need_cells : Need → List ℕ
need_cells (takes words) = 0 ∷ words ∷ []
need_cells (refused_with number place) = place ∷ 0 ∷ []

-- a link's word, or the fault's number above 32 bits of 0
abbrev pub link_answer : Result ℕ EncodeError → ℕ
link_answer (Ok word) = word
link_answer (Err e) = number e * 2 ^ 32
