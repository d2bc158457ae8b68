-- The text that answers a record, as a list of bytes: document 01, "A whole listing". Counts, numbers, offsets and positions are decimal.
use Rattle.std.specs.Prelude.{ℕ, List, [], ◌∷◌, ◌++◌, length}
use Rattle.lowering.specs.declared.Site.{Site}
use Rattle.text.specs.Put.{hex8, decimal, rows}

-- `words`, the word count, `body`, the body's offset in bytes
unfoldable pub counts : (n body : ℕ) → List ℕ
counts n body =
    ((119 ∷ 111 ∷ 114 ∷ 100 ∷ 115 ∷ 32 ∷ []) ++ decimal n)
    ++ (((32 ∷ 98 ∷ 111 ∷ 100 ∷ 121 ∷ 32 ∷ []) ++ decimal body) ++ (10 ∷ []))

-- `site`, its word position, its guest target
unfoldable pub site_line : (position target : ℕ) → List ℕ
site_line position target =
    ((115 ∷ 105 ∷ 116 ∷ 101 ∷ 32 ∷ []) ++ decimal position) ++ ((32 ∷ []) ++ (hex8 target ++ (10 ∷ [])))

-- a line for each site, in the order given
unfoldable pub site_lines : List Site → List ℕ
site_lines [] = []
site_lines (s ∷ ss) = site_line s.at s.target ++ site_lines ss

-- the counts, the words, five a line, and the sites
unfoldable pub accepted : (words : List ℕ) → (body : ℕ) → (sites : List Site) → List ℕ
accepted words body sites = counts (length words) body ++ (rows 0 words ++ site_lines sites)

-- `refused`, number, offset
unfoldable pub refused : (number place : ℕ) → List ℕ
refused number place =
    ((114 ∷ 101 ∷ 102 ∷ 117 ∷ 115 ∷ 101 ∷ 100 ∷ 32 ∷ []) ++ decimal number) ++ (((32 ∷ []) ++ decimal place) ++ (10 ∷ []))

-- `long`
unfoldable pub long : List ℕ
long = 108 ∷ 111 ∷ 110 ∷ 103 ∷ 10 ∷ []
