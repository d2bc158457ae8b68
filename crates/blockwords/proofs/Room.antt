-- THE TEXT OF EVERY ANSWER fits into the buffer of `blockwords`, of 147,584 bytes, so that none is cut short.
use mathlib.Core.Path.{◌≡◌, sym, ap, subst}
use mathlib.Core.List.{List, [], ◌∷◌}
use Prim.Native.Nat.{ℕ, ◌*◌, ◌≤◌}
use native.Mathlib.Omega.{arith}
use lib.ListN.{length, take, length-append, length-replicate}
use Rattle.block.specs.declared.Block.{Block}
use Rattle.record.specs.Record.{reading}
use Rattle.lowering.specs.declared.Site.{Site}
use Rattle.lowering.specs.Steps.{block_steps}
use Rattle.lowering.specs.Compile.{block_code, block_words, body_offset, starts, targets, zip_sites, sites}
use Rattle.bounds.proofs.Sites.{sited}
use Rattle.listing.specs.Listing.{site_lines}
use Rattle.listing.proofs.Room.{nine, counts_le, site_le, refused_le}
use Rattle.answers.specs.Translation.{Told, accepted, refused, translation, lent_after}
use Rattle.answers.proofs.Cases.{Ends, faulty, short, fits, ends}
use Rattle.answers.proofs.Promises.{translations}
use Rattle.blockwords.specs.Text.{text_of, lent, answer_text}

-- ---- at most two sites
zip_le : (ps ts : List ℕ) → length (zip_sites ps ts) ≤ length ts
zip_le [] ts = omega arith
zip_le (p ∷ ps) [] = omega arith
zip_le (p ∷ ps) (t ∷ ts) = omega (arith, zip_le ps ts)

two_sites : (b : Block) → length (sites b) ≤ 2
unfolding sites
two_sites b = omega (arith, zip_le (starts (block_code b) 0) (targets (block_steps b)), (sited b).two)

site_lines_le : (ss : List Site) → length (site_lines ss) ≤ 35 * length ss
unfolding site_lines
site_lines_le [] = omega arith
site_lines_le (s ∷ ss) = simp length-append (omega (arith, site_le s.at s.target, site_lines_le ss))

-- ---- 16,384 words
lent_length : length lent ≡ 16384
unfolding lent
lent_length = length-replicate {A = ℕ} 16384 0

-- ---- an answer's text
accepted_le : (n body : ℕ) (ss : List Site) (ws : List ℕ) → length (take n ws) ≤ 16384 → length ss ≤ 2
    → length (text_of (accepted n body ss) ws) ≤ 147579
unfolding text_of
accepted_le n body ss ws few two =
    simp length-append (omega (arith, counts_le n body, nine 0 (take n ws), site_lines_le ss))

told_le : (t : Told) (number place : ℕ) (ws : List ℕ) → t ≡ refused number place → length (text_of t ws) ≤ 147579
unfolding text_of
told_le t number place ws e = rw e (omega (arith, refused_le number place))

pub room : (bytes : List ℕ) → length (answer_text bytes) ≤ 147579
unfolding answer_text
room bytes = by (ends bytes lent)
  where
    by : Ends bytes lent → length (text_of (translation bytes lent) (lent_after bytes lent)) ≤ 147579
    by (faulty x) = told_le _ _ _ (lent_after bytes lent) x.answer
    by (short x) = told_le _ _ _ (lent_after bytes lent) x.answer
    by (fits x) =
        let b = (reading bytes).block in
        let n = length (block_words b) in
        let words = ap length ((translations bytes lent).accepted-words n body_offset (sites b) x.answer) in
        subst (λ t. length (text_of t (lent_after bytes lent)) ≤ 147579) (sym x.answer)
        (accepted_le n body_offset (sites b) (lent_after bytes lent) (omega (arith, words, x.enough, lent_length)) (two_sites b))
