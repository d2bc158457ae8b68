-- What the listing's functions put is the text of the answer.
use mathlib.Core.Path.{◌≡◌, sym, ap, ap₂, subst, ◌∙◌}
use mathlib.Core.List.{List, ◌++◌}
use Prim.Native.Nat.{ℕ, min}
use lib.ListN.{length, take, length-take}
use Rattle.std.specs.Prelude.{Result, Ok, Err}
use Rattle.text.specs.declared.put.Buffer.{Buffer}
use Rattle.text.specs.Put.{rows}
use Rattle.text.specs.Buffer.{Puts}
use Rattle.listing.specs.Listing.{counts, site_lines, accepted as accepted_text, refused as refused_text}
use Rattle.faults.specs.declared.Refusal.{Refusal}
use Rattle.faults.specs.Faults.{fault_number}
use Rattle.lowering.specs.declared.Site.{Site}
use Rattle.answers.specs.Translation.{accepted, translation, lent_after}
use Rattle.answers.specs.Claims.{words_of}
use Rattle.answers.proofs.Promises.{translations}
use Rattle.translation.specs.declared.Translation.{Translation}
use Rattle.translation.specs.Told.{listed, told}
use Rattle.blockwords.specs.Text.{text_of}

-- an accepted answer tells as many words as are lent
all_there : (bytes lent : List ℕ) (n body : ℕ) (ss : List Site) → translation bytes lent ≡ accepted n body ss
    → length (take n (lent_after bytes lent)) ≡ n
all_there bytes lent n body ss e =
    let t = translations bytes lent in
    let fits = t.accepted_only_if n body ss e in
    let is = t.accepted_if fits.0 fits.1 in
    let count : n ≡ length (words_of bytes) = cc in
    ap length (t.accepted-words n body ss e) ∙ sym count

listing_is : (n k body : ℕ) (ws : List ℕ) (ss : List Site) → length (take n ws) ≡ n → k ≡ min n (length ws)
    → accepted_text (take k ws) body ss ≡ text_of (accepted n body ss) ws
unfolding accepted_text text_of
listing_is n k body ws ss all k-is =
    let k-n : k ≡ n = k-is ∙ sym (length-take n ws) ∙ all in
    ap (λ j. counts (length (take j ws)) body ++ (rows 0 (take j ws) ++ site_lines ss)) k-n
    ∙ ap (λ m. counts m body ++ (rows 0 (take n ws) ++ site_lines ss)) all

module _
    (bytes lent ws : List ℕ) (a b : Buffer) (t : Result Translation Refusal)
    (is : told t ≡ translation bytes lent) (are : ws ≡ lent_after bytes lent)
  where
    pub refused-puts : (r : Refusal) → t ≡ Err r → Puts (refused_text (fault_number r.fault) r.place) a b
        → Puts (text_of (translation bytes lent) (lent_after bytes lent)) a b
    unfolding text_of
    refused-puts r e p = subst (λ x. Puts (text_of x (lent_after bytes lent)) a b) (sym (ap told e) ∙ is) p

    module _ (x : Translation) (e : t ≡ Ok x) where
      answer : accepted x.words x.body (listed x.sites) ≡ translation bytes lent
      answer = sym (ap told e) ∙ is

      all : length (take x.words ws) ≡ x.words
      all =
          ap (λ l. length (take x.words l)) are
          ∙ all_there bytes lent x.words x.body (listed x.sites) (sym answer)

      pub accepted-puts : (k : ℕ) → k ≡ min x.words (length ws) → Puts (accepted_text (take k ws) x.body (listed x.sites)) a b
          → Puts (text_of (translation bytes lent) (lent_after bytes lent)) a b
      accepted-puts k k-is p =
          subst (λ l. Puts l a b) (listing_is x.words k x.body ws (listed x.sites) all k-is ∙ ap₂ text_of answer are) p
