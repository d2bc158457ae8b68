-- What `translate` answers at each of its ends is the definition's.
use mathlib.Core.Path.{◌≡◌, refl, sym, ap, ap₂, ◌∙◌}
use mathlib.Core.Bool.{Bool, true, false}
use mathlib.Core.List.{List, [], ◌∷◌, map}
use Prim.Native.Nat.{ℕ}
use native.Mathlib.Omega.{arith}
use lib.Dec.{ltb}
use lib.ListN.{length}
use Rattle.std.specs.Prelude.{Result, Ok, Err}
use Rattle.block.specs.declared.Block.{Block}
use Rattle.faults.specs.declared.Fault.TheVariants.{Room}
use Rattle.faults.specs.declared.Refusal.{Refusal}
use Rattle.record.specs.Record.{reading, found}
use Rattle.record.proofs.Accepted.{Bytes}
use Rattle.code.specs.Items.{pick}
use Rattle.lowering.specs.Fragments.{opening}
use Rattle.lowering.specs.Steps.{block_steps}
use Rattle.lowering.specs.Compile.{block_code, block_words, body_offset, starts, targets, zip_sites, sites}
use Rattle.finish.specs.declared.Short.{Short}
use Rattle.finish.specs.Finish.{zeros}
use Rattle.finish.specs.Whole.{laid, told as told_by}
use Rattle.answers.specs.Translation.{accepted, block_told, told_behind, laid_behind, translation, lent_after}
use Rattle.answers.proofs.Promises.{Promised, promised}
use Rattle.lowering.specs.declared.Site.{Site}
use Rattle.emission.specs.declared.Sites.{Sites}
use Rattle.translation.specs.declared.Translation.{Translation}
use Rattle.translation.specs.Told.{listed, told}

-- ---- the contract, from its first two clauses
abbrev pub Met : (bytes lent ws : List ℕ) → Result Translation Refusal → Type 0
Met bytes lent ws r = (told r ≡ translation bytes lent) × ((ws ≡ lent_after bytes lent) × Promised bytes ws (told r))

met : (bytes lent ws : List ℕ) (r : Result Translation Refusal) → Bytes bytes → told r ≡ translation bytes lent → ws ≡ lent_after bytes lent
    → Met bytes lent ws r
met bytes lent ws r are e q = (e, (q, promised bytes lent ws (told r) are e q))

-- ---- the sites, by their positions and targets
pub zip-maps : (ss : List Site) → ss ≡ zip_sites (map (λ (s : Site). s.at) ss) (map (λ (s : Site). s.target) ss)
zip-maps [] = refl
zip-maps (s ∷ ss) = ap (λ l. s ∷ l) (zip-maps ss)

-- ---- the end of an assembly
words_only : (t : Bool) (f : Short) (m n : ℕ) → ◌≡◌ {A = Result ℕ Short} (Ok n) (pick t (Err f) (Ok m)) → (t ≡ false) × (n ≡ m)
words_only true f m n e = absurd (let z : ◌≡◌ {A = ℕ} 0 1 = cc in omega arith)
words_only false f m n e = (refl, cc)

few_only : (t : Bool) (f g : Short) (m : ℕ) → ◌≡◌ {A = Result ℕ Short} (Err g) (pick t (Err f) (Ok m)) → t ≡ true
few_only true f g m e = refl
few_only false f g m e = absurd (let z : ◌≡◌ {A = ℕ} 0 1 = cc in omega arith)

body_is : 52 ≡ body_offset
unfolding body_offset opening
body_is = refl

module _ (bytes lent ws : List ℕ) (are : Bytes bytes) where
  -- a fault of reading
  pub met_fault : (r : Refusal) → found (Err r) ≡ reading bytes → ws ≡ zeros lent → Met bytes lent ws (Err r)
  unfolding translation lent_after told_behind laid_behind
  met_fault r read q = met bytes lent ws (Err r) are (rw (← read)) (rw (← read) q)

  module _ (b : Block) (read : found (Ok b) ≡ reading bytes) (fin : Result ℕ Short) (fin-is : fin ≡ told_by (block_words b) lent)
      (q : ws ≡ laid (block_words b) lent) where
    words_are : ws ≡ lent_after bytes lent
    unfolding lent_after laid_behind
    words_are = rw (← read) q

    -- too few words
    pub met_short : (n : Short) → fin ≡ Err n
        → Met bytes lent ws (Err (record { fault = Room; place = length bytes }))
    unfolding translation told_behind block_told told_by
    met_short n g =
        let m = length (block_words b) in
        let t : ltb (length lent) m ≡ true = few_only (ltb (length lent) m) _ n m (sym g ∙ fin-is) in
        met bytes lent ws (Err (record { fault = Room; place = length bytes })) are (rw (← read, t)) words_are

    -- a block in the lent room
    pub met_translation : (n : ℕ) (x : Translation) → fin ≡ Ok n → x.words ≡ n → x.body ≡ body_offset
        → listed x.sites ≡ zip_sites (starts (block_code b) 0) (targets (block_steps b)) → Met bytes lent ws (Ok x)
    unfolding translation told_behind block_told told_by sites
    met_translation n x g k o h =
        let m = length (block_words b) in
        let t = words_only (ltb (length lent) m) _ m n (sym g ∙ fin-is) in
        let a = ap₂ (λ i l. accepted i x.body l) (k ∙ t.1) h ∙ ap (λ j. accepted m j (sites b)) o in
        met bytes lent ws (Ok x) are (rw (← read, t.0) a) words_are

    -- the same of an answer that is written out
    pub met_words : (n : ℕ) (ss : Sites) → fin ≡ Ok n
        → listed ss ≡ zip_sites (starts (block_code b) 0) (targets (block_steps b))
        → Met bytes lent ws (Ok (record { words = n; body = 52; sites = ss }))
    met_words n ss g h = met_translation n (record { words = n; body = 52; sites = ss }) g refl body_is h
