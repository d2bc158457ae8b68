-- A block, emitted piece by piece.
use mathlib.Core.Path.{◌≡◌, refl, sym, ap, ap₂, subst, ◌∙◌}
use mathlib.Core.List.{List, [], ◌∷◌}
use Prim.Native.Nat.{ℕ, ◌≤◌}
use lib.ListN.{length}
use lib.Seq.{take_all}
use Rattle.block.specs.declared.Block.{Block}
use Rattle.block.specs.Block.{ops_of}
use Rattle.block.specs.Checked.{Checked}
use Rattle.code.specs.Items.{new, bind}
use Rattle.code.specs.Tree.{top, Code, code, nowhere}
use Rattle.code.specs.Walk.{walked_words, OneWalk}
use Rattle.code.proofs.Walk.{walked-length, one_walk}
use Rattle.lowering.specs.Cache.{empty_cache}
use Rattle.lowering.specs.Fragments.{steps_code, opening, closing}
use Rattle.lowering.specs.Steps.{Step, ops_steps, guard_steps, block_steps}
use Rattle.lowering.specs.Compile.{block_code, block_lines, block_words, starts, targets}
use Rattle.lowering.specs.Given.{given}
use Rattle.asm.specs.declared.Asm.{Asm}
use Rattle.asm.specs.declared.Counts.{Counts}
use Rattle.asm.specs.declared.Label.{Label}
use Rattle.asm.specs.State.{fixup_room, table_room, parts, state, begin, label_of, put, Wrote}
use Rattle.asm.proofs.Wrote.{wrote-then, wrote-as}
use Rattle.emission.specs.declared.Gen.{Gen}
use Rattle.emission.specs.declared.Sites.{Sites}
use Rattle.emission.specs.Gen.{given_of}
use Rattle.emission.specs.Total.{emitted, after_t, starts_t}
use Rattle.emission.proofs.After.{code-after, then-after, then-starts}
use Rattle.stepping.proofs.Steps.{given-steps}
use Rattle.bounds.proofs.Sites.{sited}
use Rattle.finish.specs.Finish.{finished, finished_words}
use Rattle.finish.specs.Whole.{laid, told}
use Rattle.finish.proofs.Join.{laid-fits}
use Rattle.whole.proofs.Whole.{whole-walk, whole-walked, whole-told, whole-starts}
use Rattle.stepping.specs.Done.{kept}
use Rattle.lower.specs.Lowers.{ats_of, targets_of, Lowers, Leaves}
use Rattle.lower.proofs.Laws.{then_lowers, lowers-leaves}
use Rattle.compile.specs.Emitted.{first, Emits}

kept-few : (xs : List ℕ) → length xs ≤ 2 → kept [] xs ≡ xs
unfolding kept
kept-few [] h = refl
kept-few (x ∷ xs) h = take_all 2 (x ∷ xs) h

-- ---- `emit`
-- nothing is held, no site
pub record Begun (blk : Block) (q : Gen) : Type 0 where
  pub given : given_of q ≡ given blk.layout blk.memory blk.addresses
  pub cache : q.rc ≡ empty_cache
  pub ats : ats_of q.sites ≡ []
  pub targets : targets_of q.sites ≡ []

module _ (blk : Block) (a a₁ a₂ a₃ a₄ a₅ : Asm) (q o p r : Gen) (z : a.counts ≡ begin) (begun : Begun blk q)
    (made : Wrote a (put new (state a)) a₁) (opened : Wrote a₁ (emitted opening (state a₁)) a₂)
    (limited : Lowers (Step.limit blk.pc0 blk.n ∷ []) a₂ q a₃ o) (guarded : Lowers (guard_steps blk) a₃ o a₄ p)
    (done : Lowers (ops_steps 0 blk.pc0 (ops_of blk)) a₄ p a₅ r) where
  abbrev body : Code top
  body = steps_code blk empty_cache (block_steps blk)

  whole : Leaves (block_steps blk) a₂ q a₅ r
  unfolding block_steps
  whole = lowers-leaves (block_steps blk) a₂ a₅ q r (then_lowers limited (then_lowers guarded done))

  -- the code of the fields is the block's
  code_is : steps_code (given_of q) q.rc (block_steps blk) ≡ body
  code_is =
      ap₂ (λ b c. steps_code b c (block_steps blk)) begun.given begun.cache
      ∙ sym (given-steps blk empty_cache (block_steps blk))

  opening_is : state a₂ ≡ after_t (code opening) nowhere 0 (first a)
  opening_is = code-after nowhere 0 opening (first a) (state a₂) (opened.code ∙ ap (emitted opening) made.code)

  body_is : state a₅ ≡ after_t (block_code blk) nowhere 0 (first a)
  unfolding block_code
  body_is =
      then-after nowhere 0 (code opening) body (first a) (state a₂) (state a₅) opening_is
      (whole.wrote.code ∙ ap (λ c. after_t c nowhere 0 (state a₂)) code_is)

  starts_is : starts_t (steps_code (given_of q) q.rc (block_steps blk)) nowhere 0 (state a₂) ≡ starts_t (block_code blk) nowhere 0 (first a)
  unfolding block_code starts_t
  starts_is =
      ap (λ c. starts_t c nowhere 0 (state a₂)) code_is
      ∙ sym (then-starts nowhere 0 (code opening) body (first a) (state a₂) opening_is)

  pub emits : {a₆ a₇ : Asm} (l : Label) → l ≡ label_of a.counts.labels → Wrote a₅ (put (bind l.0) (state a₅)) a₆ → Wrote a₆ (emitted closing (state a₆)) a₇
      → Emits blk a a₇ r.sites
  emits l exit bound closed =
      let zero : l.0 ≡ 0 = ap (λ (x : Label). x.0) exit ∙ ap (λ (c : Counts). c.labels) z in
      record {
        wrote =
            wrote-as (wrote-then made (wrote-then opened (wrote-then whole.wrote (wrote-then bound closed))))
            (ap (emitted closing) (bound.code ∙ ap₂ (λ n s. put (bind n) s) zero body_is));
        ats = whole.ats ∙ ap₂ kept begun.ats starts_is;
        targets = whole.targets ∙ ap (λ l. kept l (targets (block_steps blk))) begun.targets;
      }

-- ---- `assemble`
module _ (blk : Block) (ck : Checked blk) {a b : Asm} (z : a.counts ≡ begin) (full : length a.table.now ≡ table_room)
    (sites : Sites) (h : Emits blk a b sites) where
  first_is : first a ≡ put new (parts a.words.now a.table.now begin)
  first_is = ap (λ c. put new (parts a.words.now a.table.now c)) z

  pub walked_are : (n : ℕ) → finished_words n (state b) ≡ laid (walked_words n (block_lines blk)) a.words.now
  walked_are n = whole-walked blk ck a.words.now a.table.now (first a) first_is full _ _ (state b) refl refl h.wrote.code n

  pub told_is : finished (state b) ≡ told (block_words blk) a.words.now
  told_is = whole-told blk ck a.words.now a.table.now (first a) first_is full _ _ (state b) refl refl h.wrote.code

  pub ats_are : ats_of sites ≡ starts (block_code blk) 0
  ats_are =
      let all = whole-starts blk ck a.words.now a.table.now (first a) first_is in
      let two = kept-few (starts (block_code blk) 0) (rw (sited blk).all (sited blk).two) in
      h.ats ∙ ap (kept []) all ∙ two

  pub targets_are : targets_of sites ≡ targets (block_steps blk)
  targets_are = h.targets ∙ kept-few (targets (block_steps blk)) (sited blk).two

-- ---- the walk, where it stops and where it ends
pub one_walk_is : (blk : Block) (n : ℕ) (lent ws : List ℕ) → ws ≡ laid (walked_words n (block_lines blk)) lent
    → length (block_words blk) ≤ length lent → OneWalk (block_lines blk) n lent ws
unfolding block_words
one_walk_is blk n lent ws e l =
    let m : length (walked_words n (block_lines blk)) ≤ length lent = rw (walked-length (block_lines blk) n) l in
    subst (OneWalk (block_lines blk) n lent) (sym (e ∙ laid-fits (walked_words n (block_lines blk)) lent m)) (one_walk (block_lines blk) lent l n)

pub whole_laid : (blk : Block) (ck : Checked blk) (lent : List ℕ)
    → laid (walked_words fixup_room (block_lines blk)) lent ≡ laid (block_words blk) lent
whole_laid blk ck lent = ap (λ ws. laid ws lent) (whole-walk blk ck)
