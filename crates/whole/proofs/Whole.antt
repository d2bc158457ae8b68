-- AN EMITTED BLOCK is the block's words in the lent room, and its sites are the block's.
use mathlib.Core.Path.{◌≡◌, refl, ap, ◌∙◌}
use mathlib.Core.List.{List}
use Prim.Native.Nat.{ℕ}
use native.Mathlib.Omega.{arith}
use lib.ListN.{length}
use Rattle.block.specs.declared.Block.{Block}
use Rattle.block.specs.Checked.{Checked}
use Rattle.code.specs.Items.{new, bind}
use Rattle.code.specs.Tree.{top, code, Fine, nowhere, whole_items}
use Rattle.code.specs.Calls.{calls}
use Rattle.code.specs.Walk.{walked_words}
use Rattle.code.proofs.Tree.{whole-size, whole_length}
use Rattle.code.proofs.Walk.{walked_all}
use Rattle.lowering.specs.Fragments.{closing}
use Rattle.lowering.specs.Compile.{block_code, block_lines, block_words, starts}
use Rattle.asm.specs.State.{fixup_room, table_room, State, parts, begin, put, made, run}
use Rattle.asm.proofs.Laws.{whole_run}
use Rattle.emission.specs.Total.{emitted, after_t, starts_t}
use Rattle.emission.proofs.Carried.{fine-run}
use Rattle.emission.proofs.Position.{starts_are}
use Rattle.finish.specs.Finish.{finished, finished_words}
use Rattle.finish.specs.Whole.{laid, told, Held}
use Rattle.finish.proofs.Join.{patches-jumps, finished-block}
use Rattle.bounds.specs.Whole.{Tables, Carries}
use Rattle.bounds.proofs.Whole.{tables, carries}

module _ (blk : Block) (ck : Checked blk) where
  held : Held (block_code blk) closing
  unfolding block_lines
  held =
      let t : Tables blk = tables blk ck in
      let k : Carries blk = carries blk ck in
      record {
        labels = omega (arith, t.labels);
        jumps = omega (arith, t.jumps);
        literals = omega (arith, t.literals);
        fine = k.fine;
        sound = k.sound;
        tests = k.tests;
        short = k.short;
      }

  -- A WALK OF AS MANY PATCHES AS THE TABLE HOLDS is the whole walk
  pub whole-walk : walked_words fixup_room (block_lines blk) ≡ block_words blk
  unfolding block_words block_lines
  whole-walk = walked_all (block_lines blk) fixup_room (omega (arith, patches-jumps (block_code blk) closing, held.jumps))

  module _ (lent tab : List ℕ) (s₁ : State) (p : s₁ ≡ put new (parts lent tab begin)) where
    module _ (full : length tab ≡ table_room) (s₂ s₃ s₄ : State) (q : s₂ ≡ after_t (block_code blk) nowhere 0 s₁) (r : s₃ ≡ put (bind 0) s₂) (t : s₄ ≡ emitted closing s₃) where
      items-run : s₄ ≡ run (whole_items (block_code blk) closing) (parts lent tab begin)
      unfolding Fine calls emitted after_t
      items-run =
          whole_run (block_code blk) closing (parts lent tab begin) s₁ s₂ s₃ s₄ refl (omega (arith, (tables blk ck).labels)) p
          (q ∙ fine-run (block_code blk) nowhere 0 s₁.asm.labels s₁ held.fine) r
          (t ∙ fine-run {n = top} (code closing) nowhere 0 0 s₃ held.sound)

      -- THE LENT WORDS behind so many patches, and the answer
      pub whole-walked : (n : ℕ) → finished_words n s₄ ≡ laid (walked_words n (block_lines blk)) lent
      unfolding block_lines
      whole-walked n = ap (finished_words n) items-run ∙ (finished-block tab full (block_code blk) closing held lent).0 n

      pub whole-told : finished s₄ ≡ told (block_words blk) lent
      unfolding block_words block_lines
      whole-told = ap finished items-run ∙ (finished-block tab full (block_code blk) closing held lent).1

    -- THE SITES
    pub whole-starts : starts_t (block_code blk) nowhere 0 s₁ ≡ starts (block_code blk) 0
    unfolding put made block_lines
    whole-starts =
        let zero : s₁.asm.at ≡ 0 = ap (λ (s : State). s.asm.at) p in
        starts_are (block_code blk) nowhere 0 s₁ (omega (arith, zero, whole-size (block_code blk) closing, whole_length (block_code blk) closing, (tables blk ck).words)) ∙ ap (starts (block_code blk)) zero
