-- THE CODE OF EVERY CHECKED BLOCK fits the tables, its words carry their instructions, and its jumps reach.
use mathlib.Core.Path.{◌≡◌, refl, sym, ap, ap₂, subst, ◌∙◌}
use mathlib.Core.List.{List, [], ◌∷◌, ◌++◌, map}
use Prim.Native.Nat.{ℕ, ◌+◌, ◌*◌, ◌<◌, ◌≤◌}
use native.Mathlib.Omega.{arith}
use lib.ListN.{length, take, length-map}
use lib.Seq.{take-append_seam}
use Rattle.arm.specs.declared.Instr.{Instr}
use Rattle.arm.specs.Instr.{encode}
use Rattle.arm.specs.Decode.{decode, valid}
use Rattle.arm.proofs.Claims.{instruction-set}
use Rattle.block.specs.declared.Block.{Block}
use Rattle.block.specs.Checked.{Checked}
use Rattle.code.specs.Items.{Sound, listing, pad_of, halves, size}
use Rattle.code.specs.Tree.{top, Code, words, labels, jumps, pool_in, Tests, Fine}
use Rattle.code.proofs.Tree.{whole-once, whole_met, whole-size, whole-pool, whole_length, listing-instrs, listing-lines}
use Rattle.code.proofs.Reach.{whole-reach, whole-sound}
use Rattle.lowering.specs.Cache.{empty_cache}
use Rattle.lowering.specs.Steps.{block_steps}
use Rattle.lowering.specs.Fragments.{steps_code, opening, closing}
use Rattle.lowering.specs.Compile.{block_code, block_lines, block_words}
use Rattle.bounds.specs.Whole.{Tables, Carries, items_of, meant, block_pool, Emitted}
use Rattle.bounds.proofs.Fine.{empty-fits}
use Rattle.bounds.proofs.Fragments.{steps-fine, opening-sound, closing-sound}
use Rattle.bounds.proofs.Cost.{Measure, total}
use Rattle.bounds.proofs.Short.{CostsAtMost, steps-short}
use Rattle.bounds.proofs.Count.{block-few, block-fits}
use Rattle.bounds.proofs.Pool.{five}

-- words are decoded to the instructions that they carry
all_decoded : (is : List Instr) → Sound is → map decode (map encode is) ≡ map valid is
unfolding Sound
all_decoded [] h = refl
all_decoded (i ∷ is) h = ap₂ (λ d ds. d ∷ ds) (instruction-set.decode-encode i h.0) (all_decoded is h.1)

first_decoded : (is : List Instr) (ws behind : List ℕ) → Sound is → ws ≡ map encode is ++ behind
    → map decode (take (length is) ws) ≡ map valid is
first_decoded is ws behind h e =
    ap (λ l. map decode (take (length is) l)) e
    ∙ ap (λ n. map decode (take n (map encode is ++ behind))) (sym (length-map is encode))
    ∙ ap (map decode) (take-append_seam (map encode is) behind)
    ∙ all_decoded is h

module _ (blk : Block) (ck : Checked blk) where
  steps : CostsAtMost (total (block_steps blk)) (steps_code blk empty_cache (block_steps blk))
  steps = steps-short blk empty_cache (block_steps blk)

  code-words : words (block_code blk) ≤ 28148
  unfolding block_code words opening
  code-words = omega (arith, steps.words_le, (block-few blk ck).le Measure.words)

  lines_are : length (block_lines blk) ≡ words (block_code blk) + 7
  unfolding block_lines closing
  lines_are = sym (whole_length (block_code blk) closing) ∙ whole-size (block_code blk) closing

  closing-words : length closing ≡ 7
  unfolding closing
  closing-words = refl

  pool_le : length (pool_in [] (block_lines blk)) ≤ 5
  unfolding block_lines block_code
  pool_le = five blk ck opening closing

  pub tables : Tables blk
  unfolding block_code labels jumps
  tables =
      record {
        words = omega (arith, code-words, lines_are);
        labels = omega (arith, steps.labels_le, (block-few blk ck).le Measure.labels);
        jumps = omega (arith, steps.jumps_le, (block-few blk ck).le Measure.jumps);
        literals = pool_le;
      }

  pub carries : Carries blk
  unfolding block_code Fine Tests
  carries =
      record {
        fine = (opening-sound, steps-fine blk ck empty_cache (block_steps blk) empty-fits (block-fits blk ck));
        sound = closing-sound;
        tests = (tt, steps.tests _ _);
        short = omega (arith, code-words, lines_are, pool_le);
      }

  pub emitted : Emitted (block_words blk) blk
  unfolding block_words block_lines listing
  emitted =
      let c : Code top = block_code blk in
      let h = carries in
      let sound : Sound (meant blk) =
      subst Sound (sym (listing-instrs c closing)) (whole-sound c closing h.fine h.sound h.tests h.short) in
      let behind : List ℕ = pad_of (size (items_of blk)) (block_pool blk) ++ halves (block_pool blk) in
      let are : block_words blk ≡ map encode (meant blk) ++ behind = sym (listing-lines c closing) in
      let near : words c + length closing + 1 + 2 * length (block_pool blk) < 262144 =
      rw (whole-pool c closing) (omega (arith, code-words, closing-words, pool_le)) in
      record {
        bound-once = whole-once c closing;
        bound = whole_met c closing;
        reach = whole-reach c closing h.tests near;
        carried = sound;
        words = are;
        decoded = first_decoded (meant blk) (block_words blk) behind sound are;
      }
