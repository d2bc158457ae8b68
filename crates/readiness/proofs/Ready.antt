-- The words of a checked block can be fetched and decoded: what `execution` asks of lines.
use mathlib.Core.Path.{◌≡◌, subst}
use mathlib.Core.Bool.{true}
use mathlib.Core.List.{List, [], ◌∷◌, map}
use Prim.Native.Nat.{ℕ, ◌+◌, ◌*◌, ◌^◌, ◌<◌, ◌≤◌}
use native.Mathlib.Omega.{arith}
use lib.ListN.{length, drop, length-append}
use Rattle.block.specs.declared.Block.{Block}
use Rattle.block.specs.Checked.{Checked}
use Rattle.code.specs.Items.{Sound}
use Rattle.code.specs.Tree.{top, Var, words, Line, plain, over, back, load, lines, nowhere, Near, Tests, instrs, find_in, whole_lines, lines_words}
use Rattle.code.proofs.Tree.{lines-length}
use Rattle.code.proofs.Reach.{near_all}
use Rattle.code.proofs.Fetch.{instr, loaded}
use Rattle.machine.specs.Encoders.{has_encoder}
use Rattle.lowering.specs.Fragments.{closing}
use Rattle.lowering.specs.Compile.{block_code, block_lines}
use Rattle.execution.proofs.Steps.{LineFits, Ready, literal_in}
use Rattle.readiness.proofs.Encodable.{closing-known, block_encodable}
use Rattle.readiness.proofs.Lines.{Each, each_append, each_at, Has, plain_known, lines-known, Reaches, plain-near, lines-near}

-- the code's length in words
code-words : (b : Block) → words (block_code b) ≤ length (block_lines b)
unfolding block_lines whole_lines
code-words b = omega (arith, length-append (lines (block_code b) nowhere 0) (map plain closing), lines-length (block_code b) nowhere 0)

-- no block around the whole code
no_block : {A : Type 0} → Var top → A
no_block = nowhere

module _ (b : Block) (checked : Checked b) (tests : Tests (block_code b) nowhere 0) (short : length (lines_words (block_lines b)) < 2 ^ 18) (longer : length (block_lines b) ≤ length (lines_words (block_lines b))) where
  near : Near (block_code b) nowhere 0
  near = near_all (block_code b) nowhere 0 tests (λ v. no_block v) (omega (arith, code-words b))

  lines_have : (find : ℕ → ℕ) → Each (Has find) 0 (block_lines b)
  unfolding block_lines whole_lines
  lines_have find =
      each_append (Has find) 0 (words (block_code b)) (lines (block_code b) nowhere 0) (map plain closing) (omega (arith, lines-length (block_code b) nowhere 0))
      (lines-known (block_code b) nowhere 0 find 0 (block_encodable b checked.addresses checked.guard)) (plain_known find (words (block_code b)) closing closing-known)

  lines-reach : Each Reaches 0 (block_lines b)
  unfolding block_lines whole_lines
  lines-reach =
      each_append Reaches 0 (words (block_code b)) (lines (block_code b) nowhere 0) (map plain closing) (omega (arith, lines-length (block_code b) nowhere 0))
      (lines-near (block_code b) nowhere 0 0 (block_encodable b checked.addresses checked.guard) near) (plain-near (words (block_code b)) closing)

  line_fits : (p : ℕ) (l : Line) (rest : List Line) → drop p (block_lines b) ≡ l ∷ rest → Reaches p l → LineFits (block_lines b) p l
  unfolding Reaches
  line_fits p (plain i) rest e h = tt
  line_fits p (over j n) rest e h = h
  line_fits p (back rd n) rest e h = h
  line_fits p (load rt v) rest e h = (h, omega (arith, (literal_in (block_lines b) v (loaded [] (block_lines b) p rt v rest e)).1))

  pub block-ready : (base : ℕ) → Sound (instrs (find_in (block_lines b)) 0 (block_lines b)) → base + 4 * length (lines_words (block_lines b)) ≤ 2 ^ 64 → Ready (block_lines b) base
  block-ready base sound ends =
      record {
        sound = sound;
        encoders = λ p l rest e. subst (λ q. has_encoder (instr (find_in (block_lines b)) q l) ≡ true) (let z : 0 + p ≡ p = omega arith in z) (each_at (Has (find_in (block_lines b))) 0 p (block_lines b) l rest (lines_have (find_in (block_lines b))) e);
        fits = λ p l rest e. line_fits p l rest e (subst (λ q. Reaches q l) (let z : 0 + p ≡ p = omega arith in z) (each_at Reaches 0 p (block_lines b) l rest lines-reach e));
        ends = ends;
      }
