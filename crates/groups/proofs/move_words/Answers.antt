use native.Mathlib.Omega.{arith}
use Rattle.lower.proofs.Loop.{all_left, none_left, same_left, less_left}
use Rattle.groups.proofs.Members.{all_words, no_words, a_word, not_here}
use Rattle.groups.proofs.move_words.Goals as goal
use Rattle.groups.proofs.move_words.Goals.{then-mask-r-eq1, else-mask-r-eq1}

pub loop-r-init : goal.loop-r-init
loop-r-init c = record { left = all_left _ _ _ (all_words _ _ _); few = omega arith }

pub loop-r-preserved : goal.loop-r-preserved
loop-r-preserved c =
    let l = c.loop-r in
    elim c.if-mask-r-eq1.branch [
      | then-mask-r-eq1 w ↦
          rw (w.asm-is, w.g-is, w.k-is)
          (record {
            left = less_left _ _ _ _ _ (a_word _ _ _ _ _ c.loop-r-test.true w.if-mask-r-eq1.true) l.invariant.left w.move_word.ensures;
            few = omega (arith, l.invariant.few);
          })
      | else-mask-r-eq1 w ↦
          rw (w.asm-is, w.g-is, w.k-is)
          (record {
            left = same_left _ _ _ _ _ (not_here _ _ _ _ _ c.loop-r-test.true w.if-mask-r-eq1.false) l.invariant.left;
            few = omega (arith, l.invariant.few);
          })
    ]

pub returns : goal.returns
returns c = none_left _ _ _ (no_words _ _ _ _ _ c.loop-r-test.false) c.loop-r.invariant.left
