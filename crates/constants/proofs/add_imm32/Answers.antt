-- `constants::add_imm32` meets its contract. Assumes nothing.
use Rattle.std.proofs.Common.{◌-◌, ◌^◌, [], ◌∷◌, ◌++◌, ap, ap₂, sym, ◌∙◌, arith, rules, le-ltb, lt-ltb}
use Rattle.constants.specs.Constants.{mov32_of}
use Rattle.constants.proofs.Lists.{word_is, refuses, gives, words_append, one, three_fit}
use Rattle.constants.proofs.add_imm32.Goals as goal

pub returns-in_err-below : goal.returns-in_err-below
returns-in_err-below c = let a = c.args in
    refuses _ _ _ _ c.from_residual.ensures.1 c.in_err-below.ensures.0 (simp (le-ltb a.rd 32 c.in_err-below.ensures.1))

pub returns-in_err-below-2 : goal.returns-in_err-below-2
returns-in_err-below-2 c = let a = c.args in
    let rd = lt-ltb a.rd 32 c.in_ok-below.ensures in
    let rn = le-ltb a.rn 32 c.in_err-below-2.ensures.1 in
    refuses _ _ _ _ c.from_residual-in_err-below-2.ensures.1 c.in_err-below-2.ensures.0 (simp (rd, rn))

pub returns-in_err-below-3 : goal.returns-in_err-below-3
returns-in_err-below-3 c = let a = c.args in
    let rd = lt-ltb a.rd 32 c.in_ok-below.ensures in
    let rn = lt-ltb a.rn 32 c.in_ok-below-2.ensures in
    let scratch = le-ltb a.scratch 32 c.in_err-below-3.ensures.1 in
    refuses _ _ _ _ c.from_residual-in_err-below-3.ensures.1 c.in_err-below-3.ensures.0 (simp (rd, rn, scratch))

pub returns-then-imm-lt4096 : goal.returns-then-imm-lt4096
returns-then-imm-lt4096 c = let a = c.args in
    gives _ _ _ (three_fit c.in_ok-below.ensures c.in_ok-below-2.ensures c.in_ok-below-3.ensures)
    (simp (lt-ltb a.imm 4096 (omega arith)) (c.in_order.ensures ∙ ap one (word_is _ c.word.ensures (search rules))))

pub returns-then-negative-lt4096 : goal.returns-then-negative-lt4096
returns-then-negative-lt4096 c = let a = c.args in
    let n = c.wrapping_sub_u32-negative.ensures in
    gives _ _ _ (three_fit c.in_ok-below.ensures c.in_ok-below-2.ensures c.in_ok-below-3.ensures)
    (simp (le-ltb a.imm 4096 (omega arith), lt-ltb (2 ^ 32 - a.imm) 4096 (omega (arith, n)))
    (c.in_order-then-negative-lt4096.ensures ∙ ap one (word_is _ c.word-then-negative-lt4096.ensures (search rules) ∙ omega (arith, n))))

pub returns : goal.returns
returns c = let a = c.args in
    let n = c.wrapping_sub_u32-negative.ensures in
    gives _ _ _ (three_fit c.in_ok-below.ensures c.in_ok-below-2.ensures c.in_ok-below-3.ensures)
    (simp (le-ltb a.imm 4096 (omega arith), le-ltb (2 ^ 32 - a.imm) 4096 (omega (arith, n)))
    (c.in_order-2.ensures ∙ c.as_slice.ensures.value ∙ c.push.ensures.items
    ∙ ap₂ (λ ws w. ws ++ (w ∷ []))
    c.halves-words.ensures.words
    (word_is _ c.word-add.ensures (search rules))
    ∙ sym (words_append (mov32_of a.scratch a.imm) (_ ∷ []))))
