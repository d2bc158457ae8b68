-- `constants::gen_add_imm` meets its contract. Assumes nothing.
use Rattle.std.proofs.Common.{ap, ◌∙◌, arith, rules, le-ltb, lt-ltb, eq-eqb, ne_eqb}
use Rattle.constants.proofs.Lists.{word_is, refuses, gives, one, two_fit}
use Rattle.constants.proofs.gen_add_imm.Goals as goal

pub returns-in_err-below : goal.returns-in_err-below
returns-in_err-below c = let a = c.args in
    refuses _ _ _ _ c.from_residual.ensures.1 c.in_err-below.ensures.0 (simp (le-ltb a.dst 32 c.in_err-below.ensures.1))

pub returns-in_err-below-2 : goal.returns-in_err-below-2
returns-in_err-below-2 c = let a = c.args in
    let dst = lt-ltb a.dst 32 c.in_ok-below.ensures in
    let src = le-ltb a.src 32 c.in_err-below-2.ensures.1 in
    refuses _ _ _ _ c.from_residual-in_err-below-2.ensures.1 c.in_err-below-2.ensures.0 (simp (dst, src))

pub returns-then-dst-src : goal.returns-then-dst-src
returns-then-dst-src c = let a = c.args in
    gives _ _ _ (two_fit c.in_ok-below.ensures c.in_ok-below-2.ensures)
    (simp (eq-eqb a.imm 0 (omega arith), eq-eqb a.dst a.src (omega arith)) c.in_order.ensures)

pub returns-then-imm-eq0 : goal.returns-then-imm-eq0
returns-then-imm-eq0 c = let a = c.args in
    gives _ _ _ (two_fit c.in_ok-below.ensures c.in_ok-below-2.ensures)
    (let w = word_is _ c.word.ensures (search rules) in
    simp (eq-eqb a.imm 0 (omega arith), ne_eqb a.dst a.src (omega arith)) (c.in_order-then-imm-eq0.ensures ∙ ap one w))
