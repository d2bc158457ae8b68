-- `constants::halves` meets its contract. Assumes nothing.
use Rattle.std.proofs.Common.{◌/◌, ◌%◌, arith, rules, eq-eqb, ne_eqb}
use Rattle.constants.proofs.Lists.{word_is, one_put, two_put}
use Rattle.constants.proofs.halves.Goals as goal

pub returns-then-high-eq0-clause-words : goal.returns-then-high-eq0-clause-words
returns-then-high-eq0-clause-words c = let a = c.args in
    simp (eq-eqb (a.imm / 65536) 0 (omega arith))
    (one_put c.new-words.ensures c.push.ensures.items (word_is _ c.word.ensures (search rules)))

pub returns-then-low-eq0-clause-words : goal.returns-then-low-eq0-clause-words
returns-then-low-eq0-clause-words c = let a = c.args in
    simp (ne_eqb (a.imm / 65536) 0 (omega arith), eq-eqb (a.imm % 65536) 0 (omega arith))
    (one_put c.new-words.ensures c.push-then-low-eq0.ensures.items (word_is _ c.word-then-low-eq0.ensures (search rules)))

pub returns-then-high-eq65535-clause-words : goal.returns-then-high-eq65535-clause-words
returns-then-high-eq65535-clause-words c = let a = c.args in
    simp (ne_eqb (a.imm / 65536) 0 (omega arith), ne_eqb (a.imm % 65536) 0 (omega arith), eq-eqb (a.imm / 65536) 65535 (omega arith))
    (one_put c.new-words.ensures c.push-then-high-eq65535.ensures.items (word_is _ c.word-then-high-eq65535.ensures (search rules)))

pub returns-else-high-eq65535-clause-words : goal.returns-else-high-eq65535-clause-words
returns-else-high-eq65535-clause-words c = let a = c.args in
    simp (ne_eqb (a.imm / 65536) 0 (omega arith), ne_eqb (a.imm % 65536) 0 (omega arith), ne_eqb (a.imm / 65536) 65535 (omega arith))
    (two_put c.new-words.ensures c.push-else-high-eq65535.ensures.items c.push-else-high-eq65535-2.ensures.items
    (word_is _ c.word-else-high-eq65535.ensures (search rules)) (word_is _ c.word-else-high-eq65535-2.ensures (search rules)))
