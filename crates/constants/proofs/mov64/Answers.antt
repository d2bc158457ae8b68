-- `constants::mov64` meets its contract. Assumes nothing.
use Rattle.std.proofs.Common.{◌/◌, ◌%◌, ◌^◌, [], ◌∷◌, ◌++◌, ap₂, ◌∙◌, rules, le-ltb, lt-ltb}
use Rattle.arm.specs.declared.Size.TheVariants.{X}
use Rattle.arm.specs.declared.Move.TheVariants.{Movz}
use Rattle.arm.specs.declared.Instr.TheVariants.{MoveWide}
use Rattle.constants.specs.Constants.{quarter_of}
use Rattle.constants.proofs.Lists.{word_is, refuses, gives, quarters}
use Rattle.constants.proofs.mov64.Goals as goal

pub returns-in_err-below : goal.returns-in_err-below
returns-in_err-below c = refuses _ _ _ _ c.from_residual.ensures.1 c.in_err-below.ensures.0 (le-ltb c.args.rd 32 c.in_err-below.ensures.1)

pub returns : goal.returns
returns c = let a = c.args in
    let q1 = quarter_of a.rd 1 (a.imm / 2 ^ 16 % 65536) in
    let q2 = quarter_of a.rd 2 (a.imm / 2 ^ 32 % 65536) in
    let q3 = quarter_of a.rd 3 (a.imm / 2 ^ 48 % 65536) in
    gives _ _ _ (lt-ltb a.rd 32 c.in_ok-below.ensures)
    (c.in_order.ensures ∙ c.as_slice.ensures.value
    ∙ quarters _ _ _ _ (MoveWide X Movz 0 (a.imm % 65536) a.rd) q1 q2 q3
    (c.push.ensures.items ∙ ap₂ (λ ws w. ws ++ (w ∷ [])) c.new-words.ensures (word_is _ c.word.ensures (search rules)))
    c.push_quarter.ensures.items c.push_quarter-2.ensures.items c.push_quarter-3.ensures.items)
