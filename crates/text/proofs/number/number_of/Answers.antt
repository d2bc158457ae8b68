use Rattle.std.proofs.Common.{rules, arith, ◌∙◌, ap}
use Rattle.text.specs.Number.{unsigned, negated, whole}
use Rattle.text.proofs.Search.{rest_is}
use Rattle.text.proofs.Prefixes.{short, minus, hexed, decimal, opposites}
use Rattle.text.proofs.number.number_of.Goals as goal

pub returns-in-48 : goal.returns-in-48
returns-in-48 c =
    c.unsigned.ensures
    ∙ ap (λ s. unsigned 16 18446744073709551615 s) (rest_is c.args.s.now 2)
    ∙ hexed c.args.s.now (search rules) (search rules)

pub returns-in-45 : goal.returns-in-45
returns-in-45 c =
    opposites _ c.map.result (search rules) (search rules) (rw c.digits.ensures at c.map.ensures.cases)
    ∙ ap (λ s. negated (whole 10 9223372036854775808 s)) (rest_is c.args.s.now 1)
    ∙ minus c.args.s.now (search rules)

pub returns-in_default : goal.returns-in_default
returns-in_default c =
    c.unsigned-in_default.ensures
    ∙ decimal c.args.s.now (λ e. grind (arith, short c.args.s.now 0 45, e))
    (λ e f. grind (arith, short c.args.s.now 0 48, short c.args.s.now 1 120, e, f))
