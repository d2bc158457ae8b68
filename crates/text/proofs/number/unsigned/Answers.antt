use Rattle.std.proofs.Common.{rules, arith, ◌∙◌, ap}
use Rattle.text.specs.Number.{whole}
use Rattle.text.proofs.Search.{rest_is}
use Rattle.text.proofs.Prefixes.{short, plus, plain}
use Rattle.text.proofs.number.unsigned.Goals as goal

pub returns-in-43 : goal.returns-in-43
returns-in-43 c =
    c.digits.ensures
    ∙ ap (λ s. whole c.args.base c.args.limit s) (rest_is c.args.s.now 1)
    ∙ plus c.args.base c.args.limit c.args.s.now (search rules)

pub returns-in_default : goal.returns-in_default
returns-in_default c =
    c.digits-in_default.ensures
    ∙ plain c.args.base c.args.limit c.args.s.now (λ e. grind (arith, short c.args.s.now 0 43, e))
