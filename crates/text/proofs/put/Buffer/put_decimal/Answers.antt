use Rattle.std.proofs.Common.{◌∙◌, arith}
use Rattle.text.proofs.Decimal.{decimal_is}
use Rattle.text.proofs.Placed.{puts}
use Rattle.text.proofs.put.Buffer.put_decimal.Goals as goal

pub returns : goal.returns
returns c =
    let d = c.decimal-k in
    let e = d.ensures.digits ∙ decimal_is c.args.n d.result (omega (arith, c.ranges.n)) d.ensures.len in
    rw (← e) (puts _ _ _ c.put.ensures)
