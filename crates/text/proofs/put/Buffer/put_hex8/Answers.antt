use Rattle.std.proofs.Common.{◌∙◌, arith}
use Rattle.text.proofs.Eight.{eight, hex8_is}
use Rattle.text.proofs.put.Buffer.put_hex8.Goals as goal

pub returns : goal.returns
returns c =
    let d = c.hex-k in
    let e = d.ensures.digits ∙ hex8_is c.args.w d.result (eight c.args.w d.result (omega (arith, c.ranges.w)) d.ensures.len) in
    rw (← e) c.put.ensures
