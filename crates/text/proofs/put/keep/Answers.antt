use Rattle.std.proofs.Common.{◌∙◌, refl, arith, rules}
use Rattle.text.proofs.Sets.{copied}
use Rattle.text.proofs.put.keep.Goals as goal

pub returns : goal.returns
returns c =
    let k = c.copy_from_slice.ensures in (
      c.in_ok-len.len,
      search rules,
      omega arith,
      search rules,
      copied c.copy_from_slice.new.self c.args.line.now c.in_ok-len.len _ (omega (arith, k.len)) (omega arith) ∙ rw k.after refl,
    )
