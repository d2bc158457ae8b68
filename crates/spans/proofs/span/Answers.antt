use Rattle.std.proofs.Common.{ℕ, ◌*◌, ◌<◌, sym, ap, arith}
use Rattle.block.proofs.Groups.{members-count}
use Rattle.spans.proofs.span.Goals as goal

pub returns : goal.returns
returns c = let h : c.args.mask < 65536 = omega arith in ap (λ (n : ℕ). 4 * n) (sym (members-count c.args.mask h))
