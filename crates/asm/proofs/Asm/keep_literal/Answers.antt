-- The three ways: the literal stands already, it is a new one, there is no room.
use native.Mathlib.Omega.{arith}
use mathlib.Core.Path.{refl}
use Rattle.asm.proofs.Cases.{keep_there, keep-new, keep-full}
use Rattle.asm.proofs.Asm.keep_literal.Goals as goal

pub returns-then-i-k : goal.returns-then-i-k
returns-then-i-k c = record { code = keep_there _ _ _ _ c.at_most-k.ensures.0 c.if-i-k.true; words = refl; table = refl }

pub returns-then-k-lt-LITERALS : goal.returns-then-k-lt-LITERALS
returns-then-k-lt-LITERALS c = record { code = keep-new _ _ _ _ c.at_most-k.ensures.0 (omega arith) (omega arith); words = refl; table = refl }

pub returns-else-k-lt-LITERALS : goal.returns-else-k-lt-LITERALS
returns-else-k-lt-LITERALS c = record { code = keep-full _ _ _ _ c.at_most-k.ensures.0 (omega arith) (omega arith); words = refl; table = refl }
