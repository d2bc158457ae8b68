-- `fop`: which instruction a number calls.
use Rattle.std.specs.Prelude.{ℕ, eqb, Result, Err}
use Rattle.arm.specs.declared.Float.TheVariants.{Fmul, Fdiv, Fadd, Fsub, Fmaxnm, Fminnm}
use Rattle.arm.specs.declared.Instr.TheVariants.{FloatTwo}
use Rattle.words.specs.declared.EncodeError.{EncodeError}
use Rattle.words.specs.declared.EncodeError.TheVariants.{Operand}
use Rattle.words.specs.Answers.{answer, pick}

-- `fop`'s first number is one of the six of `emit_op`
unfoldable pub fop_of : ℕ → ℕ → ℕ → ℕ → Result ℕ EncodeError
fop_of opc sd sn sm =
    pick (eqb opc 0x1e202800) (answer (FloatTwo Fadd sm sn sd))
    (pick (eqb opc 0x1e203800) (answer (FloatTwo Fsub sm sn sd))
    (pick (eqb opc 0x1e200800) (answer (FloatTwo Fmul sm sn sd))
    (pick (eqb opc 0x1e201800) (answer (FloatTwo Fdiv sm sn sd))
    (pick (eqb opc 0x1e207800) (answer (FloatTwo Fminnm sm sn sd))
    (pick (eqb opc 0x1e206800) (answer (FloatTwo Fmaxnm sm sn sd)) (Err Operand))))))
