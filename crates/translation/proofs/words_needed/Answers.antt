-- `words_needed` meets its contract: a fault of reading, or the number of words that is told where none are lent.
use native.Mathlib.Omega.{arith}
use Rattle.translation.proofs.WordsNeeded.{figured-refusal, figured-words}
use Rattle.translation.proofs.words_needed.Goals as goal

pub returns-in-Err : goal.returns-in-Err
returns-in-Err c =
    let f = figured-refusal c.args.bytes.now (λ i. omega (arith, c.type_inv.bytes i)) c.in-Err.refusal c.in-Err.ensures.is_reading in
    record { answer = f.0; exact = f.1.0; included = f.1.1 }

pub returns-in-Ok : goal.returns-in-Ok
returns-in-Ok c =
    let words = (c.compile-c.ensures c.in-Ok.ensures.checked).0 in
    let e = c.in-Ok.ensures.is_reading in
    let f = figured-words c.args.bytes.now (λ i. omega (arith, c.type_inv.bytes i)) c.in-Ok.block e _ _ _ words c.count.ensures in
    record { answer = f.0; exact = f.1.0; included = f.1.1 }
