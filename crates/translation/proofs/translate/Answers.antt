-- `translate` meets its contract: at each of its three ends the answer and the lent words are the definition's.
use mathlib.Core.Path.{ap₂, ◌∙◌}
use native.Mathlib.Omega.{arith}
use Rattle.lowering.specs.Compile.{zip_sites}
use Rattle.translation.specs.Told.{listed}
use Rattle.translation.proofs.Answers.{met_fault, met_short, met_translation, zip-maps}
use Rattle.translation.proofs.translate.Goals as goal

pub returns-in-Err : goal.returns-in-Err
returns-in-Err c =
    let e = c.in-Err.ensures.is_reading in
    let m = met_fault c.args.bytes.now _ _ (λ i. omega (arith, c.type_inv.bytes i)) c.in-Err.refusal e c.zero.ensures in
    record { answer = m.0; words_after = m.1.0; sited = m.1.1.0; runs = m.1.1.1.0; meant = m.1.1.1.1 }

pub returns-in-Ok-finished : goal.returns-in-Ok-finished
returns-in-Ok-finished c =
    let k = c.compile-c.ensures c.in-Ok.ensures.checked in
    let a = c.accepted.ensures in
    let m =
    met_translation c.args.bytes.now _ _ (λ i. omega (arith, c.type_inv.bytes i)) c.in-Ok.block c.in-Ok.ensures.is_reading _
    k.0 k.1 _ _ c.in-Ok-finished.is a.words a.body (a.sites ∙ zip-maps (listed c.compile-c.result.sites) ∙ ap₂ zip_sites k.2 k.3) in
    record { answer = m.0; words_after = m.1.0; sited = m.1.1.0; runs = m.1.1.1.0; meant = m.1.1.1.1 }

pub returns-in-Err-finished : goal.returns-in-Err-finished
returns-in-Err-finished c =
    let k = c.compile-c.ensures c.in-Ok.ensures.checked in
    let m =
    met_short c.args.bytes.now _ _ (λ i. omega (arith, c.type_inv.bytes i)) c.in-Ok.block c.in-Ok.ensures.is_reading _
    k.0 k.1 _ c.in-Err-finished.is in
    record { answer = m.0; words_after = m.1.0; sited = m.1.1.0; runs = m.1.1.1.0; meant = m.1.1.1.1 }
