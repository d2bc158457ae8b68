-- The field of each kind.
use Rattle.std.proofs.Common.{◌*◌, ap, ◌∙◌}
use Rattle.code.specs.Items.{dist}
use Rattle.finish.proofs.Signed.{as_is}
use Rattle.finish.proofs.Cases.{patch_b26, patch_b19, patch_b14, patch_adr21}
use Rattle.finish.proofs.label_patch.Goals as goal

pub returns-in-B26 : goal.returns-in-B26
returns-in-B26 c =
    let a = c in
    let d = c.distance.ensures in
    patch_b26 _ _ a.args.here _ _ (as_is _ d.1 ∙ d.0 ∙ ap (λ t. dist t a.args.here) c.label_at.ensures.0)
    c.in-B26.is c.field.ensures.0

pub returns-in-B19 : goal.returns-in-B19
returns-in-B19 c =
    let a = c in
    let d = c.distance-in-B19.ensures in
    patch_b19 _ _ a.args.here _ _ (as_is _ d.1 ∙ d.0 ∙ ap (λ t. dist t a.args.here) c.label_at-in-B19.ensures.0)
    c.in-B19.is c.field-in-B19.ensures.0

pub returns-in-B14 : goal.returns-in-B14
returns-in-B14 c =
    let a = c in
    let d = c.distance-in-B14.ensures in
    patch_b14 _ _ a.args.here _ _ (as_is _ d.1 ∙ d.0 ∙ ap (λ t. dist t a.args.here) c.label_at-in-B14.ensures.0)
    c.in-B14.is c.field-in-B14.ensures.0

pub returns-in-Adr21 : goal.returns-in-Adr21
returns-in-Adr21 c =
    let a = c in
    let d = c.distance-in-Adr21.ensures in
    patch_adr21 _ _ a.args.here _ _ (as_is _ d.1 ∙ d.0 ∙ ap (λ t. dist (4 * t) (4 * a.args.here)) c.label_at-in-Adr21.ensures.0)
    c.in-Adr21.is c.field-bytes.ensures.0
