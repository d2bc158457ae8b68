-- `chain::link` meets its contract. Assumes nothing.
use Prim.Native.Nat.{◌^◌}
use mathlib.Core.Path.{ap, sym, ◌∙◌}
use mir.Facts.{to_z-of_z}
use Rattle.words.specs.Signed.{reaches, twos}
use Rattle.chain.proofs.Distances.{words-held, site-unaligned, body-unaligned, in_reach, out_of_reach}
use Rattle.chain.proofs.link.Goals as goal

pub returns-then-twos-ne0 : goal.returns-then-twos-ne0
returns-then-twos-ne0 c =
    site-unaligned c.args.site c.args.body _ (c.twos.ensures.0 ∙ ap (twos 2) (to_z-of_z c.ranges.site)) c.if-twos-ne0.true

pub returns-then-twos-ne0-2 : goal.returns-then-twos-ne0-2
returns-then-twos-ne0-2 c =
    let site = sym (c.twos.ensures.0 ∙ ap (twos 2) (to_z-of_z c.ranges.site)) ∙ c.if-twos-ne0.false in
    body-unaligned c.args.site c.args.body _ site (c.twos-2.ensures.0 ∙ ap (twos 2) (to_z-of_z c.ranges.body)) c.if-twos-ne0-2.true

pub returns-then-reaches : goal.returns-then-reaches
returns-then-reaches c =
    let site = sym (c.twos.ensures.0 ∙ ap (twos 2) (to_z-of_z c.ranges.site)) ∙ c.if-twos-ne0.false in
    let body = sym (c.twos-2.ensures.0 ∙ ap (twos 2) (to_z-of_z c.ranges.body)) ∙ c.if-twos-ne0-2.false in
    let words = words-held c.args.site c.args.body c.ranges.site c.ranges.body site body in
    in_reach c.args.site c.args.body _ _ site body (sym c.if-reaches.true ∙ c.reaches.ensures ∙ ap (reaches (2 ^ 25)) words)
    c.encode.ensures (c.twos-then-reaches.ensures.0 ∙ ap (twos (2 ^ 25)) words) c.twos-then-reaches.ensures.1

pub returns : goal.returns
returns c =
    let site = sym (c.twos.ensures.0 ∙ ap (twos 2) (to_z-of_z c.ranges.site)) ∙ c.if-twos-ne0.false in
    let body = sym (c.twos-2.ensures.0 ∙ ap (twos 2) (to_z-of_z c.ranges.body)) ∙ c.if-twos-ne0-2.false in
    let words = words-held c.args.site c.args.body c.ranges.site c.ranges.body site body in
    out_of_reach c.args.site c.args.body site body (sym c.if-reaches.false ∙ c.reaches.ensures ∙ ap (reaches (2 ^ 25)) words)
