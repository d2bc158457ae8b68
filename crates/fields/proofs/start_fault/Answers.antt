-- `start_fault` meets its contract: by where the start is, and whether tag 06 is next.
use mathlib.Core.Path.{sym, ◌∙◌}
use borrow.Author.Tests.{ne_eqb}
use Rattle.fields.specs.Fields.{start_fault}
use Rattle.fields.proofs.start_fault.Goals as goal

pub returns-then-next : goal.returns-then-next
unfolding start_fault
returns-then-next c =
    let e = sym c.in_flash.ensures ∙ c.if-in_flash.true in
    rw (e, ← c.byte-next.ensures, c.if-next.true)

pub returns-then-in_flash : goal.returns-then-in_flash
unfolding start_fault
returns-then-in_flash c =
    let e = sym c.in_flash.ensures ∙ c.if-in_flash.true in
    rw (e, ← c.byte-next.ensures, ne_eqb _ _ c.if-next.false)

pub returns-then-not-inside_ram : goal.returns-then-not-inside_ram
unfolding start_fault
returns-then-not-inside_ram c =
    let e = sym c.in_flash.ensures ∙ c.if-in_flash.false in
    let i = sym c.inside_ram.ensures ∙ c.if-not-inside_ram.true in
    rw (e, i)

pub returns-then-not-next : goal.returns-then-not-next
unfolding start_fault
returns-then-not-next c =
    let e = sym c.in_flash.ensures ∙ c.if-in_flash.false in
    let i = sym c.inside_ram.ensures ∙ c.if-not-inside_ram.false in
    rw (e, i, ← c.byte-next.ensures, ne_eqb _ _ c.if-not-next.true)

pub returns : goal.returns
unfolding start_fault
returns c =
    let e = sym c.in_flash.ensures ∙ c.if-in_flash.false in
    let i = sym c.inside_ram.ensures ∙ c.if-not-inside_ram.false in
    rw (e, i, ← c.byte-next.ensures, c.if-not-next.false)
