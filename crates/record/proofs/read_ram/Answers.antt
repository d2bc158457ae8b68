-- `read_ram` meets its contract: the guard's fault, or the operations and the walk over them, are what reading gives.
use mathlib.Core.Path.{◌≡◌, sym, ap, subst, ◌∙◌}
use native.Mathlib.Omega.{arith}
use lib.ListN.{length}
use Rattle.std.proofs.Common.{rules, Err}
use Rattle.block.specs.declared.Block.{Block}
use Rattle.record.specs.Record.{Reading, operations, header, within_ram, found}
use Rattle.record.specs.Parts.{Roomy}
use Rattle.record.proofs.Accepted.{header-roomy}
use Rattle.record.proofs.Behind.{behind, refused_within, ram-reading}
use Rattle.record.proofs.Steps.{placed, refused_at, passed}
use Rattle.record.proofs.Within.{roomy}
use Rattle.fields.proofs.Laws.{start-whole, guard_whole}
use Rattle.record.proofs.read_ram.Goals as goal

pub guard_field-requires : goal.guard_field-requires
guard_field-requires c = (omega (arith, (start-whole _ c.requires.0.start).1.inside), c.requires.1)

pub returns-in_err-map_err : goal.returns-in_err-map_err
returns-in_err-map_err c =
    let h : c.from_residual.result ≡ Err c.in_err-map_err.field-0.0 = search rules in
    let m : c.map_err.result ≡ placed 77 c.guard_field.result = search rules in
    ap found h
    ∙ refused_at c.guard_field.result c.map_err.result _ _ 77 _ c.guard_field.ensures m c.in_err-map_err.was
    ∙ behind c.args.s.now c.requires.0

pub read_operations-requires : goal.read_operations-requires
unfolding header
read_operations-requires c =
    let g = passed c.guard_field.result c.guard_field.ensures c.in_ok-map_err.ensures.variant in (
      omega (arith, (guard_whole c.args.s.now c.requires.1 g).inside),
      ap (λ (b : Block). b.n) c.header-block.ensures,
      ap (λ (b : Block). length b.ops) c.header-block.ensures,
    )

pub returns-in_err-read_operations : goal.returns-in_err-read_operations
returns-in_err-read_operations c =
    let s = c.args.s.now in
    let g = passed c.guard_field.result c.guard_field.ensures c.in_ok-map_err.ensures.variant in
    let h : c.from_residual-in_err-read_operations.result ≡ Err c.in_err-read_operations.field-0.0 = search rules in
    ap found h
    ∙ refused_within s _ _ c.requires.1
    ∙ ap (within_ram s) (c.in_err-read_operations.ensures ∙ ap (operations 33 s 96) c.header-block.ensures)
    ∙ ram-reading s c.requires.0 c.requires.1 g

pub within_ram-requires : goal.within_ram-requires
within_ram-requires c =
    let s = c.args.s.now in
    let e = c.in_ok-read_operations.ensures ∙ ap (operations 33 s 96) c.header-block.ensures in
    let r = roomy 33 s 96 (header s) (header-roomy s c.requires.0.start c.requires.1) in
    (c.requires.1, subst (λ (x : Reading). Roomy x.block) (sym e) r)

pub returns-in_err-within_ram : goal.returns-in_err-within_ram
returns-in_err-within_ram c =
    let s = c.args.s.now in
    let g = passed c.guard_field.result c.guard_field.ensures c.in_ok-map_err.ensures.variant in
    let h : c.from_residual-in_err-within_ram.result ≡ Err c.in_err-within_ram.field-0.0 = search rules in
    ap found h
    ∙ c.in_err-within_ram.ensures
    ∙ ap (within_ram s) (c.in_ok-read_operations.ensures ∙ ap (operations 33 s 96) c.header-block.ensures)
    ∙ ram-reading s c.requires.0 c.requires.1 g

pub returns : goal.returns
returns c =
    let s = c.args.s.now in
    let g = passed c.guard_field.result c.guard_field.ensures c.in_ok-map_err.ensures.variant in
    c.in_ok-within_ram.ensures
    ∙ ap (within_ram s) (c.in_ok-read_operations.ensures ∙ ap (operations 33 s 96) c.header-block.ensures)
    ∙ ram-reading s c.requires.0 c.requires.1 g
