-- `header` meets its contract: the parts lent are the payloads of fields 01 to 03; the start and the guard have functions of their own.
use Prim.Native.Nat.{ℕ}
use mathlib.Core.Path.{◌≡◌, ap, ◌∙◌}
use mathlib.Core.Bool.{Bool, false}
use native.Mathlib.Omega.{arith}
use Rattle.block.specs.declared.BOp.{BOp}
use Rattle.block.specs.declared.Fast.{Fast}
use Rattle.block.specs.declared.Fast.TheVariants.{Nop}
use Rattle.record.specs.Record.{nop, layout_of, memory_of, addresses_of, header}
use Rattle.fields.proofs.Laws.{layout-whole, memory-whole, addresses-whole, start-whole, payload-part}
use Rattle.record.proofs.header.Goals as goal

-- what `BOp::default` gives
is_nop : (f : Fast) (l : ℕ) (g : Bool) → f ≡ Nop → l ≡ 0 → g ≡ false → ◌≡◌ {A = BOp} (record { fast = f; len = l; glue = g }) nop
is_nop f l g h i j = rw (h, i, j)

pub slice_bounds-layout_of-end : goal.slice_bounds-layout_of-end
slice_bounds-layout_of-end c = omega (arith, (layout-whole _ c.requires.0.layout).1.inside)

pub slice_bounds-memory_of-end : goal.slice_bounds-memory_of-end
slice_bounds-memory_of-end c = omega (arith, (memory-whole _ c.requires.0.memory).1.inside)

pub slice_bounds-addresses_of-end : goal.slice_bounds-addresses_of-end
slice_bounds-addresses_of-end c = omega (arith, (addresses-whole _ c.requires.0.addresses).1.inside)

pub start_of-requires : goal.start_of-requires
start_of-requires c = (start-whole _ c.requires.0.start).0

pub guard_at-requires : goal.guard_at-requires
guard_at-requires c = ((start-whole _ c.requires.0.start).0, c.requires.1)

pub returns : goal.returns
unfolding header
returns c =
    let s = c.args.s.now in
    let f = c.requires.0 in
    rw (
      c.layout_of.ensures ∙ ap layout_of (payload-part s 0 20 (layout-whole s f.layout).1),
      c.memory_of.ensures ∙ ap memory_of (payload-part s 23 17 (memory-whole s f.memory).1),
      c.addresses_of.ensures ∙ ap addresses_of (payload-part s 43 24 (addresses-whole s f.addresses).1),
      c.start_of.ensures,
      c.guard_at.ensures,
      is_nop _ _ _ c.default.ensures.0 c.default.ensures.1.0 c.default.ensures.1.1,
    )
