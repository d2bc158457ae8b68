-- `read` meets its contract: each field is refused or passed as the definition has it; an accepted block is checked; number and place
-- tell the answer.
use Prim.Native.Nat.{ℕ}
use mathlib.Core.Path.{◌≡◌, refl, sym, ap, subst, ◌∙◌}
use mathlib.Core.Bool.{Bool}
use native.Mathlib.Omega.{arith}
use mathlib.Core.List.{List}
use lib.ListN.{length}
use Rattle.std.proofs.Common.{rules, Result, Ok, Err, IfOk}
use Rattle.block.specs.declared.Block.{Block}
use Rattle.block.specs.Block.{in_flash}
use Rattle.block.specs.Checked.{Checked}
use Rattle.faults.specs.declared.Refusal.{Refusal}
use Rattle.record.specs.Record.{Reading, accepted, reading, operations, header, found, Told}
use Rattle.record.specs.Parts.{Faultless}
use Rattle.record.proofs.Accepted.{Bytes, answer-checked}
use Rattle.record.proofs.Behind.{flash-reading}
use Rattle.record.proofs.Faults.{told}
use Rattle.record.proofs.Steps.{placed, refused_at, passed, pass}
use Rattle.fields.proofs.Laws.{layout-whole, memory-whole, addresses-whole, start-whole, no-guard}
use Rattle.record.proofs.read.Goals as goal

record Promised (s : List ℕ) (q : Result Block Refusal) : Type 0 where
  is_reading : found q ≡ reading s
  checked : IfOk q (λ b. Checked b)
  number_and_place : Told s (found q).answer

promised : (s : List ℕ) (q : Result Block Refusal) → Bytes s → found q ≡ reading s → Promised s q
promised s q h e =
    record { is_reading = e; checked = fits q e; number_and_place = subst (λ (r : Reading). Told s r.answer) (sym e) (told s) }
  where
    fits : (p : Result Block Refusal) → found p ≡ reading s → IfOk p (λ b. Checked b)
    fits (Ok b) f = answer-checked s (accepted b) h f refl
    fits (Err r) f = tt

-- whether the start is in flash's range, as the code has tested it
in_range : {n a : ℕ} {f t : Bool} → a ≡ n → f ≡ in_flash a → f ≡ t → in_flash n ≡ t
in_range a f t = ap in_flash (sym a) ∙ sym f ∙ t

pub returns-in_err-map_err : goal.returns-in_err-map_err
unfolding reading
returns-in_err-map_err c =
    let h : c.from_residual.result ≡ Err c.in_err-map_err.field-0.0 = search rules in
    let m : c.map_err.result ≡ placed 0 c.layout_field.result = search rules in
    let p =
    promised c.args.s.now c.from_residual.result (λ i. omega (arith, c.type_inv.s i))
    (ap found h ∙ refused_at c.layout_field.result c.map_err.result _ _ 0 _ c.layout_field.ensures m c.in_err-map_err.was) in
    record { is_reading = p.is_reading; checked = p.checked; number_and_place = p.number_and_place }

pub memory_field-requires : goal.memory_field-requires
memory_field-requires c =
    let l = passed c.layout_field.result c.layout_field.ensures c.in_ok-map_err.ensures.variant in
    omega (arith, (layout-whole _ l).1.inside)

pub returns-in_err-map_err-2 : goal.returns-in_err-map_err-2
unfolding reading
returns-in_err-map_err-2 c =
    let h : c.from_residual-in_err-map_err-2.result ≡ Err c.in_err-map_err-2.field-0.0 = search rules in
    let m : c.map_err-2.result ≡ placed 23 c.memory_field.result = search rules in
    let p =
    promised c.args.s.now c.from_residual-in_err-map_err-2.result (λ i. omega (arith, c.type_inv.s i))
    (ap found h
    ∙ refused_at c.memory_field.result c.map_err-2.result _ _ 23 _ c.memory_field.ensures m c.in_err-map_err-2.was
    ∙ pass _ 0 _ refl (passed c.layout_field.result c.layout_field.ensures c.in_ok-map_err.ensures.variant)) in
    record { is_reading = p.is_reading; checked = p.checked; number_and_place = p.number_and_place }

pub addresses_field-requires : goal.addresses_field-requires
addresses_field-requires c =
    let m = passed c.memory_field.result c.memory_field.ensures c.in_ok-map_err-2.ensures.variant in
    omega (arith, (memory-whole _ m).1.inside)

pub returns-in_err-map_err-3 : goal.returns-in_err-map_err-3
unfolding reading
returns-in_err-map_err-3 c =
    let h : c.from_residual-in_err-map_err-3.result ≡ Err c.in_err-map_err-3.field-0.0 = search rules in
    let m : c.map_err-3.result ≡ placed 43 c.addresses_field.result = search rules in
    let p =
    promised c.args.s.now c.from_residual-in_err-map_err-3.result (λ i. omega (arith, c.type_inv.s i))
    (ap found h
    ∙ refused_at c.addresses_field.result c.map_err-3.result _ _ 43 _ c.addresses_field.ensures m c.in_err-map_err-3.was
    ∙ pass _ 23 _ refl (passed c.memory_field.result c.memory_field.ensures c.in_ok-map_err-2.ensures.variant)
    ∙ pass _ 0 _ refl (passed c.layout_field.result c.layout_field.ensures c.in_ok-map_err.ensures.variant)) in
    record { is_reading = p.is_reading; checked = p.checked; number_and_place = p.number_and_place }

pub start_field-requires : goal.start_field-requires
start_field-requires c = (
  omega (arith, (addresses-whole _ (passed c.addresses_field.result c.addresses_field.ensures c.in_ok-map_err-3.ensures.variant)).1.inside),
  (memory-whole _ (passed c.memory_field.result c.memory_field.ensures c.in_ok-map_err-2.ensures.variant)).0,
)

pub returns-in_err-map_err-4 : goal.returns-in_err-map_err-4
unfolding reading
returns-in_err-map_err-4 c =
    let h : c.from_residual-in_err-map_err-4.result ≡ Err c.in_err-map_err-4.field-0.0 = search rules in
    let m : c.map_err-4.result ≡ placed 70 c.start_field.result = search rules in
    let p =
    promised c.args.s.now c.from_residual-in_err-map_err-4.result (λ i. omega (arith, c.type_inv.s i))
    (ap found h
    ∙ refused_at c.start_field.result c.map_err-4.result _ _ 70 _ c.start_field.ensures m c.in_err-map_err-4.was
    ∙ pass _ 43 _ refl (passed c.addresses_field.result c.addresses_field.ensures c.in_ok-map_err-3.ensures.variant)
    ∙ pass _ 23 _ refl (passed c.memory_field.result c.memory_field.ensures c.in_ok-map_err-2.ensures.variant)
    ∙ pass _ 0 _ refl (passed c.layout_field.result c.layout_field.ensures c.in_ok-map_err.ensures.variant)) in
    record { is_reading = p.is_reading; checked = p.checked; number_and_place = p.number_and_place }

pub start_of-requires : goal.start_of-requires
start_of-requires c = (start-whole _ (passed c.start_field.result c.start_field.ensures c.in_ok-map_err-4.ensures.variant)).0

pub returns-then-not-in_flash : goal.returns-then-not-in_flash
returns-then-not-in_flash c =
    let p = promised c.args.s.now c.read_ram.result (λ i. omega (arith, c.type_inv.s i)) c.read_ram.ensures in
    record { is_reading = p.is_reading; checked = p.checked; number_and_place = p.number_and_place }

pub header-block-requires : goal.header-block-requires
header-block-requires c =
    let f : Faultless c.args.s.now =
    record {
      layout = passed c.layout_field.result c.layout_field.ensures c.in_ok-map_err.ensures.variant;
      memory = passed c.memory_field.result c.memory_field.ensures c.in_ok-map_err-2.ensures.variant;
      addresses = passed c.addresses_field.result c.addresses_field.ensures c.in_ok-map_err-3.ensures.variant;
      start = passed c.start_field.result c.start_field.ensures c.in_ok-map_err-4.ensures.variant;
    } in
    (f, no-guard _ (in_range c.start_of.ensures c.in_flash.ensures c.if-not-in_flash.false))

pub read_operations-requires : goal.read_operations-requires
unfolding header
read_operations-requires c = (
  omega (arith, (start-whole _ (passed c.start_field.result c.start_field.ensures c.in_ok-map_err-4.ensures.variant)).1.inside),
  ap (λ (b : Block). b.n) c.header-block.ensures,
  ap (λ (b : Block). length b.ops) c.header-block.ensures,
)

pub returns-in_err-read_operations : goal.returns-in_err-read_operations
returns-in_err-read_operations c =
    let s = c.args.s.now in
    let f : Faultless s =
    record {
      layout = passed c.layout_field.result c.layout_field.ensures c.in_ok-map_err.ensures.variant;
      memory = passed c.memory_field.result c.memory_field.ensures c.in_ok-map_err-2.ensures.variant;
      addresses = passed c.addresses_field.result c.addresses_field.ensures c.in_ok-map_err-3.ensures.variant;
      start = passed c.start_field.result c.start_field.ensures c.in_ok-map_err-4.ensures.variant;
    } in
    let h : c.from_residual-in_err-read_operations.result ≡ Err c.in_err-read_operations.field-0.0 = search rules in
    let p =
    promised s c.from_residual-in_err-read_operations.result (λ i. omega (arith, c.type_inv.s i))
    (ap found h
    ∙ c.in_err-read_operations.ensures
    ∙ ap (operations 33 s 77) c.header-block.ensures
    ∙ flash-reading s f (in_range c.start_of.ensures c.in_flash.ensures c.if-not-in_flash.false)) in
    record { is_reading = p.is_reading; checked = p.checked; number_and_place = p.number_and_place }

pub returns : goal.returns
returns c =
    let s = c.args.s.now in
    let f : Faultless s =
    record {
      layout = passed c.layout_field.result c.layout_field.ensures c.in_ok-map_err.ensures.variant;
      memory = passed c.memory_field.result c.memory_field.ensures c.in_ok-map_err-2.ensures.variant;
      addresses = passed c.addresses_field.result c.addresses_field.ensures c.in_ok-map_err-3.ensures.variant;
      start = passed c.start_field.result c.start_field.ensures c.in_ok-map_err-4.ensures.variant;
    } in
    let p =
    promised s (Ok c.read_operations.new.block) (λ i. omega (arith, c.type_inv.s i))
    (c.in_ok-read_operations.ensures
    ∙ ap (operations 33 s 77) c.header-block.ensures
    ∙ flash-reading s f (in_range c.start_of.ensures c.in_flash.ensures c.if-not-in_flash.false)) in
    record { is_reading = p.is_reading; checked = p.checked; number_and_place = p.number_and_place }
