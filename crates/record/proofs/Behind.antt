-- Fields 01 to 04 have no fault: what reading then gives, of a flash block and of a RAM block.
use mathlib.Core.Path.{◌≡◌, refl, sym, ap, ◌∙◌}
use mathlib.Core.Bool.{true, false}
use mathlib.Core.List.{List}
use Prim.Native.Nat.{ℕ}
use Rattle.block.specs.Block.{in_flash}
use Rattle.fields.proofs.Laws.{no-guard}
use Rattle.record.specs.Record.{start_of, layout_field, memory_field, addresses_field, start_field, guard_field, Reading, refused}
use Rattle.record.specs.Record.{refused_or, operations, first_op, header, in_ram, within_ram, reading}
use Rattle.record.specs.Parts.{Faultless}
use Rattle.record.proofs.Steps.{pass}

pub behind : (s : List ℕ) → Faultless s → refused_or (guard_field s) 77 (within_ram s (operations 33 s (first_op s) (header s))) ≡ reading s
unfolding reading
behind s f =
    pass (start_field s) 70 _ refl f.start
    ∙ pass (addresses_field s) 43 _ refl f.addresses
    ∙ pass (memory_field s) 23 _ refl f.memory
    ∙ pass (layout_field s) 0 _ refl f.layout

within-flash : (s : List ℕ) (r : Reading) → in_flash (start_of s) ≡ true → r ≡ within_ram s r
unfolding within_ram
within-flash s r e = rw e refl

pub flash-reading : (s : List ℕ) → Faultless s → in_flash (start_of s) ≡ true → operations 33 s 77 (header s) ≡ reading s
flash-reading s f e =
    let first : first_op s ≡ 77 = rw e refl in
    ap (λ (a : ℕ). operations 33 s a (header s)) (sym first)
    ∙ within-flash s _ e
    ∙ pass (guard_field s) 77 _ refl (no-guard s e)
    ∙ behind s f

pub refused_within : (s : List ℕ) (number place : ℕ) → in_flash (start_of s) ≡ false
    → refused number place ≡ within_ram s (refused number place)
unfolding within_ram in_ram
refused_within s number place e = rw e refl

pub ram-reading : (s : List ℕ) → Faultless s → in_flash (start_of s) ≡ false → guard_field s ≡ 0
    → within_ram s (operations 33 s 96 (header s)) ≡ reading s
ram-reading s f e g =
    let first : first_op s ≡ 96 = rw e refl in
    ap (λ (a : ℕ). within_ram s (operations 33 s a (header s))) (sym first)
    ∙ pass (guard_field s) 77 _ refl g
    ∙ behind s f
