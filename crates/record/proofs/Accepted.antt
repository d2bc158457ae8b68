-- An accepted record gives a checked block: `read-checked`, at the end. The faults are taken apart in the order of the definition, and the
-- operations are gone through one by one: what is read so far is a checked block at each step, if a RAM block's operations end inside RAM,
-- which is tested once all of them are read.
use mathlib.Core.Path.{◌≡◌, refl, sym, ap, ◌∙◌}
use mathlib.Core.Bool.{Bool, true, false, cond, true≢false}
use mathlib.Core.List.{List, [], ◌∷◌, ◌++◌}
use Prim.Native.Nat.{ℕ, zero, suc, ◌+◌, ◌*◌, ◌<◌, ◌≤◌}
use native.Mathlib.Omega.{arith}
use native.Mathlib.Nat.{not-suc-le-zero, le_of_suc-le-suc}
use native.Mathlib.Numerals.{add-one}
use borrow.Author.Tests.{ltb-false}
use lib.Dec.{leb, ltb}
use lib.ListN.{length, take, length-set}
use lib.Seq.{take-suc-set}
use Rattle.block.specs.declared.BOp.{BOp}
use Rattle.block.specs.declared.Memory.{Memory}
use Rattle.block.specs.declared.Block.{Block}
use Rattle.block.specs.Block.{ops_of, moved, lengths, in_flash}
use Rattle.block.specs.Checked.{BOpFits, OpsFit, NoneAfterJump, GroupFits, GroupsFit, Checked}
use Rattle.operands.specs.Kinds.{fast_of}
use Rattle.operation.specs.Operation.{operands}
use Rattle.faults.proofs.Laws.{then-zero}
use Rattle.operands.proofs.Laws.{or_false_both}
use Rattle.operation.proofs.Contents.{Contents}
use Rattle.operation.proofs.Fitting.{fast-fits}
use Rattle.fields.proofs.Fitting.{below_32, payload-bytes, layout-fits, memory-fits, addresses-fit, guard-fits, start_fits}
pub use Rattle.fields.proofs.Fitting.{Bytes}
use Rattle.record.specs.Record.{byte_at, payload_length, payload, layout_of, memory_of, start_of, operation_of, last_jumps, Reading}
use Rattle.record.specs.Record.{Accepted, refused_or, push, end_or, operations, first_op, header, field_fault, layout_field, memory_field}
use Rattle.record.specs.Record.{addresses_field, start_field, guard_field, in_ram, to_ram_end, within_ram, reading}
use Rattle.record.specs.Parts.{Faultless, Roomy}
use Rattle.record.proofs.Steps.{good, fault_at, not_refused}
use Rattle.record.proofs.Within.{roomy, walked}

-- ---- the operations

operation-fits : (m : Memory) (p : List ℕ) → Bytes p → Contents m p → BOpFits (operation_of p)
unfolding operation_of
operation-fits m p h c = record { fast = fast-fits (byte_at p 0) p (λ j. below_32 p (3 + 4 * j) h) c.fit; len = h 1 }

group-fits : (m : Memory) (p : List ℕ) → Contents m p → GroupFits m (operation_of p).fast
unfolding operation_of
group-fits m p c =
    let n = moved (fast_of (byte_at p 0) (operands p)) in
    let e = or_false_both (ltb m.ram_len (4 * n)) (ltb m.xip_len (4 * n)) c.group in
    (ltb-false m.ram_len (4 * n) e.0, ltb-false m.xip_len (4 * n) e.1)

one_more-fits : (os : List BOp) (o : BOp) → OpsFit os → BOpFits o → OpsFit (os ++ (o ∷ []))
one_more-fits [] o h f = (f, tt)
one_more-fits (x ∷ os) o h f = (h.0, one_more-fits os o h.1 f)

one_more-group : (m : Memory) (os : List BOp) (o : BOp) → GroupsFit m os → GroupFits m o.fast → GroupsFit m (os ++ (o ∷ []))
one_more-group m [] o h f = (f, tt)
one_more-group m (x ∷ os) o h f = (h.0, one_more-group m os o h.1 f)

none_after : (n : ℕ) (ops : List BOp) (o : BOp) → n ≤ length ops → NoneAfterJump (take n ops) → last_jumps n ops ≡ false
    → NoneAfterJump (take n ops ++ (o ∷ []))
none_after zero ops o l h e = tt
none_after (suc n) [] o l h e = absurd (not-suc-le-zero l)
none_after (suc zero) (x ∷ ops) o l h e = (e, tt)
none_after (suc (suc n)) (x ∷ []) o l h e = absurd (not-suc-le-zero (le_of_suc-le-suc l))
none_after (suc (suc n)) (x ∷ (y ∷ ops)) o l h e = (h.0, none_after (suc n) (y ∷ ops) o (le_of_suc-le-suc l) h.1 e)

pushed : (b : Block) (o : BOp) → b.n < length b.ops → ops_of (push b o) ≡ ops_of b ++ (o ∷ [])
pushed b o h = rw add-one (take-suc-set b.ops b.n o h)

-- ---- a block as far as it is read

-- a RAM block's operations end inside RAM: that is known once all of them are read
abbrev Ends : Block → Type 0
Ends b = in_flash b.pc0 ≡ false → b.pc0 + lengths (ops_of b) ≤ b.memory.ram_base + b.memory.ram_len

record Held (start : ℕ) (b : Block) : Type 0 where
  pc0 : b.pc0 ≡ start
  size : length b.ops ≡ 32
  checked : Ends b → Checked b

lengths_more : (os : List BOp) (o : BOp) → lengths os ≤ lengths (os ++ (o ∷ []))
lengths_more [] o = omega arith
lengths_more (x ∷ os) o = let h = lengths_more os o in omega (arith, h)

-- operations that end inside RAM do so without the last
ends-before : (b : Block) (o : BOp) → b.n < length b.ops → Ends (push b o) → Ends b
ends-before b o h e f =
    let l = lengths_more (ops_of b) o in
    let p = rw (pushed b o h) at (e f) in
    omega (arith, l, p)

checked-push : (b : Block) (o : BOp) → Checked b → b.n < 32 → BOpFits o → GroupFits b.memory o.fast
    → last_jumps b.n b.ops ≡ false → Ends (push b o) → Checked (push b o)
checked-push b o c room f g j e =
    let h : b.n < length b.ops = omega (arith, c.size, room) in
    let l : b.n ≤ length b.ops = omega arith in
    record {
      layout = c.layout;
      memory = c.memory;
      addresses = c.addresses;
      pc0 = c.pc0;
      in-ram = λ x. let i = c.in-ram x in record { from = i.from; before = i.before; to = e x };
      guard = c.guard;
      count = omega (arith, room);
      size = length-set b.ops b.n o ∙ c.size;
      ops = rw (pushed b o h) (one_more-fits (ops_of b) o c.ops f);
      last-jumps = rw (pushed b o h) (none_after b.n b.ops o l c.last-jumps j);
      groups = rw (pushed b o h) (one_more-group b.memory (ops_of b) o c.groups g);
    }

held-push : (start : ℕ) (b : Block) (o : BOp) → Held start b → b.n < 32 → BOpFits o → GroupFits b.memory o.fast
    → last_jumps b.n b.ops ≡ false → Held start (push b o)
held-push start b o h room f g j =
    let l : b.n < length b.ops = omega (arith, h.size, room) in
    record {
      pc0 = h.pc0;
      size = length-set b.ops b.n o ∙ h.size;
      checked = λ e. checked-push b o (h.checked (ends-before b o l e)) room f g j e;
    }

one_step : (start : ℕ) (s : List ℕ) (at : ℕ) (b : Block) (next : Reading) → Bytes s → Held start b
    → (Held start (push b (operation_of (payload s at))) → next.answer ≡ Accepted → Held start next.block)
    → (t : Bool) → (end_or t b (refused_or (fault_at s at b) at next)).answer ≡ Accepted
    → Held start (end_or t b (refused_or (fault_at s at b) at next)).block
one_step start s at b next h c rest true e = c
one_step start s at b next h c rest false e =
    let r = not_refused (fault_at s at b) at next e in
    let g = good b.memory s at b.n (last_jumps b.n b.ops) r.0 in
    let o = operation-fits b.memory (payload s at) (payload-bytes s at h) g.contents in
    let m = group-fits b.memory (payload s at) g.contents in
    let p = held-push start b (operation_of (payload s at)) c g.room o m g.before in
    rw r.1 (rest p (rw r.1 at e))

operations-held : (start k : ℕ) (s : List ℕ) (at : ℕ) (b : Block) → Bytes s → Held start b → (operations k s at b).answer ≡ Accepted
    → Held start (operations k s at b).block
unfolding operations
operations-held start zero s at b h c e = c
operations-held start (suc k) s at b h c e =
    one_step start s at b _ h c
    (λ c' e'. operations-held start k s (at + 3 + payload_length s at) (push b (operation_of (payload s at))) h c' e')
    (leb (length s) at) e

-- ---- the record

-- where a RAM block starts
start-inside : (s : List ℕ) → start_field s ≡ 0 → in_flash (start_of s) ≡ false
    → ((memory_of (payload s 23)).ram_base ≤ start_of s)
    × (start_of s < (memory_of (payload s 23)).ram_base + (memory_of (payload s 23)).ram_len)
unfolding start_field
start-inside s e f = start_fits (memory_of (payload s 23)) s (start_of s) (then-zero (field_fault s 70 4 4) _ e).1 f

pub header-roomy : (s : List ℕ) → start_field s ≡ 0 → in_flash (start_of s) ≡ false → Roomy (header s)
unfolding header
header-roomy s e f =
    let i = (start-inside s e f).1 in
    record { count = omega arith; size = refl; start = omega (arith, i) }

header-held : (s : List ℕ) → Bytes s → Faultless s → Held (start_of s) (header s)
unfolding header layout_field memory_field
header-held s h f =
    let l = then-zero (field_fault s 0 1 20) _ f.layout in
    let m = then-zero (field_fault s 23 2 17) _ f.memory in
    record {
      pc0 = refl;
      size = refl;
      checked = λ e.
          record {
            layout = layout-fits (layout_of (payload s 0)) l.1;
            memory = memory-fits (payload s 23) m.1;
            addresses = addresses-fit (payload s 43) (payload-bytes s 43 h);
            pc0 = below_32 (payload s 70) 0 (payload-bytes s 70 h);
            in-ram = λ x. let i = start-inside s f.start x in record { from = i.0; before = i.1; to = e x };
            guard = guard-fits s h;
            count = omega arith;
            size = refl;
            ops = tt;
            last-jumps = tt;
            groups = tt;
          };
    }

-- the walk up to RAM's end: where it is accepted, so are the operations, and they end inside RAM
within-checked : (s : List ℕ) (r : Reading) → (r.answer ≡ Accepted → Held (start_of s) r.block)
    → (in_flash (start_of s) ≡ false → Roomy r.block)
    → (within_ram s r).answer ≡ Accepted → Checked (within_ram s r).block
unfolding within_ram
within-checked s r h room e =
    either (in_flash (start_of s)) refl e
  where
    walk : Reading
    walk = in_ram (ops_of r.block) s 96 (to_ram_end r.block) r

    either : (flash : Bool) → in_flash (start_of s) ≡ flash → (cond flash r walk).answer ≡ Accepted → Checked (cond flash r walk).block
    either true f e =
        let g = h e in
        g.checked (λ x. absurd (true≢false (sym f ∙ ap in_flash (sym g.pc0) ∙ x)))
    either false f e =
        let w = walked (ops_of r.block) s 96 (to_ram_end r.block) r e in
        let g = h (rw w.same at e) in
        rw w.same (g.checked (λ x. omega (arith, (room f).start, w.fit)))

pub read-checked : (s : List ℕ) → Bytes s → (reading s).answer ≡ Accepted → Checked (reading s).block
unfolding reading
read-checked s h e =
    let l = not_refused (layout_field s) 0 _ e in
    let e₁ = rw l.1 at e in
    let m = not_refused (memory_field s) 23 _ e₁ in
    let e₂ = rw m.1 at e₁ in
    let a = not_refused (addresses_field s) 43 _ e₂ in
    let e₃ = rw a.1 at e₂ in
    let t = not_refused (start_field s) 70 _ e₃ in
    let e₄ = rw t.1 at e₃ in
    let g = not_refused (guard_field s) 77 _ e₄ in
    let e₅ = rw g.1 at e₄ in
    let f : Faultless s = record { layout = l.0; memory = m.0; addresses = a.0; start = t.0 } in
    rw (l.1, m.1, a.1, t.1, g.1)
    (within-checked s (operations 33 s (first_op s) (header s))
    (operations-held (start_of s) 33 s (first_op s) (header s) h (header-held s h f))
    (λ x. roomy 33 s (first_op s) (header s) (header-roomy s t.0 x))
    e₅)

-- the same of an answer that is the definition's
pub answer-checked : (s : List ℕ) (r : Reading) → Bytes s → r ≡ reading s → r.answer ≡ Accepted → Checked r.block
answer-checked s r h e a = rw e (read-checked s h (rw e at a))
