-- The operations of a RAM block, one after the other, up to RAM's end: one step, at the i-th operation; what reading gives has room for the
-- walk; and where the walk is accepted, the operations end inside RAM.
use mathlib.Core.Path.{◌≡◌, refl, ◌∙◌}
use mathlib.Core.Bool.{Bool, true, false}
use mathlib.Core.List.{List, [], ◌∷◌}
use Prim.Native.Nat.{ℕ, zero, suc, ◌+◌, ◌-◌, ◌<◌, ◌≤◌}
use native.Mathlib.Omega.{arith}
use native.Mathlib.Numerals.{add-one}
use borrow.Author.Tests.{ltb-false, lt-ltb, le-ltb}
use lib.Dec.{leb, ltb}
use lib.ListN.{length, get_or, drop, length-set, drop_of_length-le}
use lib.Seq.{drop-cons}
use Rattle.block.specs.declared.BOp.{BOp}
use Rattle.block.specs.declared.Block.{Block}
use Rattle.block.specs.Block.{lengths}
use Rattle.faults.proofs.Laws.{gives-zero}
use Rattle.record.specs.Record.{◌gives◌, payload_length, payload, operation_of, nop, last_jumps, Reading, Accepted, empty, refused}
use Rattle.record.specs.Record.{refused_or, push, end_or, operations, in_ram}
use Rattle.record.specs.Parts.{Roomy}
use Rattle.record.proofs.Steps.{good, fault_at, not_refused}

-- ---- one step

-- the i-th operation ends inside RAM
pub inside :
    (os : List BOp) (i : ℕ) (s : List ℕ) (at room : ℕ) (r : Reading) → i < length os → (get_or os i nop).len ≤ room
    → (size : ℕ) → size ≡ payload_length s at
    → in_ram (drop (i + 1) os) s (at + 3 + size) (room - (get_or os i nop).len) r ≡ in_ram (drop i os) s at room r
unfolding in_ram refused_or
inside os i s at room r l h size es = rw (drop-cons os i nop l, add-one i, es, le-ltb room _ h)

-- the i-th operation reaches past RAM's end
pub past :
    (os : List BOp) (i : ℕ) (s : List ℕ) (at room : ℕ) (r : Reading) → i < length os → room < (get_or os i nop).len
    → refused 17 at ≡ in_ram (drop i os) s at room r
unfolding in_ram refused_or
past os i s at room r l h = rw (drop-cons os i nop l, lt-ltb room _ h)

-- no operation is left
pub none_left :
    (os : List BOp) (i : ℕ) (s : List ℕ) (at room : ℕ) (r : Reading) → length os ≤ i → r ≡ in_ram (drop i os) s at room r
unfolding in_ram
none_left os i s at room r e = rw (drop_of_length-le os e)

-- ---- what reading gives

empty-roomy : Roomy empty
empty-roomy = record { count = omega arith; size = refl; start = omega arith }

push-roomy : (b : Block) (o : BOp) → Roomy b → b.n < 32 → Roomy (push b o)
push-roomy b o h room =
    record { count = omega (arith, room); size = length-set b.ops b.n o ∙ h.size; start = h.start }

-- an operation's fault, or what follows it
or_roomy : (f place : ℕ) (next : Reading) → (f ≡ 0 → Roomy next.block) → Roomy (refused_or f place next).block
unfolding refused_or
or_roomy zero place next k = k refl
or_roomy (suc f) place next k = empty-roomy

end_roomy : (t : Bool) (b : Block) (next : Reading) → Roomy b → Roomy next.block → Roomy (end_or t b next).block
end_roomy true b next h k = h
end_roomy false b next h k = k

pub roomy : (k : ℕ) (s : List ℕ) (at : ℕ) (b : Block) → Roomy b → Roomy (operations k s at b).block
unfolding operations
roomy zero s at b h = h
roomy (suc k) s at b h =
    end_roomy (leb (length s) at) b _ h
    (or_roomy (fault_at s at b) at _
    (λ e. roomy k s (at + 3 + payload_length s at) (push b (operation_of (payload s at)))
    (push-roomy b (operation_of (payload s at)) h (good b.memory s at b.n (last_jumps b.n b.ops) e).room)))

-- ---- the walk, accepted

pub record Inside (os : List BOp) (s : List ℕ) (at room : ℕ) (r : Reading) : Type 0 where
  pub same : in_ram os s at room r ≡ r
  pub fit : lengths os ≤ room

pub walked : (os : List BOp) (s : List ℕ) (at room : ℕ) (r : Reading) → (in_ram os s at room r).answer ≡ Accepted → Inside os s at room r
unfolding in_ram
walked [] s at room r e = record { same = refl; fit = omega arith }
walked (o ∷ os) s at room r e =
    let n = not_refused (ltb room o.len gives 17) at _ e in
    let h = ltb-false room o.len (gives-zero _ 16 n.0) in
    let w = walked os s (at + 3 + payload_length s at) (room - o.len) r (rw n.1 at e) in
    record { same = n.1 ∙ w.same; fit = omega (arith, h, w.fit) }
