-- Operations, one after the other: what an operation without a fault satisfies, and how one more step of reading goes.
use mathlib.Core.Path.{◌≡◌, refl, sym, ap, ap₂, ◌∙◌}
use mathlib.Core.Bool.{Bool, true, false, not}
use mathlib.Core.List.{List}
use Prim.Native.Nat.{ℕ, zero, suc, ◌+◌, ◌-◌, ◌<◌, ◌≤◌}
use native.Mathlib.Omega.{arith}
use native.Mathlib.Numerals.{add-one}
use borrow.Author.Tests.{leb-false, le-leb, lt-leb}
use lib.Dec.{leb, eqb}
use lib.ListN.{length, set, length-set}
use lib.Seq.{get_or-set_same}
use Rattle.block.specs.declared.BOp.{BOp}
use Rattle.block.specs.declared.Memory.{Memory}
use Rattle.block.specs.declared.Block.{Block}
use Rattle.block.specs.Block.{jumping, may_jump}
use Rattle.std.proofs.Common.{Result, Ok, Err, is_ok}
use Rattle.faults.specs.declared.Fault.{Fault}
use Rattle.faults.specs.declared.Refusal.{Refusal}
use Rattle.faults.specs.Faults.{fault_number, fault_or_0}
use Rattle.faults.proofs.Laws.{then-zero, gives-zero, some_number}
use Rattle.operation.proofs.Contents.{Contents, contents_of, jumps}
use Rattle.record.specs.Record.{◌gives◌, byte_at, payload_length, payload, cut, operation_of, nop, last_jumps, operation_fault}
use Rattle.record.specs.Record.{Accepted, Reading, accepted, refused, refused_or, push, operations}
use Rattle.fields.proofs.Laws.{Whole, not_cut, payload_head}

-- ---- an operation without a fault

pub record Good_at (m : Memory) (s : List ℕ) (at n : ℕ) (jumped : Bool) : Type 0 where
  pub whole : Whole s at (payload_length s at)
  pub room : n < 32
  pub before : jumped ≡ false
  pub contents : Contents m (payload s at)

pub good : (m : Memory) (s : List ℕ) (at n : ℕ) (jumped : Bool) → operation_fault m s at n jumped ≡ 0 → Good_at m s at n jumped
unfolding operation_fault
good m s at n jumped e =
    let a = then-zero (cut s at gives 1) _ e in
    let b = then-zero (not (eqb (byte_at s at) 5) gives 2) _ a.1 in
    let c = then-zero (leb 32 n gives 8) _ b.1 in
    let d = then-zero (jumped gives 9) _ c.1 in
    record {
      whole = not_cut s at (gives-zero _ 0 a.0);
      room = leb-false 32 n (gives-zero _ 7 c.0);
      before = gives-zero _ 8 d.0;
      contents = contents_of m (payload s at) d.1;
    }

-- ---- one more step

-- a field with this fault is where reading stops
pub refuse : {f : ℕ} (g place : ℕ) (next : Reading) → f ≡ g → (f ≡ 0 → ⊥) → refused f place ≡ refused_or g place next
unfolding refused_or
refuse {f} zero place next e ne = absurd (ne e)
refuse {f} (suc g) place next e ne = rw e

-- a field without a fault is passed
pub pass : {f : ℕ} (g place : ℕ) (next : Reading) → f ≡ g → f ≡ 0 → next ≡ refused_or g place next
unfolding refused_or
pass {f} g place next e z = let y : g ≡ 0 = sym e ∙ z in rw y

-- a fault, at this place
abbrev pub placed : {A : Type 0} → ℕ → Result A Fault → Result A Refusal
placed p (Ok x) = Ok x
placed p (Err f) = Err (record { fault = f; place = p })

pub found_at : {A : Type 0} (q : Result A Fault) (m : Result A Refusal) (e : Refusal) (p : ℕ) → m ≡ placed p q → m ≡ Err e
    → (fault_or_0 q ≡ fault_number e.fault) × (e.place ≡ p)
found_at (Ok x) m e p h k = let z : ◌≡◌ {A = ℕ} 0 1 = cc in absurd (omega arith)
found_at (Err f) m e p h k =
    let same : record { fault = f; place = p } ≡ e = cc in
    (ap (λ (r : Refusal). fault_number r.fault) same, sym (ap (λ (r : Refusal). r.place) same))

-- a field's fault, at the field's place, is where reading stops
pub refused_at : {A : Type 0} (q : Result A Fault) (m : Result A Refusal) (e : Refusal) (g p : ℕ) (next : Reading)
    → fault_or_0 q ≡ g → m ≡ placed p q → m ≡ Err e → refused (fault_number e.fault) e.place ≡ refused_or g p next
refused_at q m e g p next w h k =
    let f = found_at q m e p h k in
    ap (refused (fault_number e.fault)) f.1 ∙ refuse g p next (sym f.0 ∙ w) (some_number e.fault)

-- a test that has passed
pub passed : {A : Type 0} (q : Result A Fault) {g : ℕ} → fault_or_0 q ≡ g → true ≡ is_ok q → g ≡ 0
passed (Ok x) w h = sym w
passed (Err f) w h = let z : ◌≡◌ {A = ℕ} 0 1 = cc in absurd (omega arith)

-- a reading that is accepted was not refused at this place
pub not_refused : (f place : ℕ) (next : Reading) → (refused_or f place next).answer ≡ Accepted → (f ≡ 0) × (refused_or f place next ≡ next)
unfolding refused_or
not_refused zero place next e = (refl, refl)
not_refused (suc f) place next e = let z : ◌≡◌ {A = ℕ} 0 1 = cc in absurd (omega arith)

pub last-jumps : (n : ℕ) (ops : List BOp) (o : BOp) → n < length ops → last_jumps (n + 1) (set ops n o) ≡ may_jump o.fast
last-jumps n ops o h = rw (add-one, get_or-set_same ops n o nop h)

-- the fault of the field behind what is read so far
abbrev pub fault_at : List ℕ → ℕ → Block → ℕ
fault_at s at b = operation_fault b.memory s at b.n (last_jumps b.n b.ops)

ends : (k : ℕ) (s : List ℕ) (at : ℕ) (b : Block) → length s ≤ at → accepted b ≡ operations k s at b
unfolding operations
ends zero s at b h = refl
ends (suc k) s at b h = rw (le-leb _ _ h)

pub at-end : (s : List ℕ) (at : ℕ) (b : Block) → length s ≤ at → accepted b ≡ operations (33 - b.n) s at b
at-end s at b h = ends (33 - b.n) s at b h

refuses : (k : ℕ) (s : List ℕ) (at : ℕ) (b : Block) → at < length s → (fault_at s at b ≡ 0 → ⊥)
    → refused (fault_at s at b) at ≡ operations (suc k) s at b
unfolding operations
refuses k s at b h ne = rw (lt-leb (length s) at h) (refuse _ at _ refl ne)

goes_on : (k : ℕ) (s : List ℕ) (at : ℕ) (b : Block) → at < length s → fault_at s at b ≡ 0
    → operations k s (at + 3 + payload_length s at) (push b (operation_of (payload s at))) ≡ operations (suc k) s at b
unfolding operations
goes_on k s at b h e = rw (lt-leb (length s) at h) (pass _ at _ refl e)

fuel : (n : ℕ) → n ≤ 32 → 33 - n ≡ suc (32 - n)
fuel n h = omega arith

pub at_fault : (s : List ℕ) (at : ℕ) (b : Block) → b.n ≤ 32 → at < length s → (fault_at s at b ≡ 0 → ⊥)
    → refused (fault_at s at b) at ≡ operations (33 - b.n) s at b
at_fault s at b m h ne = refuses (32 - b.n) s at b h ne ∙ ap (λ (k : ℕ). operations k s at b) (sym (fuel b.n m))

pub at_operation : (s : List ℕ) (at : ℕ) (b : Block) → b.n < 32 → at < length s → fault_at s at b ≡ 0
    → operations (33 - (b.n + 1)) s (at + 3 + payload_length s at) (push b (operation_of (payload s at))) ≡ operations (33 - b.n) s at b
at_operation s at b m h e =
    let l : b.n ≤ 32 = omega arith in
    let k : 33 - (b.n + 1) ≡ 32 - b.n = omega arith in
    ap (λ (j : ℕ). operations j s (at + 3 + payload_length s at) (push b (operation_of (payload s at)))) k
    ∙ goes_on (32 - b.n) s at b h e
    ∙ ap (λ (j : ℕ). operations j s at b) (sym (fuel b.n l))

-- the loop, left at a fault
pub at_refusal :
    (s : List ℕ) (at : ℕ) (b : Block) (jumped : Bool) (f : Fault)
    → at < length s → b.n ≤ 32 → jumped ≡ last_jumps b.n b.ops
    → fault_number f ≡ operation_fault b.memory s at b.n jumped
    → refused (fault_number f) at ≡ operations (33 - b.n) s at b
at_refusal s at b jumped f inside room before e =
    let same = e ∙ ap (operation_fault b.memory s at b.n) before in
    ap (λ (k : ℕ). refused k at) same ∙ at_fault s at b room inside (λ z. some_number f (same ∙ z))

-- the loop's invariant, one operation on
pub again :
    (s : List ℕ) (at : ℕ) (b : Block) (jumped : Bool) (r : Reading)
    → at < length s → length b.ops ≡ 32 → jumped ≡ last_jumps b.n b.ops
    → operations (33 - b.n) s at b ≡ r
    → operation_fault b.memory s at b.n jumped ≡ 0
    → (o : BOp) → o ≡ operation_of (payload s at)
    → (k : ℕ) → k ≡ byte_at s (at + 3)
    → (size : ℕ) → size ≡ payload_length s at
    → (at + 3 + size ≤ length s)
    × (b.n + 1 ≤ 32)
    × (length (set b.ops b.n o) ≡ 32)
    × (jumping k ≡ last_jumps (b.n + 1) (set b.ops b.n o))
    × (operations (33 - (b.n + 1)) s (at + 3 + size) (push b o) ≡ r)
again s at b jumped r inside full before so_far none o eo k ek size esize =
    let g = good b.memory s at b.n jumped none in
    let h : b.n < length b.ops = omega (arith, g.room, full) in
    let kind : k ≡ byte_at (payload s at) 0 = ek ∙ sym (payload_head s at g.contents.long) in
    let jump = jumps (payload s at) g.contents.kind ∙ ap (λ (q : BOp). may_jump q.fast) (sym eo) in (
      rw esize g.whole.inside,
      omega (arith, g.room),
      length-set b.ops b.n o ∙ full,
      ap jumping kind ∙ jump ∙ sym (last-jumps b.n b.ops o h),
      ap₂ (λ (i : ℕ) (q : BOp). operations (33 - (b.n + 1)) s (at + 3 + i) (push b q)) esize eo
          ∙ at_operation s at b g.room inside (ap (operation_fault b.memory s at b.n) (sym before) ∙ none)
          ∙ so_far,
    )
