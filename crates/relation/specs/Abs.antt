-- The machine between the card and Arm: the card, the temporaries whose 32 bits are known, and the flags if they are known. Each step of the
-- lowering is a step of it. A proof's device: no statement of demand 3 speaks of it.
use Rattle.std.specs.Prelude.{Bool, true, false, cond, not, ◌&&◌, List, [], ◌∷◌, ℕ, ◌+◌, ◌%◌, ◌^◌, eqb, ltb}
use Rattle.std.proofs.Math.Option.{Option, none, some}
use Rattle.block.specs.declared.Block.{Block}
use Rattle.machine.specs.Bits.{Nzcv, ConditionHolds}
use Rattle.card.specs.Word.{plus}
use Rattle.card.specs.Card.{Card, reg, set_reg, set_sp, set_rets, set_hold, arrive, guard, version_at}
use Rattle.card.specs.Memory.{Access, got, unmet, ask, load, store}
use Rattle.card.specs.Step.{Way, exits, chains, looks_up}
use Rattle.lowering.specs.Steps.{Field, sp, rets, Step}
use Rattle.relation.specs.Data.{Data, data_of}

-- a function with one value changed
unfoldable pub upd : {A : Type 0} → (ℕ → A) → ℕ → A → ℕ → A
upd f k v n = cond (eqb n k) v (f n)

pub record Abs : Type 0 where
  pub c : Card
  pub t : ℕ → Option ℕ
  pub f : Option Nzcv

pub data Then : Type 0 where
  go : Abs → Then
  off : Way → Card → Then
  void : Then

abbrev pub nothing : ℕ → Option ℕ
nothing k = none

-- after a call only the two kept temporaries are known
unfoldable pub kill : (ℕ → Option ℕ) → ℕ → Option ℕ
kill t k = cond (eqb k 23) (t k) (cond (eqb k 24) (t k) none)

abbrev pub known : {A : Type 0} → Option A → (A → Then) → Then
known none f = void
known (some v) f = f v

abbrev pub if_got : Access → (ℕ → Card → Then) → Then
if_got (got v c) f = f v c
if_got unmet f = void

-- ---- instructions on temporaries: a W result is 32 bits
-- register 31 reads as zero
unfoldable pub seen : (ℕ → Option ℕ) → ℕ → Option ℕ
seen t r = cond (eqb r 31) (some 0) (t r)

abbrev pub or_zero : Option ℕ → ℕ
or_zero none = 0
or_zero (some v) = v

abbrev pub is_some : {A : Type 0} → Option A → Bool
is_some none = false
is_some (some v) = true

abbrev pub all_seen : (ℕ → Option ℕ) → List ℕ → Bool
all_seen t [] = true
all_seen t (r ∷ rs) = is_some (seen t r) && all_seen t rs

abbrev pub vals : (ℕ → Option ℕ) → ℕ → ℕ
vals t r = or_zero (seen t r)

abbrev pub or_stays : Option Nzcv → Option Nzcv → Option Nzcv
or_stays none f = f
or_stays (some g) f = some g

-- flags that are not asked for are any
abbrev pub any_flags : Nzcv
any_flags = record { n = false; z = false; c = false; v = false }

abbrev pub flags_for : Bool → Option Nzcv → Option Nzcv
flags_for true f = f
flags_for false f = some any_flags

abbrev pub if_all : Bool → Then → Then
if_all true r = r
if_all false r = void

unfoldable pub mdata : Data → Abs → Then
mdata d a =
    if_all (all_seen a.t d.reads)
    (known (flags_for d.asks a.f)
    (λ g. go (record { c = a.c; t = upd a.t d.rd (some (d.value (vals a.t) g % 2 ^ 32)); f = or_stays (d.flags (vals a.t)) a.f })))

abbrev pub mins : Option Data → Abs → Then
mins none a = void
mins (some d) a = mdata d a

-- ---- fields
abbrev pub field_of : Field → Card → ℕ
field_of sp c = c.sp
field_of rets c = c.rets

abbrev pub set_field : Field → ℕ → Card → Card
set_field sp v c = set_sp v c
set_field rets v c = set_rets v c

abbrev pub with_temp : ℕ → Option ℕ → Abs → Abs
with_temp k o a = record { c = a.c; t = upd a.t k o; f = a.f }

abbrev pub with_card : Card → Abs → Abs
with_card c a = record { c = c; t = a.t; f = a.f }

-- ---- a step
unfoldable pub mstep : Block → (flash : List ℕ) → (limit : ℕ) → Step → Abs → Then
mstep b flash limit (Step.ld_reg t r) a = go (with_temp t (some (reg a.c r)) a)
mstep b flash limit (Step.st_reg t r) a = known (a.t t) (λ v. go (with_card (set_reg r v a.c) a))
mstep b flash limit (Step.ld_field f t) a = go (with_temp t (some (field_of f a.c)) a)
mstep b flash limit (Step.st_field f t) a = known (a.t t) (λ v. go (with_card (set_field f v a.c) a))
mstep b flash limit (Step.mov32 t v) a = go (with_temp t (some v) a)
mstep b flash limit (Step.add_imm d s v) a = known (a.t s) (λ x. go (with_temp d (some (plus x v)) (with_temp 9 none a)))
mstep b flash limit (Step.ins i) a = mins (data_of i) a
mstep b flash limit (Step.load w signed i) a =
    known (a.t 0) (λ p. if_got (load b.memory flash i w signed p a.c) (λ v c. go (record { c = c; t = upd (kill a.t) 0 (some v); f = none })))
mstep b flash limit (Step.store w alone i) a =
    known (a.t 0) (λ p. known (a.t 1) (λ v. if_got (store b.memory i w alone p v a.c)
    (λ u c. go (record { c = c; t = kill a.t; f = none }))))
mstep b flash limit (Step.check_brk glue pc count) a =
    cond (eqb a.c.brk 0) (go (with_temp 9 none a)) (off exits (arrive pc count (set_hold (cond glue 1 a.c.hold) a.c)))
mstep b flash limit (Step.chain pc count) a = off (chains 0) (arrive pc count a.c)
mstep b flash limit (Step.fork k pc target count) a =
    known a.f (λ g. cond (ConditionHolds k g) (off (chains 1) (arrive target count a.c)) (off (chains 0) (arrive pc count a.c)))
mstep b flash limit (Step.ind t count brk) a =
    known (a.t t) (λ p. cond (brk && not (eqb a.c.brk 0)) (off exits (arrive p count a.c)) (off looks_up (arrive p count a.c)))
mstep b flash limit (Step.limit pc count) a =
    cond (ltb limit (a.c.done + count)) (off exits (arrive pc 0 a.c)) (go (record { c = a.c; t = upd a.t 9 none; f = none }))
mstep b flash limit (Step.guard at helper pc) a =
    cond (eqb a.c.version (version_at a.c.guards at))
    (go (record { c = a.c; t = kill a.t; f = none }))
    (if_got (ask (guard at) a.c.outcomes a.c)
    (λ v c. cond (eqb v 0) (off exits (arrive pc 0 c)) (go (record { c = c; t = kill a.t; f = none }))))

abbrev pub and_then : Then → (Abs → Then) → Then
and_then (go a) f = f a
and_then (off w c) f = off w c
and_then void f = void

unfoldable pub mrun : Block → (flash : List ℕ) → (limit : ℕ) → List Step → Abs → Then
mrun b flash limit [] a = go a
mrun b flash limit (s ∷ ss) a = and_then (mstep b flash limit s a) (λ a₁. mrun b flash limit ss a₁)
