-- The relation where a register or the flags change.
--     test, upd_same, upd_other           tests with their facts, and functions with one value changed
--     cls_ne, host-cls, host_inj          what the host registers serve for
--     View, sim_view, view_sim            the relation over any slots; that of a register cache
--     kept_to                             what of the state the relation is about
--     put, put_some, put_none             a temporary is written
use mathlib.Core.Path.{◌≡◌, refl, sym, ap, ◌∙◌, subst, fun_ext}
use mathlib.Core.Logic.{◌≢◌}
use mathlib.Core.Bool.{Bool, true, false, cond}
use mathlib.Core.Option.{Option, none, some}
use mathlib.Core.List.{List, [], ◌∷◌}
use Prim.Native.Nat.{ℕ, zero, suc, ◌-◌, ◌%◌, ◌^◌, ◌≤◌, ◌<◌}
use native.Mathlib.Omega.{arith}
use borrow.Author.Tests.{eqb-true, eqb-false, eq-eqb, ne_eqb, ltb-true, ltb-false}
use lib.Dec.{eqb, ltb}
use lib.ListN.{length, get_or, set, length-set, get_or-eq_default}
use lib.Seq.{get_or-set_other}
use Rattle.arm.specs.declared.Size.TheVariants.{W}
use Rattle.block.specs.declared.Layout.{Layout}
use Rattle.block.specs.declared.Block.{Block}
use Rattle.machine.specs.Bits.{Nzcv}
use Rattle.machine.specs.State.{State, R, with_x, with_flags}
use Rattle.machine.proofs.Registers.{R_same, R_other}
use Rattle.card.specs.Card.{Card}
use Rattle.lowering.specs.declared.RegCache.{RegCache}
use Rattle.lowering.specs.Cache.{host}
use Rattle.relation.specs.Lines.{at}
use Rattle.relation.specs.Abs.{Abs, upd, with_temp}
use Rattle.demand.specs.Claim.{slot_of}
use Rattle.relation.specs.Relation.{pc_of, cls, Kept, Cached, Slots, Sim, guest_of, dirty_of}

-- one of two numbers that a test tells apart
pub test {ℓ} : {P : Type ℓ} (b : Bool) → (b ≡ true → P) → (b ≡ false → P) → P
test true f g = f refl
test false f g = g refl

pub absurd_bool : {A : Type 0} → true ≡ false → A
absurd_bool h = let z : ◌≡◌ {A = ℕ} 0 1 = cc in absurd (omega arith)

-- ---- a function with one value changed
module _ {A : Type 0} (f : ℕ → A) (i : ℕ) (v : A) where
  pub upd_same : upd f i v i ≡ v
  unfolding upd
  upd_same = rw (eq-eqb i i refl)

  pub upd_other : (q : ℕ) → q ≢ i → upd f i v q ≡ f q
  unfolding upd
  upd_other q h = rw (ne_eqb q i h)

pub upd-upd : {A : Type 0} (f : ℕ → A) (i : ℕ) (v w : A) → upd (upd f i v) i w ≡ upd f i w
unfolding upd
upd-upd f i v w = fun_ext (λ q. test (eqb q i) (λ e. rw e) (λ e. rw e))

pub upd_id : {A : Type 0} (f : ℕ → A) (i : ℕ) → upd f i (f i) ≡ f
upd_id f i = fun_ext (λ q. test (eqb q i) (λ e. rw (eqb-true q i e) (upd_same f i (f i))) (λ e. upd_other f i (f i) q (eqb-false q i e)))

-- ---- host registers
pub cls_ne : (k q : ℕ) {a b : ℕ} → cls k ≡ a → cls q ≡ b → a ≢ b → k ≢ q
cls_ne k q p r h e = h (sym p ∙ ap cls e ∙ r)

abbrev classes : List ℕ
classes = 0 ∷ 0 ∷ 0 ∷ 0 ∷ 0 ∷ 1 ∷ 1 ∷ 1 ∷ 1 ∷ 0 ∷ 0 ∷ 0 ∷ 0 ∷ 0 ∷ 1 ∷ 1 ∷ 1 ∷ 1 ∷ 3 ∷ 2 ∷ 2 ∷ 2 ∷ 2 ∷ 0 ∷ 0 ∷ 2 ∷ 4 ∷ 2 ∷ 2 ∷ 2 ∷ 3 ∷ []

-- a register that is used is one of 31
pub cls_lt : (k : ℕ) {m : ℕ} → cls k ≡ m → m ≢ 3 → k < 31
unfolding cls
cls_lt k {m} q h =
    test (ltb k 31) (λ e. ltb-true k 31 e) (λ e. let l : 31 ≤ k = ltb-false k 31 e in absurd (h (sym q ∙ get_or-eq_default classes 3 {n = k} l)))

pub below8 : (P : ℕ → Type 0) → P 0 → P 1 → P 2 → P 3 → P 4 → P 5 → P 6 → P 7 → (i : ℕ) → i < 8 → P i
below8 P a b c d e f g h zero l = a
below8 P a b c d e f g h (suc zero) l = b
below8 P a b c d e f g h (suc (suc zero)) l = c
below8 P a b c d e f g h (suc (suc (suc zero))) l = d
below8 P a b c d e f g h (suc (suc (suc (suc zero)))) l = e
below8 P a b c d e f g h (suc (suc (suc (suc (suc zero))))) l = f
below8 P a b c d e f g h (suc (suc (suc (suc (suc (suc zero)))))) l = g
below8 P a b c d e f g h (suc (suc (suc (suc (suc (suc (suc zero))))))) l = h
below8 P a b c d e f g h (suc (suc (suc (suc (suc (suc (suc (suc n)))))))) l = absurd (omega arith)

pub host-cls : (i : ℕ) → i < 8 → cls (host i) ≡ 1
unfolding cls
host-cls = below8 (λ i. cls (host i) ≡ 1) refl refl refl refl refl refl refl refl

slot_back : ℕ → ℕ
slot_back k = cond (ltb k 10) (k - 5) (k - 10)

slot_back-host : (i : ℕ) → i < 8 → slot_back (host i) ≡ i
unfolding slot_back
slot_back-host = below8 (λ i. slot_back (host i) ≡ i) refl refl refl refl refl refl refl refl

pub host_inj : (i j : ℕ) → i < 8 → j < 8 → host i ≡ host j → i ≡ j
host_inj i j h l e = sym (slot_back-host i h) ∙ ap slot_back e ∙ slot_back-host j l

-- ---- the relation over slots that hold the guest registers g, d of them ahead of the record
pub record View (b : Block) (s0 : State) (g : ℕ → ℕ) (d : ℕ → Bool) (a : Abs) (s : State) : Type 0 where
  pub kept : Kept b s0 a.c (pc_of b s0) (slot_of s0) s
  pub cached : Cached b.layout g d a.c s
  pub temps : (k v : ℕ) → cls k ≡ 0 → a.t k ≡ some v → R W s k ≡ v
  pub flags : (f : Nzcv) → a.f ≡ some f → s.nzcv ≡ f
  pub done_is : R W s 26 ≡ a.c.done

pub view_sim : {b : Block} {s0 : State} {rc : RegCache} {a : Abs} {s : State} → Sim b s0 rc a s → View b s0 (guest_of rc) (dirty_of rc) a s
view_sim w = record { kept = w.kept; cached = w.cached; temps = w.temps; flags = w.flags; done_is = w.done_is }

pub sim_view : {b : Block} {s0 : State} {rc : RegCache} {a : Abs} {s : State} → Slots rc → View b s0 (guest_of rc) (dirty_of rc) a s → Sim b s0 rc a s
sim_view q w = record { kept = w.kept; slots = q; cached = w.cached; temps = w.temps; flags = w.flags; done_is = w.done_is }

-- ---- what of the state it is about: the registers x, and flags, program counter and count may be others
abbrev pub other : State → List ℕ → Nzcv → (pc count : ℕ) → State
other s x f p n = record { x = x; sp = s.sp; nzcv = f; pc = p; mem = s.mem; outcomes = s.outcomes; requests = s.requests; count = n }

pub kept_to : {b : Block} {s0 : State} {c : Card} {pc slot : ℕ} {s : State} → Kept b s0 c pc slot s → (x : List ℕ) (f : Nzcv) (p n : ℕ) → length x ≡ 31
    → ((k : ℕ) → cls k ≡ 2 → get_or x k 0 ≡ get_or s.x k 0) → Kept b s0 c pc slot (other s x f p n)
kept_to w x f p n l h = record {
  fixed = record { registers = l; keeps = λ k q. h k q ∙ w.fixed.keeps k q; sp = w.fixed.sp };
  fields = w.fields;
  ctx = w.ctx;
  others = w.others;
  io = w.io;
  small = w.small;
}

pub kept_at : {b : Block} {s0 : State} {c : Card} {pc slot : ℕ} {s : State} → Kept b s0 c pc slot s → (p n : ℕ) → Kept b s0 c pc slot (at p n s)
kept_at {s = s} w p n = kept_to w s.x s.nzcv p n w.fixed.registers (λ k q. refl)

pub kept-flags : {b : Block} {s0 : State} {c : Card} {pc slot : ℕ} {s : State} → Kept b s0 c pc slot s → (f : Nzcv) → Kept b s0 c pc slot (with_flags f s)
kept-flags {s = s} w f = kept_to w s.x f s.pc s.count w.fixed.registers (λ k q. refl)

-- a register that is not left alone is written
pub kept-x : {b : Block} {s0 : State} {c : Card} {pc slot : ℕ} {s : State} → Kept b s0 c pc slot s → (k v : ℕ) → cls k ≢ 2 → Kept b s0 c pc slot (with_x k v s)
kept-x {s = s} w k v h =
    kept_to w (set s.x k v) s.nzcv s.pc s.count (length-set s.x k v ∙ w.fixed.registers)
    (λ j q. get_or-set_other s.x k j v 0 (λ e. h (ap cls (sym e) ∙ q)))

pub cached_to : {lay : Layout} {g : ℕ → ℕ} {d : ℕ → Bool} {c : Card} {s : State} → Cached lay g d c s → (x : List ℕ) (f : Nzcv) (p n : ℕ)
    → ((i : ℕ) → i < 8 → get_or x (host i) 0 ≡ get_or s.x (host i) 0) → Cached lay g d c (other s x f p n)
cached_to w x f p n h = record { held = λ i l k. ap (λ v. v % 2 ^ 32) (h i l) ∙ w.held i l k; home = w.home; uniq = w.uniq }

module _ {b : Block} {s0 : State} {g : ℕ → ℕ} {d : ℕ → Bool} where
  pub view_at : {a : Abs} {s : State} → View b s0 g d a s → (p n : ℕ) → View b s0 g d a (at p n s)
  view_at {s = s} w p n = record { kept = kept_at w.kept p n; cached = cached_to w.cached s.x s.nzcv p n (λ i l. refl); temps = w.temps; flags = w.flags; done_is = w.done_is }

  -- flags are set, and known or not
  pub view_flags : {a : Abs} {s : State} → View b s0 g d a s → (f : Nzcv) (o : Option Nzcv) → ((u : Nzcv) → o ≡ some u → f ≡ u) → View b s0 g d (record { c = a.c; t = a.t; f = o }) (with_flags f s)
  view_flags {s = s} w f o h =
      record { kept = kept-flags w.kept f; cached = cached_to w.cached s.x f s.pc s.count (λ i l. refl); temps = w.temps; flags = h; done_is = w.done_is }

  -- a temporary is written
  pub put : {a : Abs} {s : State} → View b s0 g d a s → (k v : ℕ) (o : Option ℕ) → cls k ≡ 0 → ((u : ℕ) → o ≡ some u → v % 2 ^ 32 ≡ u) → View b s0 g d (with_temp k o a) (with_x k v s)
  unfolding cls
  put {a} {s} w k v o q h = record {
    kept = kept-x w.kept k v (λ e. absurd (omega arith));
    cached = cached_to w.cached (set s.x k v) s.nzcv s.pc s.count
        (λ i l. get_or-set_other s.x k (host i) v 0 (cls_ne (host i) k (host-cls i l) q (omega arith)));
    temps = λ j u c p. test (eqb j k)
        (λ e. let z : j ≡ k = eqb-true j k e in
        let m : o ≡ some u = sym (upd_same a.t k o) ∙ ap (upd a.t k o) (sym z) ∙ p in
        let l : k < length s.x = subst (λ n. k < n) (sym w.kept.fixed.registers) (cls_lt k q (omega arith)) in
        ap (R W (with_x k v s)) z ∙ R_same W k v s l ∙ h u m)
        (λ e. let z : j ≢ k = eqb-false j k e in
        R_other W k v s j z ∙ w.temps j u c (sym (upd_other a.t k o j z) ∙ p));
    flags = w.flags;
    done_is = R_other W k v s 26 (cls_ne 26 k {a = 4} refl q (omega arith)) ∙ w.done_is;
  }

  pub put_some : {a : Abs} {s : State} → View b s0 g d a s → (k v u : ℕ) → cls k ≡ 0 → v % 2 ^ 32 ≡ u → View b s0 g d (with_temp k (some u) a) (with_x k v s)
  put_some w k v u q h = put w k v (some u) q (λ z p. h ∙ some_of u z p)
    where
      some_of : (u v : ℕ) → some u ≡ some v → u ≡ v
      some_of u v h = cc

  pub put_none : {a : Abs} {s : State} → View b s0 g d a s → (k v : ℕ) → cls k ≡ 0 → View b s0 g d (with_temp k none a) (with_x k v s)
  put_none w k v q = put w k v none q (λ u p. cc)

-- ---- the same for a register cache
module _ {b : Block} {s0 : State} {rc : RegCache} where
  pub sim_at : {a : Abs} {s : State} → Sim b s0 rc a s → (p n : ℕ) → Sim b s0 rc a (at p n s)
  sim_at w p n = sim_view w.slots (view_at (view_sim w) p n)

  pub sim-flags : {a : Abs} {s : State} → Sim b s0 rc a s → (f : Nzcv) (o : Option Nzcv) → ((u : Nzcv) → o ≡ some u → f ≡ u) → Sim b s0 rc (record { c = a.c; t = a.t; f = o }) (with_flags f s)
  sim-flags w f o h = sim_view w.slots (view_flags (view_sim w) f o h)

  pub sim-put_some : {a : Abs} {s : State} → Sim b s0 rc a s → (k v u : ℕ) → cls k ≡ 0 → v % 2 ^ 32 ≡ u → Sim b s0 rc (with_temp k (some u) a) (with_x k v s)
  sim-put_some w k v u q h = sim_view w.slots (put_some (view_sim w) k v u q h)

  pub sim-put_none : {a : Abs} {s : State} → Sim b s0 rc a s → (k v : ℕ) → cls k ≡ 0 → Sim b s0 rc (with_temp k none a) (with_x k v s)
  sim-put_none w k v q = sim_view w.slots (put_none (view_sim w) k v q)
