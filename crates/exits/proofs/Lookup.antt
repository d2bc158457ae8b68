-- Leaving for a pc in a register: by the jump table, or by the common exit.
--     Bound                       the pc is in w12 and the count in w26
--     found-exits, back_frag      the jump to a table's body, and the way back
--     ind-meets                   the step
use mathlib.Core.Path.{◌≡◌, refl, sym, ap, ◌∙◌, subst}
use mathlib.Core.Logic.{◌≢◌}
use mathlib.Core.Bool.{Bool, true, false, cond, not, ◌&&◌}
use mathlib.Core.Option.{Option, none, some}
use mathlib.Core.List.{List, [], ◌∷◌, ◌++◌}
use Prim.Native.Nat.{ℕ, ◌+◌, ◌*◌, ◌/◌, ◌%◌, ◌^◌, ◌≤◌, ◌<◌}
use native.Mathlib.Nat.{mod-eq_of_lt}
use native.Mathlib.Omega.{arith}
use borrow.Author.Tests.{eqb-true, eqb-false}
use lib.Dec.{eqb}
use lib.ListN.{length}
use Rattle.arm.specs.declared.Size.TheVariants.{W, X}
use Rattle.arm.specs.declared.Test.TheVariants.{Nonzero as nonzero}
use Rattle.block.specs.declared.Block.{Block}
use Rattle.block.specs.Checked.{Checked}
use Rattle.code.specs.Items.{b_cond, cb}
use Rattle.code.specs.Tree.{Depth, under, inner, code, lit}
use Rattle.code.specs.Machine.{fall, stop, go_on, of_eff, straight, does}
use Rattle.machine.specs.Bits.{IsZero, ConditionHolds}
use Rattle.machine.specs.State.{State, R, with_x, with_flags, context, table}
use Rattle.machine.specs.Memory.{read_le, bytes_of, base_of, size_of}
use Rattle.machine.specs.Execute.{Helpers, execute}
use Rattle.machine.proofs.Bytes.{read_lt}
use Rattle.machine.proofs.Data.{exec-add_imm, exec-add_lsl, exec_cmp, exec-ubfx}
use Rattle.machine.proofs.Flags.{compared, ne_means}
use Rattle.machine.proofs.Registers.{R_same, R_other, R_lt}
use Rattle.card.specs.Card.{Card, arrive}
use Rattle.card.specs.Step.{exits, looks_up}
use Rattle.card.specs.Word.{plus}
use Rattle.lowering.specs.declared.RegCache.{RegCache}
use Rattle.lowering.specs.Instrs.{CPU, CTX, DONE, NE, mov, add_i, add_xLsl, cmp, ubfx, ldr, ldr_x, str, br}
use Rattle.lowering.specs.Cache.{flush}
use Rattle.lowering.specs.Steps.{Step}
use Rattle.lowering.specs.Fragments.{OFF_BRK, brk_first, ind, step_code, step_cache}
use Rattle.demand.specs.Claim.{entry_at, guest_at, body_at, slot_of}
use Rattle.relation.specs.Lines.{jumps, arm, of_effect, bare, exec, taken}
use Rattle.relation.specs.Abs.{Abs, known, off, mstep}
use Rattle.relation.specs.Relation.{pc_of, cls, Body, Sim, Leaves, Frag, Outs, Meets}
use Rattle.relation.specs.Fits.{StepFits}
use Rattle.registers.proofs.Basics.{test, absurd_bool, cls_ne}
use Rattle.registers.proofs.Frags.{frag_map, frag_pre, frag_nil, frag-one, frag_cons, frag_append, frag_then, frag_lit}
use Rattle.registers.proofs.Access.{apart-now, count-now, size-now, ldr_at, ldr_x_at, ldr-now}
use Rattle.registers.proofs.Slots.{exec-move}
use Rattle.exits.proofs.Ways.{Goes, Exits, frag_stays, goes_to, goes_then, goes-front, goes_map, frag_caught, exits_pre, exits_with, exits-then, exits-front, exits-block, exits_outs_exits, exits_outs_looks_up, exits_here}
use Rattle.exits.proofs.Leaving.{Leaving, leaving_at, leaving-x, leaving-flags, leaving_done, leaving-arrive, leaving-flush, pc_frag}

-- the pc is in w12 and the count in w26
pub record Bound (b : Block) (s0 : State) (c : Card) (done p : ℕ) (s : State) : Type 0 where
  pub leaving : Leaving b s0 c (pc_of b s0) (slot_of s0) done s
  pub target : R W s 12 ≡ p

module _ {b : Block} {s0 : State} {c : Card} {done p : ℕ} {s : State} (w : Bound b s0 c done p s) where
  bound-x : (k v : ℕ) → cls k ≡ 0 → 12 ≢ k → Bound b s0 c done p (with_x k v s)
  unfolding cls
  bound-x k v q n = record { leaving = leaving-x w.leaving k v (λ e. absurd (omega arith)) (cls_ne 26 k {a = 4} refl q (omega arith)); target = R_other W k v s 12 n ∙ w.target }

  bound_at : Bound b s0 c done p (bare s)
  bound_at = record { leaving = leaving_at w.leaving 0 0; target = w.target }

  reg_lt : (k : ℕ) → k < 31 → k < length s.x
  reg_lt k l = omega (arith, w.leaving.kept.fixed.registers)

-- ---- the table's entry
module _ {b : Block} {h : Helpers} {s0 : State} (B : Body b h s0) (p : ℕ) where
  entry_in : entry_at p + 16 ≤ size_of s0.mem table
  entry_in = omega (arith, B.table_in)

  entry_lt : base_of s0.mem table + entry_at p < 2 ^ 64
  entry_lt = omega (arith, entry_in, B.apart.ends table (omega (arith, B.regions)))

module _ {b : Block} {h : Helpers} {s0 : State} (B : Body b h s0) (C : Checked b) (base : ℕ) (n : Depth) (c : Card) (done p : ℕ) (lt : p < 2 ^ 32) where
  -- w10 is the entry's number
  number_frag : Frag (arm h base) {n = n} (code (ubfx 10 12 1 14 ∷ [])) (Bound b s0 c done p) (λ s. Bound b s0 c done p s × (R X s 10 ≡ p / 2 % 16384))
  unfolding cls exec
  number_frag = frag-one (ubfx 10 12 1 14) (λ s. bare (with_x 10 (R W s 12 / 2 ^ 1 % 2 ^ 14) s)) (λ s w. ap of_effect (exec-ubfx h s W 1 14 12 10 (omega arith)))
      (λ s w. (bound_at (bound-x w 10 (R W s 12 / 2 ^ 1 % 2 ^ 14) refl (omega arith)), R_same X 10 (R W s 12 / 2 ^ 1 % 2 ^ 14) s (reg_lt w 10 (omega arith)) ∙ rw w.target (omega arith)))

  -- x11 is the table
  table_frag : Frag (arm h base) {n = n} (lit 11 b.addresses.table) (λ s. Bound b s0 c done p s × (R X s 10 ≡ p / 2 % 16384))
      (λ s. Bound b s0 c done p s × (R X s 10 ≡ p / 2 % 16384) × (R X s 11 ≡ b.addresses.table))
  unfolding cls
  table_frag = frag_lit 11 b.addresses.table
      (λ s w. (
        bound-x w.0 11 b.addresses.table refl (omega arith),
        R_other X 11 b.addresses.table s 10 (omega arith) ∙ w.1,
        R_same X 11 b.addresses.table s (reg_lt w.0 11 (omega arith)) ∙ mod-eq_of_lt C.addresses.table,
      ))

  -- x11 is the entry
  entry_frag : Frag (arm h base) {n = n} (code (add_xLsl 11 11 10 4 ∷ [])) (λ s. Bound b s0 c done p s × (R X s 10 ≡ p / 2 % 16384) × (R X s 11 ≡ b.addresses.table))
      (λ s. Bound b s0 c done p s × (R X s 11 ≡ base_of s0.mem table + entry_at p))
  unfolding cls exec
  entry_frag = frag-one (add_xLsl 11 11 10 4) (λ s. bare (with_x 11 ((R X s 11 + R X s 10 * 2 ^ 4) % 2 ^ 64) s)) (λ s w. ap of_effect (exec-add_lsl h s X 10 4 11 11))
      (λ s w. (
        bound_at (bound-x w.0 11 ((R X s 11 + R X s 10 * 2 ^ 4) % 2 ^ 64) refl (omega arith)),
        R_same X 11 ((R X s 11 + R X s 10 * 2 ^ 4) % 2 ^ 64) s (reg_lt w.0 11 (omega arith)) ∙ rw (w.1, w.2) (omega (arith, entry_lt B p, B.table-at)),
      ))

  -- a load from the entry
  module _ (s : State) (w : Bound b s0 c done p s) (e : R X s 11 ≡ base_of s0.mem table + entry_at p) where
    there : R X s 11 ≡ base_of s.mem table + entry_at p
    there = e ∙ ap (λ y. y + entry_at p) (sym (w.leaving.kept.others.alike.base table))

    read-guest : exec h (ldr 13 11 0) s ≡ fall (bare (with_x 13 (guest_at s0 p) s))
    read-guest =
        ldr_at h s (apart-now B w.leaving.kept) 11 table (entry_at p) 0 (omega (arith, count-now B w.leaving.kept)) (omega arith) there 13 refl
        (omega (arith, size-now B w.leaving.kept table, entry_in B p))
        ∙ ap (λ y. fall (bare (with_x 13 (read_le y (entry_at p + 0) 4) s))) w.leaving.kept.others.table_is
        ∙ ap (λ y. fall (bare (with_x 13 (read_le (bytes_of s0.mem table) y 4) s))) (omega arith)

    read-body : exec h (ldr_x 9 11 8) s ≡ fall (bare (with_x 9 (body_at s0 p) s))
    read-body =
        ldr_x_at h s (apart-now B w.leaving.kept) 11 table (entry_at p) 8 (omega (arith, count-now B w.leaving.kept)) (omega arith) there 9 refl
        (omega (arith, size-now B w.leaving.kept table, entry_in B p))
        ∙ ap (λ y. fall (bare (with_x 9 (read_le y (entry_at p + 8) 8) s))) w.leaving.kept.others.table_is

  -- the entry's guest address, compared
  guest_frag : Frag (arm h base) {n = n} (code (add_xLsl 11 11 10 4 ∷ ldr 13 11 0 ∷ cmp 13 12 ∷ [])) (λ s. Bound b s0 c done p s × (R X s 10 ≡ p / 2 % 16384) × (R X s 11 ≡ b.addresses.table))
      (λ s. Bound b s0 c done p s × (R X s 11 ≡ base_of s0.mem table + entry_at p) × (s.nzcv ≡ compared W (guest_at s0 p) p))
  unfolding cls exec
  guest_frag = frag_cons entry_frag
      (frag_cons {B = λ s. Bound b s0 c done p s × (R X s 11 ≡ base_of s0.mem table + entry_at p) × (R W s 13 ≡ guest_at s0 p)}
      (frag-one (ldr 13 11 0) (λ s. bare (with_x 13 (guest_at s0 p) s)) (λ s w. read-guest s w.0 w.1)
      (λ s w. (
        bound_at (bound-x w.0 13 (guest_at s0 p) refl (omega arith)),
        R_other X 13 (guest_at s0 p) s 11 (omega arith) ∙ w.1,
        R_same W 13 (guest_at s0 p) s (reg_lt w.0 13 (omega arith)) ∙ mod-eq_of_lt (read_lt (bytes_of s0.mem table) (entry_at p) 4),
      )))
      (frag-one (cmp 13 12) (λ s. bare (with_flags (compared W (R W s 13) (R W s 12)) s)) (λ s w. ap of_effect (exec_cmp h s W 12 13 w.0.leaving.kept.fixed.registers))
      (λ s w. (
        record { leaving = leaving_at (leaving-flags w.0.leaving (compared W (R W s 13) (R W s 12))) 0 0; target = w.0.target },
        w.1,
        ap (λ y. compared W y (R W s 12)) w.2 ∙ ap (λ y. compared W (guest_at s0 p) y) w.0.target,
      ))))

  asks : (s : State) → s.nzcv ≡ compared W (guest_at s0 p) p → taken (b_cond NE) s ≡ not (eqb (guest_at s0 p) p)
  unfolding taken
  asks s e = ap (ConditionHolds 1) e ∙ ne_means W (guest_at s0 p) p (read_lt (bytes_of s0.mem table) (entry_at p) 4) lt

  -- ---- the table has the pc
  jump_is : (s : State) → exec h (br 9) s ≡ stop (jumps (R X s 9 % 2 ^ 64) (bare s))
  unfolding exec execute
  jump_is s = refl

  pub found-exits : c.pc ≡ p → c.done ≡ done → guest_at s0 p ≡ p
      → Exits h base b s0 {n = n} (code (ldr_x 9 11 8 ∷ br 9 ∷ [])) (λ s. Bound b s0 c done p s × (R X s 11 ≡ base_of s0.mem table + entry_at p)) looks_up c (λ p. 0)
  unfolding does straight cls
  found-exits e d g = record {
    leaves = λ q s w.
        let s₁ : State = bare (with_x 9 (body_at s0 p) s) in
        let v : Bound b s0 c done p s₁ = bound_at (bound-x w.0 9 (body_at s0 p) refl (omega arith)) in
        let k : R X s₁ 9 ≡ body_at s0 p = R_same X 9 (body_at s0 p) s (reg_lt w.0 9 (omega arith)) ∙ mod-eq_of_lt (read_lt (bytes_of s0.mem table) (entry_at p + 8) 8) in
        subst (λ o. Leaves {n = n} b s0 looks_up c ((base + 4 * 0) % 2 ^ 64) (of_eff (go_on o (λ s₂. go_on (exec h (br 9) s₂) (λ s₃. fall s₃))))) (sym (read-body s w.0 w.1))
        (subst (λ o. Leaves {n = n} b s0 looks_up c ((base + 4 * 0) % 2 ^ 64) (of_eff (go_on o (λ s₃. fall s₃)))) (sym (jump_is s₁))
        (record {
          kept = v.leaving.kept;
          home = v.leaving.home;
          pc_is = v.target ∙ sym e;
          done_is = v.leaving.done_is ∙ sym d;
          found = rw e g;
          to_is = ap (λ y. y % 2 ^ 64) k ∙ mod-eq_of_lt (read_lt (bytes_of s0.mem table) (entry_at p + 8) 8) ∙ ap (body_at s0) (sym e);
        }));
  }

  -- ---- back
  pub back_frag : c.pc ≡ p → c.done ≡ done
      → Frag (arm h base) {n = n} (code (str 12 CPU b.layout.pc ∷ mov 0 DONE ∷ [])) (Bound b s0 c done p)
      (λ s. Leaving b s0 c c.pc (slot_of s0) done s × (R W s 0 ≡ c.done))
  unfolding cls
  back_frag e d = frag_cons
      (frag_pre (λ s v. (v.leaving, v.target ∙ sym e)) (pc_frag B C base 12 c.pc))
      (frag-one (mov 0 DONE) (λ s. bare (with_x 0 (R W s 26) s)) (λ s v. exec-move h s 0 26 v.kept.fixed.registers)
      (λ s v. (
        leaving_at (leaving-x v 0 (R W s 26) (λ q. absurd (omega arith)) (omega arith)) 0 0,
        R_same W 0 (R W s 26) s (omega (arith, v.kept.fixed.registers)) ∙ ap (λ y. y % 2 ^ 32) v.done_is ∙ mod-eq_of_lt (subst (λ y. y < 2 ^ 32) v.done_is (R_lt W s 26)) ∙ sym d,
      )))

-- ---- the step
module _ {b : Block} {h : Helpers} {s0 : State} (B : Body b h s0) (C : Checked b) (base : ℕ) (n : Depth) (flash : List ℕ) (limit : ℕ) (rc : RegCache) (a : Abs) where
  -- where the pc goes to w12, and the count grows
  bound_frag : (t p count : ℕ) → cls t ≡ 0 → a.t t ≡ some p → p < 2 ^ 32
      → Frag (arm h base) {n = n} (code (flush b.layout rc ++ (mov 12 t ∷ add_i DONE DONE count ∷ []))) (Sim b s0 rc a) (Bound b s0 (arrive p count a.c) (plus a.c.done count) p)
  unfolding cls exec
  bound_frag t p count q e l = frag_append (leaving-flush B C base rc a)
      (frag_cons {B = Bound b s0 (arrive p count a.c) a.c.done p}
      (frag-one (mov 12 t) (λ s. bare (with_x 12 (R W s t) s)) (λ s w. exec-move h s 12 t w.1.kept.fixed.registers)
      (λ s w. record {
        leaving = leaving_at (leaving-x (leaving-arrive w.1 p count l) 12 (R W s t) (λ y. absurd (omega arith)) (omega arith)) 0 0;
        target = R_same W 12 (R W s t) s (omega (arith, w.1.kept.fixed.registers)) ∙ ap (λ y. y % 2 ^ 32) (w.0.temps t p q e) ∙ mod-eq_of_lt l;
      }))
      (frag-one (add_i DONE DONE count) (λ s. bare (with_x 26 ((R W s 26 + count) % 2 ^ 32) s)) (λ s w. ap of_effect (exec-add_imm h s W count 26 26 (omega arith) (omega arith)))
      (λ s w. record { leaving = leaving_at (leaving_done w.leaving count) 0 0; target = R_other W 26 ((R W s 26 + count) % 2 ^ 32) s 12 (omega arith) ∙ w.target })))

  -- w9 is the break word
  asked_frag : (c : Card) (done p : ℕ) → Frag (arm h base) {n = under n} (code (ldr 9 CTX OFF_BRK ∷ [])) (Bound b s0 c done p) (λ s. Bound b s0 c done p s × (R W s 9 ≡ c.brk))
  unfolding cls
  asked_frag c done p = frag-one (ldr 9 CTX OFF_BRK) (λ s. bare (with_x 9 (read_le (bytes_of s.mem context) 24 4) s))
      (λ s w. ldr-now B w.leaving.kept CTX context 24 refl B.x20 (omega arith) 9 refl (omega (arith, B.context_in)))
      (λ s w. (
        bound_at (bound-x w 9 (read_le (bytes_of s.mem context) 24 4) refl (omega arith)),
        R_same W 9 (read_le (bytes_of s.mem context) 24 4) s (reg_lt w 9 (omega arith)) ∙ ap (λ y. y % 2 ^ 32) w.leaving.kept.ctx.brk_is ∙ mod-eq_of_lt w.leaving.kept.small.brk_lt,
      ))

  asks-brk : (c : Card) (s : State) → R W s 9 ≡ c.brk → taken (cb W nonzero 9) s ≡ not (eqb c.brk 0)
  unfolding taken
  asks-brk c s e = ap (λ y. not (IsZero y)) e

  -- the break word is not asked for, or is 0
  unset_frag : (c : Card) (done p : ℕ) (brk : Bool) → (brk && not (eqb c.brk 0)) ≡ false → Frag (arm h base) {n = under n} (brk_first brk) (Bound b s0 c done p) (Bound b s0 c done p)
  unfolding brk_first
  unset_frag c done p false e = frag_nil
  unset_frag c done p true e = frag_then (asked_frag c done p) (frag_map (frag_stays (cb W nonzero 9) inner (λ s w. asks-brk c s w.1 ∙ e)) (λ s w. w.0))

  set-goes : (c : Card) (done p : ℕ) (brk : Bool) → (brk && not (eqb c.brk 0)) ≡ true → Goes (arm h base) {n = under n} (brk_first brk) (Bound b s0 c done p) inner (Bound b s0 c done p)
  unfolding brk_first
  set-goes c done p false e = absurd_bool (sym e)
  set-goes c done p true e = goes_then (asked_frag c done p) (goes_map (goes_to (cb W nonzero 9) inner (λ s w. asks-brk c s w.1 ∙ e)) (λ s w. w.0))

  module _ (t p count : ℕ) (brk : Bool) (q : cls t ≡ 0) (e : a.t t ≡ some p) where
    small : (s : State) → Sim b s0 rc a s → p < 2 ^ 32
    small s w = subst (λ y. y < 2 ^ 32) (w.temps t p q e) (R_lt W s t)

    ind-set : (brk && not (eqb a.c.brk 0)) ≡ true → Outs h base b s0 {n = n} (ind b rc t count brk) (Sim b s0 rc a) exits (arrive p count a.c)
    unfolding ind
    ind-set k =
        let c : Card = arrive p count a.c in
        let d : ℕ = plus a.c.done count in
        exits_outs_exits {t = λ y. 0} (exits_with (λ s w.
        let l : p < 2 ^ 32 = small s w in
        exits-then (bound_frag t p count q e l)
        (exits-then (frag_caught (goes-front (set-goes c d p brk k)))
        (exits-then (back_frag B C base n c d p l refl refl)
        (exits_here {t = λ y. 0} (λ y s₁ w₁. record { kept = w₁.0.kept; home = w₁.0.home; done_is = w₁.1; missed = tt }))))))

    ind-found : (brk && not (eqb a.c.brk 0)) ≡ false → eqb (guest_at s0 p) p ≡ true → Outs h base b s0 {n = n} (ind b rc t count brk) (Sim b s0 rc a) looks_up (arrive p count a.c)
    unfolding ind
    ind-found k g =
        let c : Card = arrive p count a.c in
        let d : ℕ = plus a.c.done count in
        exits_outs_looks_up {t = λ y. 0} (exits_with (λ s w.
        let l : p < 2 ^ 32 = small s w in
        exits-then (bound_frag t p count q e l)
        (exits-front
        (exits-block
        (exits-then (unset_frag c d p brk k)
        (exits-then (number_frag B C base (under n) c d p l)
        (exits-then (table_frag B C base (under n) c d p l)
        (exits-then (guest_frag B C base (under n) c d p l)
        (exits-then (frag_stays (b_cond NE) inner (λ s₁ w₁. asks B C base (under n) c d p l s₁ w₁.2 ∙ ap not g))
        (exits_pre (λ s₁ w₁. (w₁.0, w₁.1)) (found-exits B C base (under n) c d p l refl refl (eqb-true (guest_at s0 p) p g))))))))))))

    ind-missed : (brk && not (eqb a.c.brk 0)) ≡ false → eqb (guest_at s0 p) p ≡ false → Outs h base b s0 {n = n} (ind b rc t count brk) (Sim b s0 rc a) looks_up (arrive p count a.c)
    unfolding ind
    ind-missed k g =
        let c : Card = arrive p count a.c in
        let d : ℕ = plus a.c.done count in
        exits_outs_looks_up {t = λ y. 0} (exits_with (λ s w.
        let l : p < 2 ^ 32 = small s w in
        exits-then (bound_frag t p count q e l)
        (exits-then
        (frag_caught
        (goes_then (unset_frag c d p brk k)
        (goes_then (number_frag B C base (under n) c d p l)
        (goes_then (table_frag B C base (under n) c d p l)
        (goes_then (guest_frag B C base (under n) c d p l)
        (goes-front (goes_map (goes_to (b_cond NE) inner (λ s₁ w₁. asks B C base (under n) c d p l s₁ w₁.2 ∙ ap not g)) (λ s₁ w₁. w₁.0))))))))
        (exits-then (back_frag B C base n c d p l refl refl)
        (exits_here {t = λ y. 0} (λ y s₁ w₁. record { kept = w₁.0.kept; home = w₁.0.home; done_is = w₁.1; missed = eqb-false (guest_at s0 p) p g }))))))

  pub ind-meets : (t count : ℕ) (brk : Bool) → StepFits (Step.ind t count brk)
      → Meets h base b s0 rc a {n = n} (step_code b rc (Step.ind t count brk)) (step_cache rc (Step.ind t count brk)) (mstep b flash limit (Step.ind t count brk) a)
  unfolding StepFits step_code step_cache mstep
  ind-meets t count brk f = by (a.t t) refl
    where
      by : (o : Option ℕ) → a.t t ≡ o → Meets h base b s0 rc a {n = n} (step_code b rc (Step.ind t count brk)) rc
          (known o (λ p. cond (brk && not (eqb a.c.brk 0)) (off exits (arrive p count a.c)) (off looks_up (arrive p count a.c))))
      by none e = tt
      by (some p) e = test (brk && not (eqb a.c.brk 0))
          (λ k. rw k (ind-set t p count brk f.0 e k))
          (λ k. rw k (test (eqb (guest_at s0 p) p) (λ g. ind-found t p count brk f.0 e k g) (λ g. ind-missed t p count brk f.0 e k g)))
