-- Constants and sums in temporaries.
--     exec_movz32, mov32_frag                 a 32-bit constant in a register
--     Below, sim-below                        fewer temporaries are known
--     mov32-sim, add_imm-sim                   the steps
use mathlib.Core.Path.{◌≡◌, refl, sym, ap, ◌∙◌, subst}
use mathlib.Core.Logic.{◌≢◌}
use mathlib.Core.Bool.{true, false}
use mathlib.Core.Option.{Option, none, some}
use mathlib.Core.List.{List, [], ◌∷◌, ◌++◌}
use Prim.Native.Nat.{ℕ, ◌+◌, ◌-◌, ◌*◌, ◌/◌, ◌%◌, ◌^◌, ◌<◌}
use native.Mathlib.Nat.{mod-eq_of_lt}
use native.Mathlib.Omega.{arith}
use borrow.Author.Tests.{eqb-true, eqb-false}
use lib.Dec.{eqb, ltb}
use lib.ListN.{length}
use lib.Seq.{set-set}
use Rattle.arm.specs.declared.Size.TheVariants.{W}
use Rattle.arm.specs.declared.Move.TheVariants.{Movn, Movz, Movk}
use Rattle.arm.specs.declared.Instr.{Instr}
use Rattle.arm.specs.declared.Instr.TheVariants.{MoveWide}
use Rattle.block.specs.declared.Block.{Block}
use Rattle.code.specs.Tree.{Depth, code}
use Rattle.code.specs.Machine.{fall, of_eff, go_on, straight, does}
use Rattle.machine.specs.State.{State, R, with_x}
use Rattle.machine.specs.Execute.{Helpers}
use Rattle.machine.proofs.Data.{exec-movz, exec_movn, exec_movk, exec-add, exec-add_imm, exec-sub_imm}
use Rattle.machine.proofs.Registers.{R_same, R_lt}
use Rattle.card.specs.Word.{plus}
use Rattle.lowering.specs.Instrs.{mov32, mov, add_i, sub_i, add}
use Rattle.lowering.specs.Fragments.{add_imm, minus}
use Rattle.lowering.specs.declared.RegCache.{RegCache}
use Rattle.relation.specs.Lines.{arm, of_effect, bare, exec}
use Rattle.relation.specs.Abs.{Abs, upd, with_temp}
use Rattle.relation.specs.Relation.{cls, Sim, Frag}
use Rattle.registers.proofs.Basics.{test, absurd_bool, upd_same, upd_other, cls_lt, sim_at, sim-put_some}
use Rattle.registers.proofs.Frags.{frag_map, frag_nil, frag-one, frag_append}
use Rattle.registers.proofs.Slots.{exec-move}

-- ---- a 32-bit constant
module _ (h : Helpers) (base : ℕ) where
  one : (i : Instr) (s s₁ : State) → exec h i s ≡ fall s₁ → straight (arm h base) (i ∷ []) s ≡ fall s₁
  unfolding straight
  one i s s₁ e = ap (λ o. go_on o (λ s₂. fall s₂)) e

  two : (i j : Instr) (s s₁ s₂ : State) → exec h i s ≡ fall s₁ → exec h j s₁ ≡ fall s₂ → straight (arm h base) (i ∷ j ∷ []) s ≡ fall s₂
  unfolding straight
  two i j s s₁ s₂ e f = ap (λ o. go_on o (λ s₃. go_on (exec h j s₃) (λ s₄. fall s₄))) e ∙ ap (λ o. go_on o (λ s₃. fall s₃)) f

  pub exec_movz32 : (hw imm rd v : ℕ) (s : State) → imm * 2 ^ (16 * hw) ≡ v → exec h (MoveWide W Movz hw imm rd) s ≡ fall (bare (with_x rd v s))
  unfolding exec
  exec_movz32 hw imm rd v s e = ap of_effect (exec-movz h s W hw imm rd) ∙ ap (λ u. fall (bare (with_x rd u s))) e

  exec_movn32 : (imm rd v : ℕ) (s : State) → 2 ^ 32 - 1 - imm * 2 ^ (16 * 0) ≡ v → exec h (MoveWide W Movn 0 imm rd) s ≡ fall (bare (with_x rd v s))
  unfolding exec
  exec_movn32 imm rd v s e = ap of_effect (exec_movn h s W 0 imm rd) ∙ ap (λ u. fall (bare (with_x rd u s))) e

  -- behind the lower half
  exec_movk32 : (imm rd u v : ℕ) (s : State) → rd < length s.x → u % 2 ^ 32 % 2 ^ 16 + imm * 2 ^ 16 ≡ v → exec h (MoveWide W Movk 1 imm rd) (bare (with_x rd u s)) ≡ fall (bare (with_x rd v s))
  unfolding exec
  exec_movk32 imm rd u v s l e =
      ap of_effect (exec_movk h (bare (with_x rd u s)) imm rd)
      ∙ ap (λ y. fall (bare (with_x rd y (with_x rd u s)))) (ap (λ y. y % 2 ^ 16 + imm * 2 ^ 16) (R_same W rd u s l) ∙ e)
      ∙ ap (λ y. fall (record { x = y; sp = s.sp; nzcv = s.nzcv; pc = 0; mem = s.mem; outcomes = s.outcomes; requests = s.requests; count = 0 })) (set-set s.x rd u v)

  pub mov32-runs : (rd v : ℕ) (s : State) → rd < length s.x → v < 2 ^ 32 → straight (arm h base) (mov32 rd v) s ≡ fall (bare (with_x rd v s))
  unfolding mov32
  mov32-runs rd v s l m = test (eqb (v / 65536) 0)
      (λ a. let z : v / 65536 ≡ 0 = eqb-true (v / 65536) 0 a in rw a (one (MoveWide W Movz 0 v rd) s (bare (with_x rd v s)) (exec_movz32 0 v rd v s (omega arith))))
      (λ a. test (eqb (v % 65536) 0)
      (λ c. let z : v % 65536 ≡ 0 = eqb-true (v % 65536) 0 c in rw (a, c) (one (MoveWide W Movz 1 (v / 65536) rd) s (bare (with_x rd v s)) (exec_movz32 1 (v / 65536) rd v s (omega arith))))
      (λ c. test (eqb (v / 65536) 65535)
      (λ d. let z : v / 65536 ≡ 65535 = eqb-true (v / 65536) 65535 d in rw (a, c, d) (one (MoveWide W Movn 0 (65535 - v % 65536) rd) s (bare (with_x rd v s)) (exec_movn32 (65535 - v % 65536) rd v s (omega arith))))
      (λ d. rw (a, c, d) (two (MoveWide W Movz 0 (v % 65536) rd) (MoveWide W Movk 1 (v / 65536) rd) s (bare (with_x rd (v % 65536) s)) (bare (with_x rd v s))
      (exec_movz32 0 (v % 65536) rd (v % 65536) s (omega arith)) (exec_movk32 (v / 65536) rd (v % 65536) v s l (omega arith))))))

  pub mov32_frag : {n : Depth} (rd v : ℕ) {A B : State → Type 0} → rd < 31 → v < 2 ^ 32 → ((s : State) → A s → length s.x ≡ 31) → ((s : State) → A s → B (bare (with_x rd v s))) → Frag (arm h base) {n = n} (code (mov32 rd v)) A B
  unfolding does
  mov32_frag {n} rd v l m r f = record { runs = λ p s w. (bare (with_x rd v s), ap (of_eff {n = n}) (mov32-runs rd v s (subst (λ k. rd < k) (sym (r s w)) l) m), f s w) }

-- ---- fewer temporaries are known
pub record Below (t' t : ℕ → Option ℕ) : Type 0 where
  pub below : (k u : ℕ) → t' k ≡ some u → t k ≡ some u

no_some : {A : Type 0} (u : ℕ) → none ≡ some u → A
no_some u h = absurd_bool (let z : true ≡ false = cc in z)

pub below_none : (t : ℕ → Option ℕ) (k : ℕ) → Below (upd t k none) t
below_none t k = record {
  below = λ j u h. test (eqb j k)
      (λ e. no_some u (sym (upd_same t k none) ∙ ap (upd t k none) (sym (eqb-true j k e)) ∙ h))
      (λ e. sym (upd_other t k none j (eqb-false j k e)) ∙ h);
}

pub below_some : (t : ℕ → Option ℕ) (k v : ℕ) → Below (upd t k none) (upd t k (some v))
below_some t k v = record {
  below = λ j u h. test (eqb j k)
      (λ e. no_some u (sym (upd_same t k none) ∙ ap (upd t k none) (sym (eqb-true j k e)) ∙ h))
      (λ e. let z : j ≢ k = eqb-false j k e in upd_other t k (some v) j z ∙ sym (upd_other t k none j z) ∙ h);
}

pub below-upd : {t' t : ℕ → Option ℕ} → Below t' t → (k : ℕ) (o : Option ℕ) → Below (upd t' k o) (upd t k o)
below-upd {t'} {t} b k o = record {
  below = λ j u h. test (eqb j k)
      (λ e. let z : j ≡ k = eqb-true j k e in ap (upd t k o) z ∙ upd_same t k o ∙ sym (upd_same t' k o) ∙ ap (upd t' k o) (sym z) ∙ h)
      (λ e. let z : j ≢ k = eqb-false j k e in upd_other t k o j z ∙ b.below j u (sym (upd_other t' k o j z) ∙ h));
}

pub sim-below : {b : Block} {s0 : State} {rc : RegCache} {a : Abs} {s : State} (t' : ℕ → Option ℕ) → Below t' a.t → Sim b s0 rc a s → Sim b s0 rc (record { c = a.c; t = t'; f = a.f }) s
sim-below t' q w = record { kept = w.kept; slots = w.slots; cached = w.cached; temps = λ k v c p. w.temps k v c (q.below k v p); flags = w.flags; done_is = w.done_is }

-- ---- the steps
-- an instruction that writes a temporary
pub temp_frag : {b : Block} {s0 : State} {rc : RegCache} (h : Helpers) (base : ℕ) {n : Depth} (a : Abs) (i : Instr) (d u : ℕ) (f : State → ℕ) → cls d ≡ 0
    → ((s : State) → Sim b s0 rc a s → exec h i s ≡ fall (bare (with_x d (f s) s))) → ((s : State) → Sim b s0 rc a s → f s % 2 ^ 32 ≡ u)
    → Frag (arm h base) {n = n} (code (i ∷ [])) (Sim b s0 rc a) (Sim b s0 rc (with_temp d (some u) a))
temp_frag h base a i d u f q e g = frag-one i (λ s. bare (with_x d (f s) s)) e (λ s w. sim_at (sim-put_some w d (f s) u q (g s w)) 0 0)

module _ {b : Block} {s0 : State} {rc : RegCache} (h : Helpers) (base : ℕ) {n : Depth} (a : Abs) where
  pub mov32-sim : (t v : ℕ) → cls t ≡ 0 → v < 2 ^ 32 → Frag (arm h base) {n = n} (code (mov32 t v)) (Sim b s0 rc a) (Sim b s0 rc (with_temp t (some v) a))
  mov32-sim t v q l = mov32_frag h base t v (cls_lt t q (omega arith)) l (λ s w. w.kept.fixed.registers) (λ s w. sim_at (sim-put_some w t v v q (mod-eq_of_lt l)) 0 0)

cls-nine : cls 9 ≡ 0
unfolding cls
cls-nine = refl

-- what a sum leaves: register 9 may be used
abbrev added : Abs → (d x : ℕ) → Abs
added a d y = with_temp d (some y) (with_temp 9 none a)

module _ {b : Block} {s0 : State} {rc : RegCache} (h : Helpers) (base : ℕ) {n : Depth} (a : Abs) where
  pub add_imm-sim : (d r v x : ℕ) → cls d ≡ 0 → cls r ≡ 0 → r ≢ 9 → v < 2 ^ 32 → a.t r ≡ some x
      → Frag (arm h base) {n = n} (code (add_imm d r v)) (Sim b s0 rc a) (Sim b s0 rc (with_temp d (some (plus x v)) (with_temp 9 none a)))
  unfolding add_imm exec
  add_imm-sim d r v x q p k l t = test (eqb v 0)
      (λ z. let z' : v ≡ 0 = eqb-true v 0 z in test (eqb d r)
      (λ e. rw (z, e) (frag_map frag_nil (nothing (eqb-true d r e) z')))
      (λ e. rw (z, e) (low (temp_frag h base a (mov d r) d (plus x v) (λ s. R W s r) q (λ s w. exec-move h s d r w.kept.fixed.registers) (λ s w. rw (is s w, z') (ap (λ y. y % 2 ^ 32) (omega arith)))))))
      (λ z. let z' : v ≢ 0 = eqb-false v 0 z in test (ltb v 4096)
      (λ e. rw (z, e) (low (temp_frag h base a (add_i d r v) d (plus x v) (λ s. (R W s r + v) % 2 ^ 32) q (λ s w. ap of_effect (exec-add_imm h s W v r d r31 d31)) (λ s w. rw (is s w) (omega arith)))))
      (λ e. test (ltb (minus v) 4096)
      (λ m. rw (z, e, m) (low (temp_frag h base a (sub_i d r (minus v)) d (plus x v) (λ s. (R W s r + (2 ^ 32 - minus v)) % 2 ^ 32) q (λ s w. ap of_effect (exec-sub_imm h s W (minus v) r d (omega arith) r31 d31))
      (λ s w. rw (is s w) (back x v z' l)))))
      (λ m. rw (z, e, m) far)))
    where
      r31 : r < 31
      r31 = cls_lt r p (omega arith)

      d31 : d < 31
      d31 = cls_lt d q (omega arith)

      is : (s : State) → Sim b s0 rc a s → R W s r ≡ x
      is s w = w.temps r x p t

      back : (x v : ℕ) → v ≢ 0 → v < 2 ^ 32 → (x + (2 ^ 32 - (2 ^ 32 - v) % 2 ^ 32)) % 2 ^ 32 % 2 ^ 32 ≡ (x + v) % 2 ^ 32
      back x v h l = omega arith

      low : {f : List Instr} → Frag (arm h base) {n = n} (code f) (Sim b s0 rc a) (Sim b s0 rc (with_temp d (some (plus x v)) a)) → Frag (arm h base) {n = n} (code f) (Sim b s0 rc a) (Sim b s0 rc (added a d (plus x v)))
      low g = frag_map g (λ s w. sim-below (added a d (plus x v)).t (below-upd (below_none a.t 9) d (some (plus x v))) w)

      nothing : d ≡ r → v ≡ 0 → (s : State) → Sim b s0 rc a s → Sim b s0 rc (added a d (plus x v)) s
      nothing e z s w =
          let lt : R W s r < 2 ^ 32 = R_lt W s r in
          let eq : R W s r ≡ x = is s w in
          let same : x ≡ (x + v) % 2 ^ 32 = rw z (omega arith) in
          sim-below (added a d (plus x v)).t (record {
            below = λ j u m. test (eqb j d)
                (λ f. let i : j ≡ d = eqb-true j d f in
                ap a.t (i ∙ e) ∙ t ∙ ap {B = Option ℕ} some same ∙ sym (upd_same (upd a.t 9 none) d (some (plus x v))) ∙ ap (upd (upd a.t 9 none) d (some (plus x v))) (sym i) ∙ m)
                (λ f. (below_none a.t 9).below j u (sym (upd_other (upd a.t 9 none) d (some (plus x v)) j (eqb-false j d f)) ∙ m));
          }) w

      far : Frag (arm h base) {n = n} (code (mov32 9 v ++ (add d r 9 ∷ []))) (Sim b s0 rc a) (Sim b s0 rc (added a d (plus x v)))
      far = frag_map (frag_append (mov32-sim h base a 9 v cls-nine l)
          (temp_frag h base (with_temp 9 (some v) a) (add d r 9) d (plus x v) (λ s. (R W s r + R W s 9) % 2 ^ 32) q (λ s w. ap of_effect (exec-add h s W 9 r d))
          (λ s (w : Sim b s0 rc (with_temp 9 (some v) a) s). rw (w.temps r x p (upd_other a.t 9 (some v) r k ∙ t), w.temps 9 v cls-nine (upd_same a.t 9 (some v))) (omega arith))))
          (λ s w. sim-below (added a d (plus x v)).t (below-upd (below_some a.t 9 v) d (some (plus x v))) w)
