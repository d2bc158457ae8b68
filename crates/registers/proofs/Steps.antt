-- The straight steps meet the machine between: guest registers, fields, constants, sums and instructions on temporaries.
use mathlib.Core.Path.{◌≡◌, refl, ap, ◌∙◌}
use mathlib.Core.Option.{Option, none, some}
use mathlib.Core.List.{List, [], ◌∷◌}
use Prim.Native.Nat.{ℕ, ◌+◌, ◌%◌, ◌^◌, ◌≤◌, ◌<◌}
use native.Mathlib.Nat.{mod-eq_of_lt}
use native.Mathlib.Omega.{arith}
use Rattle.arm.specs.declared.Size.TheVariants.{X}
use Rattle.arm.specs.declared.Instr.{Instr}
use Rattle.block.specs.declared.Block.{Block}
use Rattle.block.specs.Checked.{Checked}
use Rattle.code.specs.Tree.{Depth, code}
use Rattle.machine.specs.State.{State, R, processor}
use Rattle.machine.specs.Memory.{read_le, bytes_of, size_of}
use Rattle.machine.specs.Execute.{Helpers}
use Rattle.machine.proofs.Registers.{W_of_X}
use Rattle.card.specs.Card.{set_reg, set_sp, set_rets}
use Rattle.card.specs.Word.{plus}
use Rattle.lowering.specs.declared.RegCache.{RegCache}
use Rattle.lowering.specs.Instrs.{CPU, ldr, str}
use Rattle.lowering.specs.Steps.{Field, sp, rets, Step}
use Rattle.lowering.specs.Fragments.{field_at, step_code, step_cache}
use Rattle.relation.specs.Lines.{arm, bare}
use Rattle.relation.specs.Abs.{Abs, known, go, field_of, set_field, with_temp, with_card, mstep}
use Rattle.relation.specs.Relation.{cls, Body, Sim, Frag, Meets}
use Rattle.relation.specs.Fits.{StepFits}
use Rattle.registers.proofs.Basics.{sim_at}
use Rattle.registers.proofs.Frags.{frag-one}
use Rattle.registers.proofs.Access.{wrote, count-now, ldr-now, str-now}
use Rattle.registers.proofs.Fields.{kept-sp, kept-rets, cached-apart, cached-card}
use Rattle.registers.proofs.Slots.{ld_reg_frag, st_reg_frag}
use Rattle.registers.proofs.Constants.{temp_frag, mov32-sim, add_imm-sim}
use Rattle.registers.proofs.Data.{ins-meets}

-- ---- sp and rets
module _ {b : Block} {h : Helpers} {s0 : State} (B : Body b h s0) (C : Checked b) (base : ℕ) {n : Depth} (rc : RegCache) (a : Abs) where
  field-load : (o u t : ℕ) → cls t ≡ 0 → o % 4 ≡ 0 → o + 4 ≤ size_of s0.mem processor → ((s : State) → Sim b s0 rc a s → (read_le (bytes_of s.mem processor) o 4 ≡ u) × (u < 2 ^ 32))
      → Frag (arm h base) {n = n} (code (ldr t CPU o ∷ [])) (Sim b s0 rc a) (Sim b s0 rc (with_temp t (some u) a))
  unfolding cls
  field-load o u t q m l f =
      temp_frag h base a (ldr t CPU o) t u (λ s. read_le (bytes_of s.mem processor) o 4) q
      (λ s w. ldr-now B w.kept CPU processor o refl B.x19 (omega arith) t m l) (λ s w. ap (λ y. y % 2 ^ 32) (f s w).0 ∙ mod-eq_of_lt (f s w).1)

  pub ld_field_frag : (f : Field) (t : ℕ) → cls t ≡ 0 → Frag (arm h base) {n = n} (code (ldr t CPU (field_at b.layout f) ∷ [])) (Sim b s0 rc a) (Sim b s0 rc (with_temp t (some (field_of f a.c)) a))
  ld_field_frag sp t q = field-load b.layout.sp a.c.sp t q C.layout.sp.aligned B.sp_in (λ s w. (w.kept.fields.sp_is, w.kept.small.sp_lt))
  ld_field_frag rets t q = field-load b.layout.rets a.c.rets t q C.layout.rets.aligned B.rets_in (λ s w. (w.kept.fields.rets_is, w.kept.small.rets_lt))

  pub st_field_frag : (f : Field) (t v : ℕ) → cls t ≡ 0 → a.t t ≡ some v → Frag (arm h base) {n = n} (code (str t CPU (field_at b.layout f) ∷ [])) (Sim b s0 rc a) (Sim b s0 rc (with_card (set_field f v a.c) a))
  unfolding cls
  st_field_frag sp t v q e =
      frag-one (str t CPU b.layout.sp) (λ s. bare (wrote processor b.layout.sp 4 (R X s t) s))
      (λ s w. str-now B w.kept CPU processor b.layout.sp refl B.x19 (omega arith) t refl C.layout.sp.aligned B.sp_in)
      (λ s w. sim_at (record {
        kept = kept-sp B w.kept C (R X s t) v (W_of_X s t ∙ w.temps t v q e);
        slots = w.slots;
        cached = cached-card (cached-apart w.cached b.layout.sp (R X s t) (omega (arith, count-now B w.kept)) C.layout.regs-sp) (set_sp v a.c) refl;
        temps = w.temps;
        flags = w.flags;
        done_is = w.done_is;
      }) 0 0)
  st_field_frag rets t v q e =
      frag-one (str t CPU b.layout.rets) (λ s. bare (wrote processor b.layout.rets 4 (R X s t) s))
      (λ s w. str-now B w.kept CPU processor b.layout.rets refl B.x19 (omega arith) t refl C.layout.rets.aligned B.rets_in)
      (λ s w. sim_at (record {
        kept = kept-rets B w.kept C (R X s t) v (W_of_X s t ∙ w.temps t v q e);
        slots = w.slots;
        cached = cached-card (cached-apart w.cached b.layout.rets (R X s t) (omega (arith, count-now B w.kept)) C.layout.regs-rets) (set_rets v a.c) refl;
        temps = w.temps;
        flags = w.flags;
        done_is = w.done_is;
      }) 0 0)

-- ---- the steps
module _ {b : Block} {h : Helpers} {s0 : State} (B : Body b h s0) (C : Checked b) (base : ℕ) (n : Depth) (flash : List ℕ) (limit : ℕ) (rc : RegCache) (a : Abs) where
  pub ld_reg-meets : (t r : ℕ) → StepFits (Step.ld_reg t r) → Meets h base b s0 rc a {n = n} (step_code b rc (Step.ld_reg t r)) (step_cache rc (Step.ld_reg t r)) (mstep b flash limit (Step.ld_reg t r) a)
  unfolding StepFits step_code step_cache mstep
  ld_reg-meets t r f = ld_reg_frag B C base rc a t r f.0 f.1

  pub st_reg-meets : (t r : ℕ) → StepFits (Step.st_reg t r) → Meets h base b s0 rc a {n = n} (step_code b rc (Step.st_reg t r)) (step_cache rc (Step.st_reg t r)) (mstep b flash limit (Step.st_reg t r) a)
  unfolding StepFits step_code step_cache mstep
  st_reg-meets t r f = by (a.t t) refl
    where
      by : (o : Option ℕ) → a.t t ≡ o → Meets h base b s0 rc a {n = n} (step_code b rc (Step.st_reg t r)) (step_cache rc (Step.st_reg t r)) (known o (λ v. go (with_card (set_reg r v a.c) a)))
      by none e = tt
      by (some v) e = st_reg_frag B C base rc a t r v f.0 f.1 e

  pub ld_field_meets : (f : Field) (t : ℕ) → StepFits (Step.ld_field f t) → Meets h base b s0 rc a {n = n} (step_code b rc (Step.ld_field f t)) (step_cache rc (Step.ld_field f t)) (mstep b flash limit (Step.ld_field f t) a)
  unfolding StepFits step_code step_cache mstep
  ld_field_meets f t q = ld_field_frag B C base rc a f t q

  pub st_field_meets : (f : Field) (t : ℕ) → StepFits (Step.st_field f t) → Meets h base b s0 rc a {n = n} (step_code b rc (Step.st_field f t)) (step_cache rc (Step.st_field f t)) (mstep b flash limit (Step.st_field f t) a)
  unfolding StepFits step_code step_cache mstep
  st_field_meets f t q = by (a.t t) refl
    where
      by : (o : Option ℕ) → a.t t ≡ o → Meets h base b s0 rc a {n = n} (step_code b rc (Step.st_field f t)) (step_cache rc (Step.st_field f t)) (known o (λ v. go (with_card (set_field f v a.c) a)))
      by none e = tt
      by (some v) e = st_field_frag B C base rc a f t v q e

  pub mov32-meets : (t v : ℕ) → StepFits (Step.mov32 t v) → Meets h base b s0 rc a {n = n} (step_code b rc (Step.mov32 t v)) (step_cache rc (Step.mov32 t v)) (mstep b flash limit (Step.mov32 t v) a)
  unfolding StepFits step_code step_cache mstep
  mov32-meets t v f = mov32-sim h base a t v f.0 f.1

  pub add_imm-meets : (d r v : ℕ) → StepFits (Step.add_imm d r v) → Meets h base b s0 rc a {n = n} (step_code b rc (Step.add_imm d r v)) (step_cache rc (Step.add_imm d r v)) (mstep b flash limit (Step.add_imm d r v) a)
  unfolding StepFits step_code step_cache mstep
  add_imm-meets d r v f = by (a.t r) refl
    where
      by : (o : Option ℕ) → a.t r ≡ o → Meets h base b s0 rc a {n = n} (step_code b rc (Step.add_imm d r v)) (step_cache rc (Step.add_imm d r v)) (known o (λ x. go (with_temp d (some (plus x v)) (with_temp 9 none a))))
      by none e = tt
      by (some x) e = add_imm-sim h base a d r v x f.0 f.1 f.2 f.3 e

  pub ins-step-meets : (i : Instr) → StepFits (Step.ins i) → Meets h base b s0 rc a {n = n} (step_code b rc (Step.ins i)) (step_cache rc (Step.ins i)) (mstep b flash limit (Step.ins i) a)
  unfolding StepFits step_code step_cache mstep
  ins-step-meets i q = ins-meets b s0 h base n rc a i q
