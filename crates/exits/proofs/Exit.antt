-- Leaving by the common exit: the break check and the limit.
--     exit_imm-exits       leave with a fixed pc
--     check_brk-meets, limit-meets     the steps
use mathlib.Core.Path.{◌≡◌, refl, ap, ◌∙◌}
use mathlib.Core.Bool.{Bool, true, false, cond}
use mathlib.Core.Option.{none, some}
use mathlib.Core.List.{List, [], ◌∷◌}
use Prim.Native.Nat.{ℕ, ◌+◌, ◌*◌, ◌%◌, ◌^◌, ◌<◌}
use native.Mathlib.Nat.{mod-eq_of_lt}
use native.Mathlib.Omega.{arith}
use borrow.Author.Tests.{ltb-true, ltb-false, le-leb, lt-leb}
use lib.Dec.{eqb, ltb, leb}
use Rattle.arm.specs.declared.Size.TheVariants.{W, X}
use Rattle.arm.specs.declared.Test.TheVariants.{Zero as is_zero}
use Rattle.block.specs.declared.Block.{Block}
use Rattle.block.specs.Checked.{Checked}
use Rattle.code.specs.Items.{b_cond, cb}
use Rattle.code.specs.Tree.{Depth, under, inner, code}
use Rattle.machine.specs.Bits.{IsZero, ConditionHolds}
use Rattle.machine.specs.State.{State, R, with_x, with_flags, processor, context}
use Rattle.machine.specs.Memory.{read_le, bytes_of}
use Rattle.machine.specs.Execute.{Helpers}
use Rattle.machine.proofs.Data.{exec-add_imm, exec_cmp}
use Rattle.machine.proofs.Flags.{compared, ls_means}
use Rattle.machine.proofs.Registers.{R_same, R_lt, W_of_X}
use Rattle.card.specs.Card.{set_hold, arrive}
use Rattle.card.specs.Step.{exits}
use Rattle.lowering.specs.declared.RegCache.{RegCache}
use Rattle.lowering.specs.Instrs.{CPU, CTX, DONE, LIMIT, LS, mov32, add_i, cmp, ldr, str}
use Rattle.lowering.specs.Steps.{Step}
use Rattle.lowering.specs.Fragments.{OFF_BRK, exit_imm, hold, check_brk, limit, step_code, step_cache}
use Rattle.demand.specs.Claim.{slot_of}
use Rattle.relation.specs.Lines.{arm, of_effect, bare, exec, taken}
use Rattle.relation.specs.Abs.{Abs, with_temp, with_card, upd, mstep}
use Rattle.relation.specs.Relation.{pc_of, cls, Body, Sim, AtExit, Frag, Meets}
use Rattle.relation.specs.Fits.{StepFits}
use Rattle.registers.proofs.Basics.{test, upd_same, sim_at, sim-flags, sim-put_none}
use Rattle.registers.proofs.Frags.{frag_map, frag_pre, frag_nil, frag-one, frag_cons, frag_append}
use Rattle.registers.proofs.Access.{wrote, count-now, ldr-now, str-now}
use Rattle.registers.proofs.Fields.{kept-hold, cached-apart, cached-card}
use Rattle.registers.proofs.Constants.{mov32_frag, mov32-sim}
use Rattle.exits.proofs.Ways.{Exits, frag_stays, goes_to, goes_then, goes-front, goes_map, frag_caught, exits_pre, exits-then, exits-block, exits_outs_exits, exits_here}
use Rattle.exits.proofs.Leaving.{Leaving, leaving_at, leaving-x, leaving-arrive, leaving-flush, pc_frag}

module _ {b : Block} {h : Helpers} {s0 : State} (B : Body b h s0) (C : Checked b) (base : ℕ) {n : Depth} where
  -- leave with pc, so many operations of this block done
  pub exit_imm-exits : (rc : RegCache) (a : Abs) (pc count t : ℕ) → pc < 2 ^ 32 → Exits h base b s0 {n = n} (exit_imm b rc pc count) (Sim b s0 rc a) exits (arrive pc count a.c) (λ p. t)
  unfolding exit_imm exec cls
  exit_imm-exits rc a pc count t l =
      exits-then (frag_append (leaving-flush B C base rc a) (frag_append number (frag_cons (pc_frag B C base 9 pc) counted))) (exits_here {t = λ p. t} (λ p s w. w ((base + 4 * t) % 2 ^ 64)))
    where
      number : Frag (arm h base) {n = n} (code (mov32 9 pc)) (λ s. Sim b s0 rc a s × Leaving b s0 a.c (pc_of b s0) (slot_of s0) a.c.done s)
          (λ s. Leaving b s0 a.c (pc_of b s0) (slot_of s0) a.c.done s × (R W s 9 ≡ pc))
      number = mov32_frag h base 9 pc (omega arith) l (λ s w. w.1.kept.fixed.registers)
          (λ s w. (leaving_at (leaving-x w.1 9 pc (λ e. absurd (omega arith)) (omega arith)) 0 0, R_same W 9 pc s (omega (arith, w.1.kept.fixed.registers)) ∙ mod-eq_of_lt l))

      counted : Frag (arm h base) {n = n} (code (add_i 0 DONE count ∷ [])) (Leaving b s0 a.c pc (slot_of s0) a.c.done) (λ s. (site : ℕ) → AtExit b s0 exits (arrive pc count a.c) site s)
      counted = frag-one (add_i 0 DONE count) (λ s. bare (with_x 0 ((R W s 26 + count) % 2 ^ 32) s)) (λ s w. ap of_effect (exec-add_imm h s W count 26 0 (omega arith) (omega arith)))
          (λ s w. let v : Leaving b s0 (arrive pc count a.c) pc (slot_of s0) a.c.done (bare (with_x 0 ((R W s 26 + count) % 2 ^ 32) s)) = leaving_at (leaving-x (leaving-arrive w pc count l) 0 ((R W s 26 + count) % 2 ^ 32) (λ e. absurd (omega arith)) (omega arith)) 0 0 in
          λ site. record {
            kept = v.kept;
            home = v.home;
            done_is = R_same W 0 ((R W s 26 + count) % 2 ^ 32) s (omega (arith, w.kept.fixed.registers)) ∙ rw w.done_is (omega arith);
            missed = tt;
          })

-- ---- the steps
module _ {b : Block} {h : Helpers} {s0 : State} (B : Body b h s0) (C : Checked b) (base : ℕ) (n : Depth) (flash : List ℕ) (rc : RegCache) (a : Abs) where
  -- w9 is the break word
  brk_frag : Frag (arm h base) {n = under n} (code (ldr 9 CTX OFF_BRK ∷ [])) (Sim b s0 rc a) (λ s. Sim b s0 rc (with_temp 9 none a) s × (R W s 9 ≡ a.c.brk))
  unfolding cls
  brk_frag = frag-one (ldr 9 CTX OFF_BRK) (λ s. bare (with_x 9 (read_le (bytes_of s.mem context) 24 4) s))
      (λ s w. ldr-now B w.kept CTX context 24 refl B.x20 (omega arith) 9 refl (omega (arith, B.context_in)))
      (λ s w. (
        sim_at (sim-put_none w 9 (read_le (bytes_of s.mem context) 24 4) refl) 0 0,
        R_same W 9 (read_le (bytes_of s.mem context) 24 4) s (omega (arith, w.kept.fixed.registers)) ∙ ap (λ y. y % 2 ^ 32) w.kept.ctx.brk_is ∙ mod-eq_of_lt w.kept.small.brk_lt,
      ))

  pub check_brk-meets : (lim : ℕ) (glue : Bool) (pc count : ℕ) → StepFits (Step.check_brk glue pc count)
      → Meets h base b s0 rc a {n = n} (step_code b rc (Step.check_brk glue pc count)) (step_cache rc (Step.check_brk glue pc count)) (mstep b flash lim (Step.check_brk glue pc count) a)
  unfolding StepFits step_code step_cache mstep check_brk taken hold cls
  check_brk-meets lim glue pc count f = test (eqb a.c.brk 0)
      (λ e. rw e (frag_caught (goes_then brk_frag (goes-front (goes_map (goes_to (cb W is_zero 9) inner (λ s w. asks s ∙ ap IsZero w.1 ∙ e)) (λ s w. w.0))))))
      (λ e. rw e (exits_outs_exits (exits-block (exits-then brk_frag (exits-then (frag_stays (cb W is_zero 9) inner (λ s w. asks s ∙ ap IsZero w.1 ∙ e))
      (exits-then (frag_pre (λ s w. w.0) (hold_frag (with_temp 9 none a) glue)) (exit_imm-exits B C base rc marked pc count 0 f.0)))))))
    where
      -- the hold mark of a glued pair
      hold_frag : (a : Abs) (glue : Bool) → Frag (arm h base) {n = under n} (code (hold b rc glue)) (Sim b s0 rc a)
          (Sim b s0 rc (with_card (set_hold (cond glue 1 a.c.hold) a.c) (cond glue (with_temp 9 (some 1) a) a)))
      hold_frag a false =
          frag_map frag_nil
          (λ s w. record { kept = w.kept; slots = w.slots; cached = w.cached; temps = w.temps; flags = w.flags; done_is = w.done_is })
      hold_frag a true = frag_append (mov32-sim h base a 9 1 refl (omega arith))
          (frag-one (str 9 CPU b.layout.hold) (λ s. bare (wrote processor b.layout.hold 4 (R X s 9) s))
          (λ s w. str-now B w.kept CPU processor b.layout.hold refl B.x19 (omega arith) 9 refl C.layout.hold.aligned B.hold_in)
          (λ s w. sim_at (record {
            kept = kept-hold B w.kept C (R X s 9) 1 (W_of_X s 9 ∙ w.temps 9 1 refl (upd_same a.t 9 (some 1)));
            slots = w.slots;
            cached = cached-card
                (cached-apart w.cached b.layout.hold (R X s 9) (omega (arith, count-now B w.kept)) C.layout.regs-hold)
                (set_hold 1 a.c) refl;
            temps = w.temps;
            flags = w.flags;
            done_is = w.done_is;
          }) 0 0))

      marked : Abs
      marked = with_card (set_hold (cond glue 1 a.c.hold) a.c) (cond glue (with_temp 9 (some 1) (with_temp 9 none a)) (with_temp 9 none a))

      asks : (s : State) → taken (cb W is_zero 9) s ≡ IsZero (R W s 9)
      asks s = refl

  -- w9 is the count, and compared with the limit
  count_frag : (count : ℕ) → a.c.done + count < 2 ^ 32 → Frag (arm h base) {n = under n} (code (add_i 9 DONE count ∷ cmp 9 LIMIT ∷ [])) (Sim b s0 rc a)
      (λ s. Sim b s0 rc (record { c = a.c; t = upd a.t 9 none; f = none }) s × (s.nzcv ≡ compared W (a.c.done + count) (R W s0 27)))
  unfolding exec cls
  count_frag count l = frag_cons {B = λ s. Sim b s0 rc (with_temp 9 none a) s × (R W s 9 ≡ a.c.done + count)}
      (frag-one (add_i 9 DONE count) (λ s. bare (with_x 9 ((R W s 26 + count) % 2 ^ 32) s)) (λ s w. ap of_effect (exec-add_imm h s W count 26 9 (omega arith) (omega arith)))
      (λ s w. (
        sim_at (sim-put_none w 9 ((R W s 26 + count) % 2 ^ 32) refl) 0 0,
        R_same W 9 ((R W s 26 + count) % 2 ^ 32) s (omega (arith, w.kept.fixed.registers)) ∙ rw w.done_is (omega arith),
      )))
      (frag-one (cmp 9 LIMIT) (λ s. bare (with_flags (compared W (R W s 9) (R W s 27)) s)) (λ s w. ap of_effect (exec_cmp h s W 27 9 w.0.kept.fixed.registers))
      (λ s w. (
        sim_at (sim-flags w.0 (compared W (R W s 9) (R W s 27)) none (λ u e. cc)) 0 0,
        ap (λ y. compared W y (R W s 27)) w.1 ∙ ap (λ y. compared W (a.c.done + count) (y % 2 ^ 32)) (w.0.kept.fixed.keeps 27 refl),
      )))

  pub limit-meets : (pc count : ℕ) → StepFits (Step.limit pc count) → a.c.done + count < 2 ^ 32
      → Meets h base b s0 rc a {n = n} (step_code b rc (Step.limit pc count)) (step_cache rc (Step.limit pc count)) (mstep b flash (R W s0 27) (Step.limit pc count) a)
  unfolding StepFits step_code step_cache mstep limit taken
  limit-meets pc count f l = test (ltb (R W s0 27) (a.c.done + count))
      (λ e. rw e (exits_outs_exits (exits-block (exits-then (count_frag count l) (exits-then (frag_stays (b_cond LS) inner (λ s w. asks s w.1 ∙ passed e))
      (exits_pre (λ s w. w.0) (exit_imm-exits B C base rc (record { c = a.c; t = upd a.t 9 none; f = none }) pc 0 0 f.0)))))))
      (λ e. rw e (frag_caught (goes_then (count_frag count l) (goes-front (goes_map (goes_to (b_cond LS) inner (λ s w. asks s w.1 ∙ fits e)) (λ s w. w.0))))))
    where
      asks : (s : State) → s.nzcv ≡ compared W (a.c.done + count) (R W s0 27) → taken (b_cond LS) s ≡ leb (a.c.done + count) (R W s0 27)
      asks s e = ap (ConditionHolds 9) e ∙ ls_means W (a.c.done + count) (R W s0 27) l (R_lt W s0 27)

      passed : ltb (R W s0 27) (a.c.done + count) ≡ true → leb (a.c.done + count) (R W s0 27) ≡ false
      passed e = lt-leb (a.c.done + count) (R W s0 27) (ltb-true (R W s0 27) (a.c.done + count) e)

      fits : ltb (R W s0 27) (a.c.done + count) ≡ false → leb (a.c.done + count) (R W s0 27) ≡ true
      fits e = le-leb (a.c.done + count) (R W s0 27) (ltb-false (R W s0 27) (a.c.done + count) e)
